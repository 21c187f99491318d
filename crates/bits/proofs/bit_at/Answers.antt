-- `bits::bit_at` meets its contract: from position 64 on a word of 64 bits has no bit. Assumes nothing.
use mathlib.Core.Path.{sym}
use Rattle.bits.proofs.Laws.{word_lt, bit_above}
use Rattle.bits.proofs.bit_at.Goals as goal

pub returns-else-i-lt64 : goal.returns-else-i-lt64
returns-else-i-lt64 c =
    let a = c.args in
    sym (bit_above a.i (word_lt c.ranges.x.fits c.if-i-lt64.false))
