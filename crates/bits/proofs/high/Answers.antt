-- `bits::high` meets its contract: a word of 64 bits has nothing from position 64 on. Assumes nothing.
use mathlib.Core.Path.{sym}
use native.Mathlib.Nat.{div-eq_of_lt}
use Rattle.bits.proofs.Laws.{word_lt}
use Rattle.bits.proofs.high.Goals as goal

pub returns-else-k-lt64 : goal.returns-else-k-lt64
returns-else-k-lt64 c = sym (div-eq_of_lt (word_lt c.ranges.x.fits c.if-k-lt64.false))
