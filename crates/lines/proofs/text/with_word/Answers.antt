-- `lines::text::with_word` meets its contract. Assumes nothing.
use native.Mathlib.Omega.{arith}
use Rattle.lines.specs.Text.{word}
use Rattle.lines.proofs.Texts.{grown_then, room_left}
use Rattle.lines.proofs.text.with_word.Goals as goal

pub with_byte-requires : goal.with_byte-requires
with_byte-requires c = record { whole = c.requires.1.whole; enough = omega (arith, c.requires.1.enough) }

pub with_digits-requires : goal.with_digits-requires
with_digits-requires c = (omega arith, omega arith, room_left c.args.k 17 c.requires.1 c.with_byte.ensures (omega (arith, c.requires.0)))

pub returns : goal.returns
unfolding word
returns c = grown_then c.with_byte.ensures c.with_digits.ensures
