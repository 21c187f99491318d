-- `lines::text::with_byte` meets its contract. Assumes nothing.
use native.Mathlib.Omega.{arith}
use Rattle.lines.proofs.Texts.{grown_byte}
use Rattle.lines.proofs.text.with_byte.Goals as goal

pub bounds-next-at : goal.bounds-next-at
bounds-next-at c = omega (arith, c.requires.enough)

pub overflow_add-next : goal.overflow_add-next
overflow_add-next c = omega (arith, c.requires.enough)

pub returns : goal.returns
returns c = grown_byte c.args.line c.args.b c.requires
