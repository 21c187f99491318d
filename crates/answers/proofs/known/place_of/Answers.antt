-- `answers::known::place_of` meets its contract. Assumes nothing.
use mathlib.Core.Path.{◌≡◌}
use native.Mathlib.Omega.{arith}
use Rattle.answers.proofs.known.place_of.Goals as goal

pub returns-then-class-eq0 : goal.returns-then-class-eq0
returns-then-class-eq0 c = rw c.if-class-eq0.true (omega arith)

pub returns-else-class-eq0 : goal.returns-else-class-eq0
returns-else-class-eq0 c = let one : c.args.class.order ≡ 1 = omega (arith, c.if-class-eq0.false, c.requires.1.order_lt) in rw one (omega arith)
