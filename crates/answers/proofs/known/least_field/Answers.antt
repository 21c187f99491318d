-- `answers::known::least_field` meets its contract. Assumes nothing.
use Prim.Native.Nat.{◌+◌}
use native.Mathlib.Omega.{arith}
use borrow.Author.Tests.{le-leb, lt-leb}
use Rattle.classes.specs.Class.{top_field, least_field}
use Rattle.answers.proofs.known.least_field.Goals as goal

pub returns-then-class-reach : goal.returns-then-class-reach
unfolding least_field
returns-then-class-reach c = let a = c.args in rw (le-leb (a.class.low.0 + 2) (top_field a.reach).0 (omega (arith, c.if-class-reach.true)))

pub returns-else-class-reach : goal.returns-else-class-reach
unfolding least_field
returns-else-class-reach c = let a = c.args in rw (lt-leb (a.class.low.0 + 2) (top_field a.reach).0 (omega (arith, c.if-class-reach.false)))
