-- `adder::carry_row::finite_row` meets its contract. Assumes nothing.
use native.Mathlib.Omega.{arith}
use borrow.Author.Tests.{lt-ltb, le-ltb}
use Rattle.adder.specs.Row.{finite_row}
use Rattle.adder.proofs.carry_row.finite_row.Goals as goal

pub ordered_row-requires : goal.ordered_row-requires
ordered_row-requires c = (c.requires.0, c.requires.2, c.requires.1, omega (arith, c.if-x-y.true))

pub ordered_row-requires-else-x-y : goal.ordered_row-requires-else-x-y
ordered_row-requires-else-x-y c = (c.requires.0, c.requires.1, c.requires.2, omega (arith, c.if-x-y.false))

pub returns-then-x-y : goal.returns-then-x-y
unfolding finite_row
returns-then-x-y c = rw (lt-ltb _ _ c.if-x-y.true) c.ordered_row.ensures

pub returns-else-x-y : goal.returns-else-x-y
unfolding finite_row
returns-else-x-y c = rw (le-ltb _ _ c.if-x-y.false) c.ordered_row-else-x-y.ensures
