-- `adder::sum::infinite_sum` meets its contract. Assumes nothing.
use borrow.Author.Tests.{eq-eqb, ne_eqb}
use Rattle.adder.specs.Result.{infinite_sum}
use Rattle.adder.proofs.sum.infinite_sum.Goals as goal

pub returns-in-Finite : goal.returns-in-Finite
unfolding infinite_sum
returns-in-Finite c = rw c.in-Finite.is c.infinity.ensures

pub returns-then-sign-t : goal.returns-then-sign-t
unfolding infinite_sum
returns-then-sign-t c = rw (c.in-Infinite.is, eq-eqb _ _ c.if-sign-t.true) c.infinity-then-sign-t.ensures

pub returns-else-sign-t : goal.returns-else-sign-t
unfolding infinite_sum
returns-else-sign-t c = rw (c.in-Infinite.is, ne_eqb _ _ c.if-sign-t.false) c.nan.ensures

pub returns-in-Nan : goal.returns-in-Nan
unfolding infinite_sum
returns-in-Nan c = rw c.in-Nan.is c.nan-in-Nan.ensures
