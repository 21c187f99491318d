-- `adder::sum::kind_sum` meets its contract. Assumes nothing.
use Rattle.adder.specs.Result.{kind_sum}
use Rattle.adder.proofs.sum.kind_sum.Goals as goal

pub finite_sum-requires : goal.finite_sum-requires
finite_sum-requires c =
    (c.requires.0, rw c.in-Finite.is at c.requires.1, rw c.in-Finite-b.is at c.requires.2)

pub infinity-requires : goal.infinity-requires
infinity-requires c =
    (c.requires.0, rw c.in-Infinite-b.is at c.requires.2)

pub infinite_sum-requires : goal.infinite_sum-requires
infinite_sum-requires c =
    (c.requires.0, rw c.in-Infinite.is at c.requires.1)

pub returns-in-Finite-b : goal.returns-in-Finite-b
unfolding kind_sum
returns-in-Finite-b c = rw (c.in-Finite.is, c.in-Finite-b.is) c.finite_sum.ensures

pub returns-in-Infinite-b : goal.returns-in-Infinite-b
unfolding kind_sum
returns-in-Infinite-b c = rw (c.in-Finite.is, c.in-Infinite-b.is) c.infinity.ensures

pub returns-in-Nan-b : goal.returns-in-Nan-b
unfolding kind_sum
returns-in-Nan-b c = rw (c.in-Finite.is, c.in-Nan-b.is) c.nan.ensures

pub returns-in-Infinite : goal.returns-in-Infinite
unfolding kind_sum
returns-in-Infinite c = rw c.in-Infinite.is c.infinite_sum.ensures

pub returns-in-Nan : goal.returns-in-Nan
unfolding kind_sum
returns-in-Nan c = rw c.in-Nan.is c.nan-in-Nan.ensures
