-- `left::halving::higher` meets its contract. Assumes nothing.
use borrow.Author.Tests.{lt-ltb, le-ltb}
use Rattle.left.proofs.halving.higher.Goals as goal

pub returns-then-j-k : goal.returns-then-j-k
returns-then-j-k c =
    let a = c.args in
    rw (c.in-Split.is, lt-ltb c.in-Split.j a.k c.if-j-k.true)

pub returns-in-Settled : goal.returns-in-Settled
returns-in-Settled c = rw c.in-Settled.is

pub returns-else-j-k : goal.returns-else-j-k
returns-else-j-k c =
    let a = c.args in
    rw (c.in-Split.is, le-ltb c.in-Split.j a.k c.if-j-k.false)
