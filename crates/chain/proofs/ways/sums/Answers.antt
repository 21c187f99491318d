-- `chain::ways::sums` meets its contract: each way is the two bits of u and t that make it. Assumes nothing.
use Rattle.chain.proofs.Column.{sums_way}
use Rattle.chain.proofs.ways.sums.Goals as goal

pub returns : goal.returns
returns c i cin cout b =
    let a = c.args in
    sums_way a.u a.t a.y a.c i cin cout b
