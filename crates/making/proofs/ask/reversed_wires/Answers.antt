-- `making::ask::reversed_wires` meets its contract. Assumes nothing.
use Rattle.making.proofs.Reversed.{reversed_asked}
use Rattle.making.proofs.ask.reversed_wires.Goals as goal

pub returns : goal.returns
returns c =
    let a = c.args in
    let up = c.one_above-tail in
    let over = c.opposite in
    λ f. reversed_asked f a.aligned up.result over.result c.raised-carries.result a.z up.ensures over.ensures c.raised-carries.ensures
