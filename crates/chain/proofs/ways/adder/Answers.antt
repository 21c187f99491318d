-- `chain::ways::adder` meets its contract: the sum of the wires, l and x turned over for a difference. Assumes nothing.
use mathlib.Core.Path.{ap, ap₂, ◌∙◌}
use mathlib.Core.Bool.{false}
use Rattle.chain.specs.declared.ways.Places.{Places}
use Rattle.chain.specs.Ways.{may, way_of}
use Rattle.chain.proofs.Column.{adder_way}
use Rattle.chain.proofs.ways.adder.Goals as goal

pub returns : goal.returns
returns c i cin cout b h =
    let a = c.args in
    let pl = c.open.result in
    let px = c.open-2.result in
    let pt = c.open-3.result in
    let pc = c.open-4.result in
    let w = c.sums.result in
    ap (λ (p : Places). may p i b) (c.turned_ways.ensures cin cout)
    ∙ adder_way a.l a.t a.x a.c pl pt px pc w i
    (λ v. c.open.ensures i v h)
    (λ v. c.open-3.ensures i v h)
    (λ v. c.open-2.ensures i v h)
    (λ v. c.open-4.ensures i v h)
    a.subtract
    (λ cin cout b.
    c.sums.ensures i cin cout b
    ∙ ap₂ (λ (p q : Places). way_of false (may p i) (may pt i) (may q i) (may pc i) cin cout b)
    c.turned-u.ensures
    c.turned-y.ensures)
    cin
    cout
    b
