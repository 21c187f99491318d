-- `chain::walk::transitions` meets its contract: each set of leading columns joins the ways of the two adders at one pair of carries out. Assumes nothing.
use mathlib.Core.Path.{ap, ◌∙◌}
use Rattle.mask.specs.declared.Mask.{Mask}
use Rattle.chain.specs.Ways.{lets, way_of}
use Rattle.chain.proofs.Link.{table_into}
use Rattle.chain.proofs.walk.transitions.Goals as goal

pub returns : goal.returns
returns c i s t hi hs ht =
    let w = c.args.w in
    table_into w c.adder-f.result c.second-g.result i
    (λ cin cout b.
    c.adder-f.ensures i cin cout b hi
    ∙ ap (λ (m : Mask). way_of w.subtract (lets w.l i) (lets w.t i) (lets w.x i) (lets m i) cin cout b) c.high.ensures)
    (λ cin cout b. c.second-g.ensures i cin cout b hi)
    (record { to0 = c.leading.result; to1 = c.leading-2.result; to2 = c.leading-3.result; to3 = c.leading-4.result })
    (c.leading.ensures i)
    (c.leading-2.ensures i)
    (c.leading-3.ensures i)
    (c.leading-4.ensures i)
    s
    t
    hs
    ht
