-- `whole::left::transitions` meets its contract: each word joins the two places of z at one pair of carries. Assumes nothing.
use mathlib.Core.Path.{ap, ◌∙◌}
use mathlib.Core.Bool.{false}
use Rattle.mask.specs.declared.Mask.{Mask}
use Rattle.chain.specs.Ways.{lets, way_of}
use Rattle.whole.proofs.Ways.{table_into}
use Rattle.whole.proofs.left.transitions.Goals as goal

pub returns : goal.returns
returns c i cin cout hi hc ht =
    let s = c.args.s in
    table_into s i c.adder-w.result
    (λ d e b.
    c.adder-w.ensures i d e b hi
    ∙ ap (λ (m : Mask). way_of false (lets s.x i) (lets s.y i) (lets s.z i) (lets m i) d e b) c.high.ensures)
    (record {
      to0 = record { zero = c.any.result; one = c.any-2.result };
      to1 = record { zero = c.any-3.result; one = c.any-4.result };
    })
    (c.any.ensures i)
    (c.any-2.ensures i)
    (c.any-3.ensures i)
    (c.any-4.ensures i)
    cin
    cout
    hc
    ht
