-- `chain::walk::spread` meets its contract. Assumes nothing.
use mathlib.Core.Path.{◌∙◌}
use Rattle.chain.proofs.Sets.{bit_flag}
use Rattle.chain.proofs.walk.spread.Goals as goal

pub returns : goal.returns
returns c =
    let set = c.args.set in
    let e0 = c.bit_at.ensures ∙ bit_flag set 0 in
    let e1 = c.bit_at-2.ensures ∙ bit_flag set 1 in
    let e2 = c.bit_at-3.ensures ∙ bit_flag set 2 in
    let e3 = c.bit_at-4.ensures ∙ bit_flag set 3 in
    rw (e0, e1, e2, e3)
