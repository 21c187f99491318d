-- `significand::tail_mask` meets its contract: the two tests are those of `tail_mask`. Assumes nothing.
use Rattle.std.proofs.Common.{◌≡◌, false, sym, ◌∙◌}
use Rattle.mask.specs.Mask.{well_formed}
use Rattle.mask.proofs.Checks.{well_formed_true}
use Rattle.significand.specs.Tail.{tail_mask}
use Rattle.significand.proofs.Tail.{room_of, tail_aligned}
use Rattle.significand.proofs.tail_mask.Goals as goal

pub aligned_mask-requires : goal.aligned_mask-requires
aligned_mask-requires c =
    let a = c.args in
    (sym c.roomy.ensures ∙ c.if-roomy.true, (well_formed_true a.p a.m).0 (sym c.well_formed-then-roomy.ensures ∙ c.if-well_formed.true))

pub returns-then-well_formed : goal.returns-then-well_formed
returns-then-well_formed c =
    let a = c.args in
    let w = (well_formed_true a.p a.m).0 (sym c.well_formed-then-roomy.ensures ∙ c.if-well_formed.true) in
    let r = room_of a.below a.p (sym c.roomy.ensures ∙ c.if-roomy.true) in
    c.aligned_mask.ensures ∙ sym (tail_aligned a.below a.p a.m a.gap r w)

pub returns-else-well_formed : goal.returns-else-well_formed
unfolding tail_mask
returns-else-well_formed c =
    let a = c.args in
    let n : well_formed a.p a.m ≡ false = sym c.well_formed-then-roomy.ensures ∙ c.if-well_formed.false in
    simp (sym c.roomy.ensures ∙ c.if-roomy.true, n)

pub returns-else-roomy : goal.returns-else-roomy
unfolding tail_mask
returns-else-roomy c = simp (sym c.roomy.ensures ∙ c.if-roomy.false)
