-- `mask::well_formed` meets its contract: care has no cause as a word exactly where it is below 2^width. Assumes nothing.
use Rattle.std.proofs.Common.{◌≡◌, ◌∙◌, refl, ap, ap₂, Bool, true, false, ℕ, ◌^◌}
use Rattle.std.specs.Prelude.{◌&&◌, ltb, is_ok}
use Rattle.format.specs.declared.cause.Cause.TheVariants as cause
use Rattle.format.specs.Cause.{unless}
use Rattle.format.specs.Format.{word_cause}
use Rattle.mask.proofs.well_formed.Goals as goal

word_fits : (width x : ℕ) → is_ok (word_cause width x) ≡ ltb x (2 ^ width)
unfolding word_cause
word_fits width x = go (ltb x (2 ^ width))
  where
    go : (t : Bool) → is_ok (unless t cause.Word) ≡ t
    go true = refl
    go false = refl

pub returns : goal.returns
returns c =
    let a = c.args in
    ap₂ ◌&&◌ (c.is_ok.ensures.value ∙ ap is_ok c.word_cause.ensures ∙ word_fits a.width a.m.care) c.inside.ensures
