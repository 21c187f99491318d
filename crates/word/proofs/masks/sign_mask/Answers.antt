-- `word::masks::sign_mask` meets its contract: two quotients by powers of two are one. Assumes nothing.
use Rattle.std.proofs.Common.{◌≡◌, ℕ, ◌+◌, ap, ◌∙◌, ap₂, shr-shr}
use Rattle.mask.specs.declared.Mask.{Mask}
use Rattle.mask.specs.Mask.{low, high}
use Rattle.word.proofs.masks.sign_mask.Goals as goal

high_high : (j k : ℕ) (m : Mask) → high k (high j m) ≡ high (j + k) m
high_high j k m = ap₂ (λ (c v : ℕ). record { care = c; value = v }) (shr-shr m.care j k) (shr-shr m.value j k)

pub returns : goal.returns
returns c =
    c.low.ensures
    ∙ ap (low 1) (c.high-2.ensures ∙ ap (high c.args.format.f) c.high.ensures ∙ high_high c.args.format.w c.args.format.f c.args.m)
