-- What is left to ask of a fraction where the sign and the exponent field of a word are known (document 02, W-207): it meets its part of the
-- mask, and lies in an interval; where there are no bounds, it meets the mask. `allowed_fields` is the one law for a, b and c. Assumes nothing.
-- Internal: no public contract cites this.
use Rattle.bounds.specs.declared.Ends.{Ends}
use Rattle.std.specs.Prelude.{ℕ, ◌-◌, ◌*◌, ◌^◌, ◌≤◌, ◌<◌, Option, Some, None}
use Rattle.format.specs.declared.Format.{Format}
use Rattle.mask.specs.Mask.{Meets}
use Rattle.word.specs.Masks.{sign_mask, exponent_mask, fraction_mask}
use Rattle.job.specs.declared.Wanted.{Wanted}
use Rattle.narrowing.specs.Range.{range_of}

-- the interval of fractions that the range of the sign s leaves at the exponent field e
abbrev pub FractionWithin : Format → Option Ends → ℕ → ℕ → ℕ → Type 0
FractionWithin F None s e t = Prim.Unit {0}
FractionWithin F (Some b) s e t = ((range_of F b s).low - e * 2 ^ F.f ≤ t) × (t < (range_of F b s).past - e * 2 ^ F.f)

-- sign and exponent field meet their masks, and so much is left to ask of the fraction t
pub record FieldsAllowed (F : Format) (W : Wanted) (s e t : ℕ) : Type 0 where
  pub sign : Meets s (sign_mask F W.mask)
  pub exponent : Meets e (exponent_mask F W.mask)
  pub fraction : Meets t (fraction_mask F W.mask)
  pub within : FractionWithin F W.bounds s e t
