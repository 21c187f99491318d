-- What the parts are that a word is put together from (document 01, "Numbers of a format"). Assumes nothing.
use Rattle.std.specs.Prelude.{ℕ, ◌+◌, ◌^◌, ◌<◌}
use Rattle.format.specs.declared.Format.{Format}
use Rattle.format.specs.Format.{Supported}

-- a supported format, a sign bit, and the word of a magnitude
pub record SignedFits (F : Format) (s m : ℕ) : Type 0 where
  pub supported : Supported F
  pub sign_lt : s < 2
  pub magnitude_lt : m < 2 ^ (F.w + F.f)

-- a supported format, a sign bit, an exponent field, and a fraction
pub record FieldsFit (F : Format) (s e t : ℕ) : Type 0 where
  pub supported : Supported F
  pub sign_lt : s < 2
  pub exponent_lt : e < 2 ^ F.w
  pub fraction_lt : t < 2 ^ F.f
