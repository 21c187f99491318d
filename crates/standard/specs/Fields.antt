-- A word by its fields (document 01, "Numbers of a format"), and the words that a sum gives where no number is rounded into them: the one
-- NaN, infinity and the largest finite number (document 01, "The rounded result"). Assumes nothing.
use Rattle.std.specs.Prelude.{◌≡◌, ℕ, ◌+◌, ◌-◌, ◌%◌, ◌^◌}
use Rattle.format.specs.declared.Format.{Format}
use Rattle.word.specs.Word.{fraction, biased, sign}

-- x has the sign s, the exponent field e and the fraction t
pub record Fields (F : Format) (x s e t : ℕ) : Type 0 where
  pub sign_is : sign F x ≡ s
  pub exponent_is : (biased F x).0 ≡ e
  pub fraction_is : fraction F x ≡ t

-- the one NaN: sign 0, exponent all ones, top fraction bit 1 and the others 0
abbrev pub TheNan : Format → ℕ → Type 0
TheNan F c = Fields F c 0 (2 ^ F.w - 1) (2 ^ (F.f - 1))

-- infinity of a sign: exponent all ones, fraction 0
abbrev pub Infinity : Format → ℕ → ℕ → Type 0
Infinity F s c = Fields F c s (2 ^ F.w - 1) 0

-- the largest finite number of a sign: the last exponent before that of infinity, fraction all ones
abbrev pub LargestFinite : Format → ℕ → ℕ → Type 0
LargestFinite F s c = Fields F c s (2 ^ F.w - 2) (2 ^ F.f - 1)

-- the effective sign of b: operation 1 subtracts, which flips it
abbrev pub effective_sign : Format → ℕ → ℕ → ℕ
effective_sign F operation b = (sign F b + operation) % 2
