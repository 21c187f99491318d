-- Signed numbers as integers, and what each mode asks of the rounded one (IEEE 754, "Rounding-direction attributes"; document 01,
-- "The rounded result"; document 02, W-201). Assumes nothing.
use Rattle.std.specs.Prelude.{◌≡◌, ℕ, zero, suc, ◌-◌, ◌^◌, ◌≤◌, ◌<◌, ℤ, pos, neg_ℤ, nat_abs, ◌-ℤ◌, ◌≤ℤ◌}
use Rattle.format.specs.declared.Format.{Format}
use Rattle.word.specs.Word.{biased, sign}
use Rattle.word.specs.Operand.{finite_of, magnitude}
use Rattle.standard.specs.Representable.{Representable, magnitude_of, EvenWord}
use Rattle.standard.specs.Rounds.{GreatestNotAbove, LeastNotBelow, Closest}

-- the number of a sign and a magnitude: sign 0 is +
abbrev pub signed_number : ℕ → ℕ → ℤ
signed_number zero X = pos X
signed_number (suc s) X = neg_ℤ (pos X)

-- what a finite word stands for, in smallest steps
abbrev pub number : Format → ℕ → ℤ
number F x = signed_number (sign F x) (magnitude (finite_of F x))

-- a word that is neither infinity nor a NaN: e is not all ones
abbrev pub FiniteWord : Format → ℕ → Type 0
FiniteWord F x = (biased F x).0 ≡ 2 ^ F.w - 1 → ⊥

-- the numbers of the format, of either sign
abbrev pub OfFormat : Format → ℤ → Type 0
OfFormat F n = Representable F (nat_abs n)

-- how far two numbers are apart
abbrev pub apart : ℤ → ℤ → ℕ
apart m n = nat_abs (m -ℤ n)

-- the significand of r is even: that of the one word of its magnitude
pub record EvenNumber (F : Format) (r : ℤ) : Type 0 where
  pub word : ℕ
  pub is : magnitude_of F word ≡ nat_abs r
  pub even : EvenWord F word

-- the closest number; where another is as near, one that is preferred to it
pub record Nearest (preferred : ℤ → ℤ → Type 0) (F : Format) (z r : ℤ) : Type 0 where
  pub nearest : Closest apart (OfFormat F) z r
  pub tie : (n : ℤ) → OfFormat F n → (n ≡ r → ⊥) → apart n z ≡ apart r z → preferred r n

-- roundTiesToEven: where another is as near, one with an even significand
abbrev pub TiesToEven : Format → ℤ → ℤ → Type 0
TiesToEven F = Nearest (λ r n. EvenNumber F r) F

-- roundTiesToAway: where another is as near, the one with the larger magnitude
abbrev pub TiesToAway : Format → ℤ → ℤ → Type 0
TiesToAway F = Nearest (λ r n. nat_abs n < nat_abs r) F

-- modes 0 nearest with ties to even, 1 toward zero: closest to z and no greater in magnitude, 2 up: the least not below z, 3 down: the
-- greatest not above z, 4 nearest with ties away from zero; no other number is a mode
abbrev pub RoundsTo : Format → ℕ → ℤ → ℤ → Type 0
RoundsTo F zero z r = TiesToEven F z r
RoundsTo F (suc zero) z r = Closest apart (λ n. OfFormat F n × (nat_abs n ≤ nat_abs z)) z r
RoundsTo F (suc (suc zero)) z r = LeastNotBelow ◌≤ℤ◌ (OfFormat F) z r
RoundsTo F (suc (suc (suc zero))) z r = GreatestNotAbove ◌≤ℤ◌ (OfFormat F) z r
RoundsTo F (suc (suc (suc (suc zero)))) z r = TiesToAway F z r
RoundsTo F (suc (suc (suc (suc (suc m))))) z r = ⊥
