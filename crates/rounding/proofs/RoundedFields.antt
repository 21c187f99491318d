-- The fields of a rounded word from the exact magnitude X. With k dropped bits and Y the kept part rounded, the exponent field is k and the
-- quotient of Y by 2^f, the fraction is the rest: a quotient of 0 is a subnormal number, 1 a normal one, and 2 a normal one after the
-- rounding carried. Assumes nothing.
use mathlib.Core.Path.{◌≡◌, ap, ◌∙◌, subst}
use mathlib.Core.Logic.{◌↔◌}
use Prim.Native.Nat.{ℕ, ◌+◌, ◌/◌, ◌%◌, ◌^◌, ◌≤◌, ◌<◌}
use native.Mathlib.Nat.{le-div_iff_mul-le, div-lt_iff_lt-mul, div-eq_of_lt, lt_of_lt_of_le, lt_trans}
use native.Mathlib.Decide.{ℕ_discrete}
use native.Mathlib.Omega.{arith}
use lib.Ieee.{size}
use lib.Ieee.Digits.{size-lt, size-le, size_reaches}
use lib.Pow.{pow_pos, pow_mono, pow-add}
use Rattle.format.specs.declared.Format.{Format}
use Rattle.format.specs.Format.{Supported, precision}
use Rattle.rounding.specs.declared.Direction.{Direction}
use Rattle.word.specs.Word.{fraction, biased, sign, signed, infinity_word}
use Rattle.rounding.specs.Rounding.{direction, round_off, dropped, magnitude_word, bounded_word, rounded}
use Rattle.word.proofs.Bounds.{infinity_lt}
use Rattle.rounding.proofs.RoundOff.{increment_le, round_off_none}
use Rattle.rounding.proofs.Rounded.{bounded_within, bounded_lt}
use Rattle.word.proofs.Fields.{signed_sign, signed_biased, signed_fraction}

-- nothing is dropped of a number of p bits at most
pub dropped_none : (F : Format) (X : ℕ) → dropped F X ≡ 0 ↔ (X < 2 ^ precision F)
dropped_none F X = (
  λ e. lt_of_lt_of_le (size-lt X) (pow_mono {i = size X} {j = precision F} (omega arith)),
  λ h. let m = size-le X (precision F) h in omega arith,
)

module _ (F : Format) (d : Direction) (X : ℕ) where
  -- what is kept has p bits, and its top bit stands, unless X is shorter
  kept_bounds : 0 < dropped F X → (2 ^ F.f ≤ X / 2 ^ dropped F X) × (X / 2 ^ dropped F X < 2 ^ precision F)
  kept_bounds pos = (
    (le-div_iff_mul-le (pow_pos (dropped F X))).1 (subst (λ (n : ℕ). n ≤ X) (pow-add 2 F.f (dropped F X)) (size_reaches X (F.f + dropped F X) (omega arith))),
    (div-lt_iff_lt-mul (pow_pos (dropped F X))).1
        (subst (λ (n : ℕ). X < n) (pow-add 2 (precision F) (dropped F X)) (lt_of_lt_of_le (size-lt X) (pow_mono {i = size X} {j = precision F + dropped F X} (omega arith)))),
  )

  kept_exact : dropped F X ≡ 0 → round_off d X (dropped F X) ≡ X
  kept_exact e = ap (round_off d X) e ∙ round_off_none d X

  kept_normal : 0 < dropped F X → (2 ^ F.f ≤ round_off d X (dropped F X)) × (round_off d X (dropped F X) ≤ 2 ^ precision F)
  unfolding round_off
  kept_normal pos =
      let b = kept_bounds pos in
      let i = increment_le d (X / 2 ^ dropped F X) (X % 2 ^ dropped F X) (2 ^ dropped F X) in
      (omega arith, omega arith)

  pub kept_le : round_off d X (dropped F X) ≤ 2 ^ precision F
  kept_le = go (ℕ_discrete (dropped F X) 0)
    where
      go : Dec (dropped F X ≡ 0) → round_off d X (dropped F X) ≤ 2 ^ precision F
      go (yes e) = let h = (dropped_none F X).0 e in omega (arith, kept_exact e)
      go (no e) = (kept_normal (omega arith)).1

  -- it is 0 for a subnormal number, of which nothing is dropped
  pub kept_subnormal : round_off d X (dropped F X) / 2 ^ F.f ≡ 0 ↔ (X < 2 ^ F.f)
  kept_subnormal = (λ e. go (ℕ_discrete (dropped F X) 0) e, back)
    where
      go : Dec (dropped F X ≡ 0) → round_off d X (dropped F X) / 2 ^ F.f ≡ 0 → X < 2 ^ F.f
      go (yes z) e =
          let h = (div-lt_iff_lt-mul {k = 2 ^ F.f} {x = round_off d X (dropped F X)} {y = 1} (pow_pos F.f)).0 (omega arith) in
          omega (arith, kept_exact z)
      go (no z) e =
          let h = (le-div_iff_mul-le {k = 2 ^ F.f} {x = 1} {y = round_off d X (dropped F X)} (pow_pos F.f)).1 (omega (arith, (kept_normal (omega arith)).0)) in
          absurd (omega arith)

      back : X < 2 ^ F.f → round_off d X (dropped F X) / 2 ^ F.f ≡ 0
      back h =
          let z = (dropped_none F X).1 (omega (arith, pow-add 2 F.f 1)) in
          ap (λ (n : ℕ). n / 2 ^ F.f) (kept_exact z) ∙ div-eq_of_lt h

  pub kept_subnormal_dropped : round_off d X (dropped F X) / 2 ^ F.f ≡ 0 → dropped F X ≡ 0
  kept_subnormal_dropped e =
      let h = kept_subnormal.0 e in
      (dropped_none F X).1 (omega (arith, pow-add 2 F.f 1))

module _ (F : Format) (ok : Supported F) (mode s X : ℕ) (hs : s < 2) where
  -- the sign is the exact result's
  pub rounded_sign : sign F (rounded F mode s X) ≡ s
  rounded_sign = signed_sign F s (bounded_word F (direction mode s) X) hs (bounded_lt F ok (direction mode s) X)

  -- within the format it is the word of the rounded magnitude
  module _ (within : magnitude_word F (direction mode s) X < infinity_word F) where
    pub rounded_within : rounded F mode s X ≡ signed F s (magnitude_word F (direction mode s) X)
    rounded_within = ap (signed F s) (bounded_within F (direction mode s) X within)

    word_lt : magnitude_word F (direction mode s) X < 2 ^ (F.w + F.f)
    word_lt = lt_trans within (infinity_lt F ok)

    pub rounded_word_biased : (biased F (rounded F mode s X)).0 ≡ magnitude_word F (direction mode s) X / 2 ^ F.f
    rounded_word_biased = ap (λ (c : ℕ). (biased F c).0) rounded_within ∙ signed_biased F s (magnitude_word F (direction mode s) X) hs word_lt

    pub rounded_word_fraction : fraction F (rounded F mode s X) ≡ magnitude_word F (direction mode s) X % 2 ^ F.f
    rounded_word_fraction = ap (fraction F) rounded_within ∙ signed_fraction F s (magnitude_word F (direction mode s) X) hs word_lt
