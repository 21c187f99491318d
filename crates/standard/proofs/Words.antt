-- Words and numbers: a finite word is the encoding of its sign and magnitude and of nothing else, and a representable magnitude up to the
-- largest is decoded from its encoding. Assumes nothing.
use mathlib.Core.Path.{◌≡◌, sym, ap, ap₂, ◌∙◌, subst}
use mathlib.Core.Logic.{◌↔◌}
use Prim.Native.Nat.{ℕ, ◌+◌, ◌-◌, ◌*◌, ◌/◌, ◌%◌, ◌^◌, ◌≤◌, ◌<◌}
use native.Mathlib.Nat.{mod-lt, mul-le-mul_right, suc-mul, div-lt_iff_lt-mul}
use native.Mathlib.Decide.{dec_lt}
use native.Mathlib.Omega.{arith}
use lib.Pow.{pow_pos}
use Rattle.format.specs.declared.Format.{Format}
use Rattle.format.specs.Format.{Supported, word_bits}
use Rattle.rounding.specs.declared.Direction.{Direction}
use Rattle.rounding.specs.declared.Direction.TheVariants.{TowardZero}
use Rattle.word.specs.Word.{fraction, biased, sign, significand, all_ones, signed, infinity_word}
use Rattle.word.specs.Operand.{finite_of, magnitude}
use Rattle.rounding.specs.Rounding.{direction, magnitude_word, overflow_word, rounded}
use Rattle.word.proofs.Bounds.{infinity_pos}
use Rattle.word.proofs.Fields.{biased_lt, biased_fraction, word_together}
use Rattle.rounding.proofs.Rounded.{bounded_within, bounded_past}
use Rattle.rounding.proofs.RoundedFields.{rounded_sign, rounded_word_biased, rounded_word_fraction}
use Rattle.standard.specs.Representable.{Representable, magnitude_of, largest, rounded_magnitude}
use Rattle.standard.specs.Number.{FiniteWord}
use Rattle.standard.proofs.Magnitudes.{magnitude_fields, magnitude_representable, word_order, word_order_le, word_by_magnitude}
use Rattle.standard.proofs.Largest.{largest_word}
use Rattle.standard.proofs.Rounding.{representable_rounds_to_itself}

module _ (F : Format) where
  -- the magnitude of a word is that of the word without its sign
  pub word_magnitude : (x : ℕ) → magnitude (finite_of F x) ≡ magnitude_of F (x % 2 ^ (F.w + F.f))
  word_magnitude x =
      sym (magnitude_fields F (biased F x).0 (fraction F x) (mod-lt x (pow_pos F.f))) ∙ ap (magnitude_of F) (biased_fraction F x)

  -- so words without their signs are ordered as their magnitudes
  pub finite_word_order : (x y : ℕ) → (x % 2 ^ (F.w + F.f) < y % 2 ^ (F.w + F.f)) ↔ (magnitude (finite_of F x) < magnitude (finite_of F y))
  finite_word_order x y =
      rw (word_magnitude x, word_magnitude y) (word_order F (x % 2 ^ (F.w + F.f)) (y % 2 ^ (F.w + F.f)))

  -- a finite word lies below infinity's
  finite_below : (x : ℕ) → FiniteWord F x → x % 2 ^ (F.w + F.f) < infinity_word F
  finite_below x ne =
      let e = biased_lt F x in
      let t = mod-lt x (pow_pos F.f) in
      let l : (biased F x).0 < all_ones F = omega (arith, ne) in
      let m = mul-le-mul_right (2 ^ F.f) l in
      omega (arith, biased_fraction F x, suc-mul (biased F x).0 (2 ^ F.f))

  -- the word of a word's magnitude is the word
  pub word_encoded : (d : Direction) (m : ℕ) → magnitude_word F d (magnitude_of F m) ≡ m
  word_encoded d m = word_by_magnitude F (magnitude_word F d (magnitude_of F m)) m (representable_rounds_to_itself F d (magnitude_of F m) (magnitude_representable F m))

  -- every finite word is the encoding of its sign and magnitude, in every mode
  pub encode_decode : (mode x : ℕ) → x < 2 ^ word_bits F → FiniteWord F x → rounded F mode (sign F x) (magnitude (finite_of F x)) ≡ x
  encode_decode mode x h ne =
      let d = direction mode (sign F x) in
      let m = x % 2 ^ (F.w + F.f) in
      let e : magnitude_word F d (magnitude (finite_of F x)) ≡ m = ap (magnitude_word F d) (word_magnitude x) ∙ word_encoded d m in
      ap (signed F (sign F x)) (bounded_within F d (magnitude (finite_of F x)) (rw e (finite_below x ne)) ∙ e ∙ sym (biased_fraction F x)) ∙ sym (word_together F x h)

  -- and of no other: finite words of one sign and magnitude are the same
  pub encoding_unique : (x y : ℕ) → x < 2 ^ word_bits F → y < 2 ^ word_bits F → FiniteWord F x → FiniteWord F y
      → sign F x ≡ sign F y → magnitude (finite_of F x) ≡ magnitude (finite_of F y) → x ≡ y
  encoding_unique x y hx hy fx fy s m = sym (encode_decode 0 x hx fx) ∙ ap₂ (rounded F 0) s m ∙ encode_decode 0 y hy fy

module _ (F : Format) (ok : Supported F) where
  -- magnitudes up to the largest have words below infinity's
  within_largest : (m : ℕ) → (m < infinity_word F) ↔ (magnitude_of F m ≤ largest F)
  within_largest m =
      let pos = infinity_pos F ok in
      let o = word_order_le F m (infinity_word F - 1) in
      rw (largest_word F ok) (λ h. o.0 (omega arith), λ h. let l = o.1 h in omega arith)

  -- they are the representable numbers up to the largest
  pub finite_representable : (n : ℕ) → (Representable F n × (n ≤ largest F)) ↔ ((m : ℕ) × (m < infinity_word F) × (magnitude_of F m ≡ n))
  finite_representable n = (
    λ p.
        let m = magnitude_word F TowardZero n in
        let e = representable_rounds_to_itself F TowardZero n p.0 in
        (m, (within_largest m).1 (omega (arith, p.1)), e),
    λ p. (subst (Representable F) p.2 (magnitude_representable F p.0), omega (arith, p.2, (within_largest p.0).0 p.1)),
  )

  -- a rounded magnitude up to the largest is decoded from its word, with the sign; a word past it is the one for overflow
  module _ (mode s X : ℕ) (hs : s < 2) where
    pub rounded_decoded : rounded_magnitude F (direction mode s) X ≤ largest F
        → FiniteWord F (rounded F mode s X) × (magnitude (finite_of F (rounded F mode s X)) ≡ rounded_magnitude F (direction mode s) X)
    rounded_decoded h =
        let m = magnitude_word F (direction mode s) X in
        let l : m < infinity_word F = (within_largest m).1 h in
        let b = rounded_word_biased F ok mode s X hs l in
        let t = rounded_word_fraction F ok mode s X hs l in (
          λ e. absurd (not_ones m l (sym b ∙ e)),
          ap₂ (λ (a c : ℕ). significand F.f a c * 2 ^ (a - 1)) b t,
        )
      where
        not_ones : (m : ℕ) → m < infinity_word F → m / 2 ^ F.f ≡ all_ones F → ⊥
        not_ones m l e = let q = (div-lt_iff_lt-mul {k = 2 ^ F.f} {x = m} {y = all_ones F} (pow_pos F.f)).1 l in omega arith

    pub rounded_past_largest : largest F < rounded_magnitude F (direction mode s) X → rounded F mode s X ≡ signed F s (overflow_word F (direction mode s))
    rounded_past_largest h =
        let m = magnitude_word F (direction mode s) X in
        ap (signed F s) (bounded_past F (direction mode s) X (go m h (dec_lt m (infinity_word F))))
      where
        go : (m : ℕ) → largest F < magnitude_of F m → Dec (m < infinity_word F) → infinity_word F ≤ m
        go m h (yes l) = absurd (omega (arith, (within_largest m).0 l))
        go m h (no l) = omega arith

    -- a representable magnitude up to the largest is decoded from its encoding
    pub decode_encode : Representable F X → X ≤ largest F
        → FiniteWord F (rounded F mode s X) × (sign F (rounded F mode s X) ≡ s) × (magnitude (finite_of F (rounded F mode s X)) ≡ X)
    decode_encode r h =
        let e = representable_rounds_to_itself F (direction mode s) X r in
        let d = rounded_decoded (omega arith) in
        (d.0, rounded_sign F ok mode s X hs, d.1 ∙ e)
