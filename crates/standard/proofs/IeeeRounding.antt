-- Where a format has the parameters of an interchange format, `lib.Ieee` rounds and writes as the definitions here do: its fraction over 2^low
-- is a whole number of smallest steps, its quotient is the kept part, and its infinity begins where infinity's word does. Assumes nothing.
use mathlib.Core.Path.{◌≡◌, refl, sym, ap, ap₂, ◌∙◌, subst}
use mathlib.Core.Logic.{◌↔◌}
use mathlib.Core.Bool.{Bool, true, false, not, cond}
use Prim.Native.Nat.{ℕ, ◌+◌, ◌-◌, ◌*◌, ◌/◌, ◌%◌, ◌^◌, ◌≤◌, ◌<◌, compare, Ordering}
use native.Mathlib.Nat.{add-zero, add_assoc, mul_comm, mul_assoc, mul-pos, mul-div_cancel}
use native.Mathlib.Decide.{dec_lt}
use native.Mathlib.Omega.{arith}
use borrow.Author.Tests.{lt-ltb, le-ltb}
use lib.Dec.{T, ltb, eqb, is_le, compare_is_eq, leb→le, nleb→lt}
use lib.Pow.{pow_pos}
use lib.Ieee as ieee
use lib.Ieee.{Float, nan, inf, fin, prec, low, size, up, down, nearest, units, round, top, hid, to_bits}
use lib.Ieee.Fits.{down_pos, round_is}
use lib.Ieee.Exact.{HasValue, units_val}
use lib.Ieee.Nearest.{closest, closest_same}
use lib.Ieee.Scale.{overflow}
use Rattle.format.specs.declared.Format.{Format}
use Rattle.rounding.specs.declared.Direction.TheVariants.{NearestEven, TowardZero}
use Rattle.word.specs.Word.{signed, infinity_word}
use Rattle.rounding.specs.Rounding.{increment, round_off, dropped, magnitude_word, overflow_word, bounded_word}
use Rattle.rounding.proofs.AddConstant.{round_toward_zero}
use Rattle.rounding.proofs.Rounded.{bounded_within, bounded_past}
use Rattle.adder.specs.Result as adder
use Rattle.standard.specs.Representable.{magnitude_of, rounded_magnitude}
use Rattle.standard.specs.Ieee.{Interchange}
use Rattle.standard.proofs.Magnitudes.{rounded_kept, word_order}
use Rattle.standard.proofs.Largest.{after_largest_word}
use Rattle.standard.proofs.Words.{word_encoded}
use Rattle.standard.proofs.Interchange.{ones_is, hid_is, half_hid_is, top_is, overflow_is}

-- q, or the next number up, by two tests
nearest_tests : (q a b : ℕ) → nearest q (compare a b) ≡ q + cond (ltb b a) 1 (cond (eqb a b) (q % 2) 0)
nearest_tests q a b = go (compare a b) refl
  where
    go : (o : Ordering) → compare a b ≡ o → nearest q o ≡ q + cond (ltb b a) 1 (cond (eqb a b) (q % 2) 0)
    go Ordering.lt e = rw (le-ltb b a (leb→le a b (subst (λ (o : Ordering). T (is_le o)) (sym e) tt)), ap compare_is_eq e) (sym (add-zero q))
    go Ordering.eq e = rw (le-ltb b a (leb→le a b (subst (λ (o : Ordering). T (is_le o)) (sym e) tt)), ap compare_is_eq e)
    go Ordering.gt e = rw (lt-ltb b a (nleb→lt a b (subst (λ (o : Ordering). T (not (is_le o))) (sym e) tt))) (omega arith)

-- the quotient to the nearest is the kept part, rounded
closest_kept : (X k : ℕ) → closest X (2 ^ k) ≡ round_off NearestEven X k
unfolding round_off increment
closest_kept X k =
    nearest_tests (X / 2 ^ k) (X % 2 ^ k * 2) (2 ^ k)
    ∙ ap (λ (n : ℕ). X / 2 ^ k + cond (ltb (2 ^ k) n) 1 (cond (eqb n (2 ^ k)) (X / 2 ^ k % 2) 0)) (mul_comm (X % 2 ^ k) 2)

-- a sign bit as a number
abbrev pub sign_bit : Bool → ℕ
sign_bit false = 0
sign_bit true = 1

not_below : {m n : ℕ} → (m < n → ⊥) → n ≤ m
not_below h = omega arith

module _ {F : Format} {B : ieee.Format} (tie : Interchange F B) where
  -- as many bits are dropped
  dropped_is : (X : ℕ) → size X - prec B ≡ dropped F X
  dropped_is X = ap (λ (p : ℕ). size X - p) tie.precision_is

  -- X smallest steps, rounded
  round_steps : (s : Bool) (X : ℕ) → round B s X (2 ^ low B) ≡ units B s (round_off NearestEven X (dropped F X)) (dropped F X)
  round_steps s X =
      round_is B s X L ∙ ap (λ (n : ℕ). units B s (closest (X * L) (L * 2 ^ (size n - prec B))) (size n - prec B)) (mul-div_cancel X (pow_pos (low B)))
      ∙ ap (λ (n : ℕ). units B s (closest (X * L) (L * 2 ^ n)) n) (dropped_is X)
      ∙ ap (λ (n : ℕ). units B s n k) (closest_same (X * L) (L * 2 ^ k) X (2 ^ k) (mul-pos (pow_pos (low B)) (pow_pos k)) (pow_pos k) (mul_assoc X L (2 ^ k)) ∙ closest_kept X k)
    where
      L : ℕ
      L = 2 ^ low B

      k : ℕ
      k = dropped F X

  -- the weight of the sign
  sign_weight : (s : Bool) (m : ℕ) → cond s (top B) 0 + m ≡ signed F (sign_bit s) m
  sign_weight false m = omega arith
  sign_weight true m = omega (arith, top_is tie)

  -- a value of R smallest steps is written as the word of R
  value_bits : (v : Float) (s : Bool) (R : ℕ) → HasValue v s R (2 ^ low B) → to_bits B v ≡ signed F (sign_bit s) (magnitude_word F TowardZero R)
  unfolding to_bits magnitude_word
  value_bits nan s R h = absurd h
  value_bits (inf t) s R h = absurd h
  value_bits (fin t m e) s R h =
      ap₂ (λ (b : Bool) (n : ℕ). cond b (top B) 0 + (size n - prec B) * hid B + n / 2 ^ (size n - prec B)) h.0 steps
      ∙ ap₂ (λ (k n : ℕ). cond s (top B) 0 + k * n + R / 2 ^ k) (dropped_is R) (hid_is tie)
      ∙ add_assoc (cond s (top B) 0) (dropped F R * 2 ^ F.f) (R / 2 ^ dropped F R)
      ∙ ap (λ (n : ℕ). cond s (top B) 0 + (dropped F R * 2 ^ F.f + n)) (sym (round_toward_zero R (dropped F R)))
      ∙ sign_weight s (dropped F R * 2 ^ F.f + round_off TowardZero R (dropped F R))
    where
      steps : m * up e * 2 ^ low B / down e ≡ R
      steps = ap (λ (x : ℕ). x / down e) h.1 ∙ mul-div_cancel R (down_pos e)

  -- infinity begins where its word does
  infinity_steps : (m : ℕ) → (m < infinity_word F) ↔ (magnitude_of F m < overflow B)
  infinity_steps m = rw (overflow_is tie, after_largest_word F tie.supported) (word_order F m (infinity_word F))

  pub infinite_bits : (s : Bool) → to_bits B (inf s) ≡ signed F (sign_bit s) (infinity_word F)
  unfolding to_bits
  infinite_bits s = ap₂ (λ (m n : ℕ). cond s (top B) 0 + m * n) (ones_is tie) (hid_is tie) ∙ sign_weight s (infinity_word F)

  pub nan_bits_lem : to_bits B nan ≡ adder.nan F
  unfolding to_bits
  nan_bits_lem = ap₂ ◌+◌ (ap₂ ◌*◌ (ones_is tie) (hid_is tie)) (half_hid_is tie)

  units_past : (s : Bool) (q k : ℕ) → overflow B ≤ q * 2 ^ k → units B s q k ≡ inf s
  unfolding units
  units_past s q k h = rw (le-ltb (q * 2 ^ k) (overflow B) h)

  -- X smallest steps rounded and written are the word of the rounded magnitude
  pub rounded_bits : (s : Bool) (X : ℕ) → to_bits B (round B s X (2 ^ low B)) ≡ signed F (sign_bit s) (bounded_word F NearestEven X)
  unfolding overflow_word
  rounded_bits s X = ap (to_bits B) (round_steps s X) ∙ go (dec_lt m (infinity_word F))
    where
      m : ℕ
      m = magnitude_word F NearestEven X

      k : ℕ
      k = dropped F X

      Y : ℕ
      Y = round_off NearestEven X (dropped F X)

      R : rounded_magnitude F NearestEven X ≡ Y * 2 ^ k
      R = rounded_kept F NearestEven X

      go : Dec (m < infinity_word F) → to_bits B (units B s Y k) ≡ signed F (sign_bit s) (bounded_word F NearestEven X)
      go (yes h) =
          let l : Y * 2 ^ k < overflow B = subst (λ (n : ℕ). n < overflow B) R ((infinity_steps m).0 h) in
          value_bits (units B s Y k) s (Y * 2 ^ k) (units_val B s Y k l)
          ∙ ap (λ (n : ℕ). signed F (sign_bit s) (magnitude_word F TowardZero n)) (sym R)
          ∙ ap (signed F (sign_bit s)) (word_encoded F TowardZero m ∙ sym (bounded_within F NearestEven X h))
      go (no h) =
          ap (to_bits B) (units_past s Y k (not_below (λ l. h ((infinity_steps m).1 (subst (λ (n : ℕ). n < overflow B) (sym R) l)))))
          ∙ infinite_bits s ∙ ap (signed F (sign_bit s)) (sym (bounded_past F NearestEven X (not_below h)))
