-- A number of k bits meets a mask exactly when it has each bit of the least number that meets it, and no bit that the greatest has not;
-- and two such numbers make the mask that they span. Assumes nothing.
use Rattle.std.proofs.Common.{◌≡◌, ℕ, ◌-◌, ◌%◌, ◌^◌, ◌<◌, ◌↔◌, sym, ap, ◌∙◌, subst, ap₂, lt_of_lt_of_le, lt_of_le_of_lt, mod-eq_of_lt, arith, pow_pos, pow_mono}
use native.Mathlib.Decide.{dec_lt}
use lib.Bits.{bit_and, bit_or, bit_xor, and_zero_l, and_le_r, or_zero_r, or_disjoint, xor_add_and}
use Rattle.bits.specs.Bit.{bit}
use Rattle.bits.proofs.Laws.{bit_above, by_bits}
use Rattle.bits.proofs.Logic.{bit_of_and, bit_of_or, bit_of_xor}
use Rattle.mask.specs.declared.Mask.{Mask}
use Rattle.mask.specs.Mask.{WellFormed, Meets}
use Rattle.mask.proofs.Bitwise.{bit_case}
use Rattle.mask.proofs.ByBits.{AgreesAt, and_free, inside_bits, meets_bits}
use Rattle.significand.specs.Tail.{complement, greatest, spanned}
use Rattle.significand.proofs.Complements.{complement_lt, complement_bit}
use Rattle.significand.proofs.Part.{Part, part_le}

-- a part by its bits
part_bits : (x y : ℕ) → Part x y ↔ ((i : ℕ) → bit y i ≡ 0 → bit x i ≡ 0)
part_bits x y = inside_bits (record { care = y; value = x })

-- a number of k bits has none from position k on
beyond : {x : ℕ} (k i : ℕ) → x < 2 ^ k → (i < k → ⊥) → bit x i ≡ 0
beyond k i h n = bit_above i (lt_of_lt_of_le h (pow_mono {i = k} {j = i} (omega arith)))

module _ (k : ℕ) (m : Mask) (w : WellFormed k m) where
  -- a free bit is not in the value
  apart : bit_and m.value (complement k m.care) ≡ 0
  apart =
      by_bits k (lt_of_le_of_lt (and_le_r m.value (complement k m.care)) (complement_lt k m.care)) (pow_pos k)
      (λ i h. at i h ∙ sym (beyond 0 i (pow_pos 0) (λ l. omega arith)))
    where
      at : (i : ℕ) → i < k → bit (bit_and m.value (complement k m.care)) i ≡ 0
      at i h =
          bit_case m.care i
          (λ e. bit_of_and m.value (complement k m.care) i
          ∙ ap (λ (b : ℕ). bit_and b (bit (complement k m.care) i)) ((inside_bits m).0 w.inside i e)
          ∙ and_zero_l (bit (complement k m.care) i))
          (λ e. and_free m.value (complement k m.care) i (omega (arith, complement_bit k m.care i w.below h)))

  greatest_bit : (i : ℕ) → bit (greatest k m) i ≡ bit_or (bit m.value i) (bit (complement k m.care) i)
  greatest_bit i = ap (λ (n : ℕ). bit n i) (sym (or_disjoint m.value (complement k m.care) apart)) ∙ bit_of_or m.value (complement k m.care) i

  -- the greatest number has each free bit, and each fixed bit as it is fixed
  greatest_free : (i : ℕ) → i < k → bit m.care i ≡ 0 → bit (greatest k m) i ≡ 1
  greatest_free i h e =
      let c : bit (complement k m.care) i ≡ 1 = omega (arith, complement_bit k m.care i w.below h) in
      greatest_bit i ∙ ap₂ bit_or ((inside_bits m).0 w.inside i e) c

  greatest_fixed : (i : ℕ) → i < k → bit m.care i ≡ 1 → bit (greatest k m) i ≡ bit m.value i
  greatest_fixed i h e =
      let c : bit (complement k m.care) i ≡ 0 = omega (arith, complement_bit k m.care i w.below h) in
      greatest_bit i ∙ ap (bit_or (bit m.value i)) c ∙ or_zero_r (bit m.value i)

  pub greatest_lt : greatest k m < 2 ^ k
  greatest_lt = let v = part_le m.value m.care w.inside in omega (arith, w.below)

  -- between the least and the greatest, bit by bit
  pub meets_range : (x : ℕ) → x < 2 ^ k → Meets x m ↔ (Part m.value x × Part x (greatest k m))
  meets_range x h = (there, back)
    where
      there : Meets x m → Part m.value x × Part x (greatest k m)
      there met = ((part_bits m.value x).1 lower, (part_bits x (greatest k m)).1 (λ i e. upper i e (dec_lt i k)))
        where
          agrees : AgreesAt x m
          agrees = (meets_bits x m w.inside).0 met

          lower : (i : ℕ) → bit x i ≡ 0 → bit m.value i ≡ 0
          lower i e = bit_case m.care i (λ f. (inside_bits m).0 w.inside i f) (λ f. sym (agrees i f) ∙ e)

          upper : (i : ℕ) → bit (greatest k m) i ≡ 0 → Dec (i < k) → bit x i ≡ 0
          upper i e (yes l) =
              bit_case m.care i (λ f. absurd (omega (arith, greatest_free i l f))) (λ f. agrees i f ∙ sym (greatest_fixed i l f) ∙ e)
          upper i e (no l) = beyond k i h l

      back : Part m.value x × Part x (greatest k m) → Meets x m
      back p = (meets_bits x m w.inside).1 (λ i f. at i f (dec_lt i k))
        where
          at : (i : ℕ) → bit m.care i ≡ 1 → Dec (i < k) → bit x i ≡ bit m.value i
          at i f (yes l) =
              bit_case x i (λ e. e ∙ sym ((part_bits m.value x).0 p.0 i e))
              (λ e. bit_case m.value i
              (λ z. (part_bits x (greatest k m)).0 p.1 i (greatest_fixed i l f ∙ z) ∙ sym z)
              (λ z. e ∙ sym z))
          at i f (no l) = absurd (omega (arith, beyond k i w.below l))

-- the greatest number, as far as a word holds it
pub greatest_word : (k : ℕ) (m : Mask) → k < 64 → WellFormed k m → greatest k m % 2 ^ 64 ≡ greatest k m
greatest_word k m h w = mod-eq_of_lt (lt_of_lt_of_le (greatest_lt k m w) (pow_mono {i = k} {j = 64} (omega arith)))

-- ---- the mask that two numbers span
module _ (k l g : ℕ) (h : Part l g) (hg : g < 2 ^ k) where
  -- what g has more than l
  more : g - l ≡ bit_xor l g
  more = omega (arith, xor_add_and l g, h)

  pub spanned_formed : WellFormed k (spanned k l g)
  spanned_formed = record { below = complement_lt k (g - l); inside = (inside_bits (spanned k l g)).1 (λ i e. at i e (dec_lt i k)) }
    where
      at : (i : ℕ) → bit (complement k (g - l)) i ≡ 0 → Dec (i < k) → bit l i ≡ 0
      at i e (yes b) =
          bit_case l i (λ z. z)
          (λ z. bit_case g i (λ n. (part_bits l g).0 h i n) (λ n.
          let d : bit (g - l) i ≡ 0 = ap (λ (x : ℕ). bit x i) more ∙ bit_of_xor l g i ∙ ap₂ bit_xor z n in
          absurd (omega (arith, complement_bit k (g - l) i (omega arith) b))))
      at i e (no b) = beyond k i (lt_of_le_of_lt (part_le l g h) hg) b

  pub spanned_meets : (x : ℕ) → x < 2 ^ k → Meets x (spanned k l g) ↔ (Part l x × Part x g)
  spanned_meets x hx =
      let top : greatest k (spanned k l g) ≡ g = omega (arith, part_le l g h) in
      subst (λ (n : ℕ). Meets x (spanned k l g) ↔ (Part l x × Part x n)) top (meets_range k (spanned k l g) spanned_formed x hx)
