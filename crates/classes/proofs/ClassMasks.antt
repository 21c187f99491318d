-- The mask c with another mask on its exponent field: it is met by field, and it is well formed. Also the fractions of the words past the
-- largest finite number. Assumes nothing.
use Rattle.std.proofs.Common.{◌≡◌, ℕ, ◌+◌, ◌-◌, ◌*◌, ◌/◌, ◌%◌, ◌^◌, ◌<◌, ◌≤◌, ◌↔◌, sym, ap, ◌∙◌, subst, mod-lt, mod-eq_of_lt, arith, pow_pos, pow-add, shr_lt}
use lib.Arith.{digits_lt}
use lib.Bits.{and_zero_r}
use lib.Pow.{split, high, low}
use Rattle.format.specs.declared.Format.{Format}
use Rattle.format.specs.Format.{word_bits}
use Rattle.mask.specs.declared.Mask.{Mask}
use Rattle.mask.specs.Mask as mask
use Rattle.mask.specs.Mask.{Meets, WellFormed, free_mask}
use Rattle.mask.proofs.ByParts.{meets_parts, sign_formed, fraction_formed}
use Rattle.mask.proofs.ByBits.{value_below}
use Rattle.word.specs.Word.{all_ones, signed, infinity_word}
use Rattle.rounding.specs.declared.Direction.{Direction}
use Rattle.rounding.specs.declared.Direction.TheVariants.{NearestEven, NearestAway, TowardZero, Away}
use Rattle.rounding.specs.Rounding.{overflow_word}
use Rattle.word.specs.Masks.{sign_mask, exponent_mask, fraction_mask}
use Rattle.classes.specs.Class.{with_exponent, NeverPast}

-- a mask on a number in two parts
meets_split : (k q r : ℕ) (m : Mask) → r < 2 ^ k → Meets (q * 2 ^ k + r) m ↔ (Meets r (mask.low k m) × Meets q (mask.high k m))
meets_split k q r m h = rw (low q k h, high q k h) at (meets_parts k (q * 2 ^ k + r) m)

-- a mask in two parts
joined : ℕ → Mask → Mask → Mask
joined k m n = record { care = m.care * 2 ^ k + n.care; value = m.value * 2 ^ k + n.value }

joined_meets : (k q r : ℕ) (m n : Mask) → r < 2 ^ k → n.care < 2 ^ k → n.value < 2 ^ k → Meets (q * 2 ^ k + r) (joined k m n) ↔ (Meets r n × Meets q m)
unfolding joined
joined_meets k q r m n h hc hv =
    rw (low m.care k hc, high m.care k hc, low m.value k hv, high m.value k hv) at (meets_split k q r (joined k m n) h)

module _ (F : Format) (c n : Mask) (h : WellFormed (word_bits F) c) (hn : WellFormed F.w n) where
  fraction_of : WellFormed F.f (fraction_mask F c)
  fraction_of = fraction_formed F.w F.f c h

  n_value : n.value < 2 ^ F.w
  n_value = value_below F.w n hn

  t_value : (fraction_mask F c).value < 2 ^ F.f
  t_value = mod-lt c.value (pow_pos F.f)

  t_care : (fraction_mask F c).care < 2 ^ F.f
  t_care = mod-lt c.care (pow_pos F.f)

  low_lt : (e t : ℕ) → e < 2 ^ F.w → t < 2 ^ F.f → e * 2 ^ F.f + t < 2 ^ (F.w + F.f)
  low_lt e t he ht =
      subst (λ (k : ℕ). e * 2 ^ F.f + t < k) (sym (pow-add 2 F.w F.f)) (digits_lt {q = e} {m = 2 ^ F.w} {r = t} {c = 2 ^ F.f} he ht)

  -- a word by its fields
  pub asking_meets : (s e t : ℕ) → e < 2 ^ F.w → t < 2 ^ F.f
      → Meets (signed F s (e * 2 ^ F.f + t)) (with_exponent F c n) ↔ (Meets s (sign_mask F c) × Meets e n × Meets t (fraction_mask F c))
  unfolding with_exponent joined
  asking_meets s e t he ht =
      let outer = joined_meets (F.w + F.f) s (e * 2 ^ F.f + t) (sign_mask F c) (joined F.f n (fraction_mask F c)) (low_lt e t he ht) (low_lt n.care (fraction_mask F c).care hn.below t_care) (low_lt n.value (fraction_mask F c).value n_value t_value) in
      let inner = joined_meets F.f e t n (fraction_mask F c) ht t_care t_value in (
        (λ met. let p = outer.0 met in let q = inner.0 p.0 in (p.1, q.1, q.0)),
        λ p. outer.1 (inner.1 (p.2, p.1), p.0),
      )

  pub asking_formed : WellFormed (word_bits F) (with_exponent F c n)
  unfolding with_exponent
  asking_formed = record {
    below = below;
    inside = (asking_meets (sign_mask F c).value n.value (fraction_mask F c).value n_value t_value).1 (sign_inside, hn.inside, fraction_of.inside);
  }
    where
      sign_inside : Meets (sign_mask F c).value (sign_mask F c)
      sign_inside = ((meets_parts 1 (mask.high (F.w + F.f) c).value (mask.high (F.w + F.f) c)).0 (sign_formed F.w F.f c h).inside).0

      below : (sign_mask F c).care * 2 ^ (F.w + F.f) + (n.care * 2 ^ F.f + (fraction_mask F c).care) < 2 ^ word_bits F
      below =
          let d = digits_lt {q = (sign_mask F c).care} {m = 2} {r = n.care * 2 ^ F.f + (fraction_mask F c).care} {c = 2 ^ (F.w + F.f)} (mod-lt (mask.high (F.w + F.f) c).care (omega arith)) (low_lt n.care (fraction_mask F c).care hn.below t_care) in
          let p = pow-add 2 1 (F.w + F.f) in
          let e : 1 + (F.w + F.f) ≡ word_bits F = omega arith in
          subst (λ (k : ℕ). (sign_mask F c).care * 2 ^ (F.w + F.f) + (n.care * 2 ^ F.f + (fraction_mask F c).care) < 2 ^ k) e (omega arith)

  -- c itself by its fields
  pub own_meets : (s e t : ℕ) → s < 2 → e < 2 ^ F.w → t < 2 ^ F.f
      → Meets (signed F s (e * 2 ^ F.f + t)) c ↔ (Meets s (sign_mask F c) × Meets e (exponent_mask F c) × Meets t (fraction_mask F c))
  own_meets s e t hs he ht =
      let fields = Rattle.mask.proofs.ByParts.meets_fields F.w F.f c h (signed F s (e * 2 ^ F.f + t)) in
      rw (is_sign, is_exponent, is_fraction) at fields
    where
      above : signed F s (e * 2 ^ F.f + t) ≡ (s * 2 ^ F.w + e) * 2 ^ F.f + t
      above =
          let p = pow-add 2 F.w F.f in
          let a = native.Mathlib.Nat.mul_assoc s (2 ^ F.w) (2 ^ F.f) in
          let m = native.Mathlib.Nat.add-mul (s * 2 ^ F.w) e (2 ^ F.f) in
          let q = ap (◌*◌ s) p in
          omega arith

      is_sign : signed F s (e * 2 ^ F.f + t) / 2 ^ (F.w + F.f) % 2 ≡ s
      is_sign = ap (λ (k : ℕ). k % 2) (high s (F.w + F.f) (low_lt e t he ht)) ∙ mod-eq_of_lt hs

      is_exponent : signed F s (e * 2 ^ F.f + t) / 2 ^ F.f % 2 ^ F.w ≡ e
      is_exponent = ap (λ (k : ℕ). k / 2 ^ F.f % 2 ^ F.w) above ∙ ap (λ (k : ℕ). k % 2 ^ F.w) (high (s * 2 ^ F.w + e) F.f ht) ∙ low s F.w he

      is_fraction : signed F s (e * 2 ^ F.f + t) % 2 ^ F.f ≡ t
      is_fraction = ap (λ (k : ℕ). k % 2 ^ F.f) above ∙ low (s * 2 ^ F.w + e) F.f ht

-- ---- a weaker mask on the exponent field asks less

pub any_formed : (F : Format) → WellFormed F.w free_mask
any_formed F = record { below = pow_pos F.w; inside = and_zero_r 0 }

pub asking_less : (F : Format) (c n : Mask) → WellFormed (word_bits F) c → WellFormed F.w n → (x : ℕ) → Meets x (with_exponent F c n) → Meets x (with_exponent F c free_mask)
asking_less F c n h hn x met =
    let k = F.w + F.f in
    let low_part = x % 2 ^ k in
    let e : low_part / 2 ^ F.f < 2 ^ F.w = shr_lt F.w F.f (mod-lt x (pow_pos k)) in
    let t = mod-lt low_part (pow_pos F.f) in
    let fields = (asking_meets F c n h hn (x / 2 ^ k) (low_part / 2 ^ F.f) (low_part % 2 ^ F.f) e t).0 (rw whole met) in
    rw whole at ((asking_meets F c free_mask h (any_formed F) (x / 2 ^ k) (low_part / 2 ^ F.f) (low_part % 2 ^ F.f) e t).1 (fields.0, and_zero_r (low_part / 2 ^ F.f), fields.2))
  where
    whole : signed F (x / 2 ^ (F.w + F.f)) (x % 2 ^ (F.w + F.f) / 2 ^ F.f * 2 ^ F.f + x % 2 ^ (F.w + F.f) % 2 ^ F.f) ≡ x
    whole = ap (λ (r : ℕ). x / 2 ^ (F.w + F.f) * 2 ^ (F.w + F.f) + r) (split (x % 2 ^ (F.w + F.f)) F.f) ∙ split x (F.w + F.f)

-- ---- the word past the largest finite number
module _ (F : Format) (c : Mask) (never : NeverPast F c) where
  fraction_part : (q r : ℕ) → r < 2 ^ F.f → Meets (q * 2 ^ F.f + r) c → Meets r (fraction_mask F c)
  fraction_part q r h met = subst (λ (k : ℕ). Meets k (fraction_mask F c)) (low q F.f h) ((meets_parts F.f (q * 2 ^ F.f + r) c).0 met).0

  infinity_never : (s : ℕ) → Meets (signed F s (infinity_word F)) c → ⊥
  infinity_never s met = never.zeros (fraction_part (s * 2 ^ F.w + all_ones F) 0 (pow_pos F.f) (subst (λ (k : ℕ). Meets k c) whole met))
    where
      whole : signed F s (infinity_word F) ≡ (s * 2 ^ F.w + all_ones F) * 2 ^ F.f + 0
      whole =
          let p = pow-add 2 F.w F.f in
          let a = native.Mathlib.Nat.mul_assoc s (2 ^ F.w) (2 ^ F.f) in
          let m = native.Mathlib.Nat.add-mul (s * 2 ^ F.w) (all_ones F) (2 ^ F.f) in
          let q = ap (◌*◌ s) p in
          omega arith

  largest_never : (s : ℕ) → 1 ≤ all_ones F → Meets (signed F s (infinity_word F - 1)) c → ⊥
  largest_never s some met =
      never.ones (fraction_part (s * 2 ^ F.w + (all_ones F - 1)) (2 ^ F.f - 1) (omega (arith, pow_pos F.f)) (subst (λ (k : ℕ). Meets k c) whole met))
    where
      whole : signed F s (infinity_word F - 1) ≡ (s * 2 ^ F.w + (all_ones F - 1)) * 2 ^ F.f + (2 ^ F.f - 1)
      whole =
          let p = pow-add 2 F.w F.f in
          let a = native.Mathlib.Nat.mul_assoc s (2 ^ F.w) (2 ^ F.f) in
          let m = native.Mathlib.Nat.add-mul (s * 2 ^ F.w) (all_ones F - 1) (2 ^ F.f) in
          let n = native.Mathlib.Nat.add-mul (all_ones F - 1) 1 (2 ^ F.f) in
          let o : all_ones F - 1 + 1 ≡ all_ones F = omega arith in
          let t = ap (λ (k : ℕ). k * 2 ^ F.f) o in
          let q = ap (◌*◌ s) p in
          omega (arith, pow_pos F.f)

  pub past_never : (d : Direction) (s : ℕ) → 1 ≤ all_ones F → Meets (signed F s (overflow_word F d)) c → ⊥
  unfolding overflow_word
  past_never NearestEven s some met = infinity_never s met
  past_never NearestAway s some met = infinity_never s met
  past_never TowardZero s some met = largest_never s some met
  past_never Away s some met = infinity_never s met
