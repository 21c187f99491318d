-- The numbers of f + 1 bits that meet the mask on a significand are exactly the significands of the fractions that meet the fraction's
-- mask: a fraction is what stands below bit f, and bit f is fixed as the exponent field says. Assumes nothing.
use Rattle.std.proofs.Common.{◌≡◌, ℕ, zero, suc, ◌+◌, ◌*◌, ◌/◌, ◌%◌, ◌^◌, ◌<◌, ◌↔◌, sym, ap, ◌∙◌, subst, mod-lt, mod-eq_of_lt, add_comm, one-mul, zero-mul, add-one, arith, pow_pos, pow-add, shr_lt}
use lib.Pow.{split, low}
use Rattle.bits.specs.Bit.{bit}
use Rattle.bits.proofs.Laws.{bit_above, top_bit_lem, more_lt}
use Rattle.mask.specs.declared.Mask.{Mask}
use Rattle.mask.specs.Mask.{WellFormed, Meets, fixed, fix}
use Rattle.mask.proofs.ByParts.{meets_within}
use Rattle.mask.proofs.Fixing.{fix_free, fixed_formed, fixed_meets}
use Rattle.word.specs.declared.Biased.{Biased}
use Rattle.word.specs.Word.{significand}
use Rattle.significand.specs.Significand.{top_bit, significand_mask}

module _ (f : ℕ) (m : Mask) (hf : f < 64) (w : WellFormed f m) where
  -- bit f is free in a mask on f bits
  top_free : bit m.care f ≡ 0
  top_free = bit_above f w.below

  wider : WellFormed (f + 1) m
  wider = record { below = omega (arith, w.below, pow-add 2 f 1); inside = w.inside }

  -- the mask asks nothing from bit f on
  meets_below : (h t : ℕ) → t < 2 ^ f → Meets (h * 2 ^ f + t) m ↔ Meets t m
  meets_below h t l =
      let whole = rw (low h f l) at (meets_within f (h * 2 ^ f + t) m w) in
      let part = rw (mod-eq_of_lt l) at (meets_within f t m w) in
      ((λ met. part.1 (whole.0 met)), λ met. whole.1 (part.0 met))

  -- the mask with bit f also fixed to b
  module _ (b : ℕ) (hb : b < 2) where
    top_fixed : fix m f b ≡ fixed m f b
    top_fixed = fix_free m f b hf hb top_free

    top_formed : WellFormed (f + 1) (fix m f b)
    top_formed = rw top_fixed (fixed_formed m f b w.inside top_free hb (f + 1) wider (omega arith))

    -- it is met by each s t, which has b on top of the fraction t
    module _ (s : ℕ → ℕ) (on-top : (t : ℕ) → b * 2 ^ f + t ≡ s t) where
      top_meets : (x : ℕ) → (Meets x (fix m f b) × (x < 2 ^ (f + 1))) ↔ ((t : ℕ) × (t < 2 ^ f) × Meets t m × (s t ≡ x))
      top_meets x = (there, back)
        where
          there : Meets x (fix m f b) × (x < 2 ^ (f + 1)) → (t : ℕ) × (t < 2 ^ f) × Meets t m × (s t ≡ x)
          there p =
              let met = (fixed_meets m f b w.inside top_free hb x).0 (rw top_fixed at p.0) in
              let l = mod-lt x (pow_pos f) in
              let q = shr_lt 1 f (subst (λ (n : ℕ). x < 2 ^ n) (add_comm f 1) p.1) in
              let top : x / 2 ^ f ≡ b = sym (mod-eq_of_lt q) ∙ met.1 in (
                x % 2 ^ f,
                l,
                (meets_below (x / 2 ^ f) (x % 2 ^ f) l).0 (rw (split x f) met.0),
                sym (on-top (x % 2 ^ f)) ∙ ap (λ (n : ℕ). n * 2 ^ f + x % 2 ^ f) (sym top) ∙ split x f,
              )

          back : (t : ℕ) × (t < 2 ^ f) × Meets t m × (s t ≡ x) → Meets x (fix m f b) × (x < 2 ^ (f + 1))
          back p =
              let e : b * 2 ^ f + p.0 ≡ x = on-top p.0 ∙ p.3 in
              let met = (fixed_meets m f b w.inside top_free hb (b * 2 ^ f + p.0)).1 ((meets_below b p.0 p.1).1 p.2, top_bit_lem b p.0 f hb p.1) in (
                rw (top_fixed, ← e) met,
                subst (λ (n : ℕ). n < 2 ^ (f + 1)) e (rw add-one (more_lt b p.0 f hb p.1)),
              )

  pub significand_formed : (e : Biased) → WellFormed (f + 1) (significand_mask f m e)
  unfolding significand_mask
  significand_formed e = go e.0
    where
      go : (n : ℕ) → WellFormed (f + 1) (fix m f (top_bit n))
      go zero = top_formed 0 (omega arith)
      go (suc n) = top_formed 1 (omega arith)

  -- the numbers of f + 1 bits that meet the mask are the significands of the fractions that meet theirs
  pub significand_meets : (e : Biased) (x : ℕ) → (Meets x (significand_mask f m e) × (x < 2 ^ (f + 1))) ↔ ((t : ℕ) × (t < 2 ^ f) × Meets t m × (significand f e.0 t ≡ x))
  unfolding significand_mask significand
  significand_meets e x = go e.0
    where
      go : (n : ℕ) → (Meets x (fix m f (top_bit n)) × (x < 2 ^ (f + 1))) ↔ ((t : ℕ) × (t < 2 ^ f) × Meets t m × (significand f n t ≡ x))
      go zero = top_meets 0 (omega arith) (λ (t : ℕ). t) (λ t. omega (arith, zero-mul (2 ^ f))) x
      go (suc n) = top_meets 1 (omega arith) (λ (t : ℕ). 2 ^ f + t) (λ t. omega (arith, one-mul (2 ^ f))) x
