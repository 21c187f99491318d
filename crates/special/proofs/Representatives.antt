-- The four representatives of an exponent field: they have it, and each word that meets the mask has one of its kind that meets it too.
-- Assumes nothing.
use mathlib.Core.Path.{◌≡◌, refl, sym, ap, ◌∙◌, subst}
use Prim.Native.Nat.{ℕ, zero, suc, ◌+◌, ◌*◌, ◌/◌, ◌%◌, ◌^◌, ◌<◌}
use native.Mathlib.Nat.{mod-lt}
use native.Mathlib.Omega.{arith}
use borrow.Author.Tests.{eq-eqb, ne_eqb}
use lib.Dec.{eqb}
use lib.Bits.{and_self}
use lib.Pow.{pow_pos}
use Rattle.format.specs.declared.Format.{Format}
use Rattle.format.specs.Format.{word_bits}
use Rattle.mask.specs.declared.Mask.{Mask}
use Rattle.mask.specs.Mask.{WellFormed, Meets}
use Rattle.mask.proofs.ByBits.{value_below}
use Rattle.mask.proofs.ByParts.{fraction_formed, meets_fields}
use Rattle.word.specs.declared.Biased.{Biased}
use Rattle.word.specs.Word.{fraction, biased, sign}
use Rattle.word.proofs.Fields.{biased_lt, together_lt, together_sign, together_biased, together_fraction, signed_lt}
use Rattle.significand.specs.Tail.{greatest}
use Rattle.significand.proofs.Part.{part_le}
use Rattle.significand.proofs.Range.{greatest_lt, meets_range}
use Rattle.word.specs.Masks.{exponent_mask, fraction_mask}
use Rattle.special.specs.Special.{extreme, representative}
use Rattle.special.proofs.Alike.{Alike}

-- the extreme fraction that stands for a fraction: the least for 0, else the greatest
abbrev nonzero : ℕ → ℕ
nonzero zero = 0
nonzero (suc t) = 1

nonzero_lt : (t : ℕ) → nonzero t < 2
nonzero_lt zero = omega arith
nonzero_lt (suc t) = omega arith

pub extreme_greatest : (f : ℕ) (m : Mask) (n : ℕ) → (n ≡ 0 → ⊥) → greatest f m ≡ extreme f m n
extreme_greatest f m zero ne = absurd (ne refl)
extreme_greatest f m (suc n) ne = refl

module _ (f : ℕ) (m : Mask) (w : WellFormed f m) where
  pub extreme_lt : (n : ℕ) → extreme f m n < 2 ^ f
  extreme_lt zero = value_below f m w
  extreme_lt (suc n) = greatest_lt f m w

  extreme_meets : (n : ℕ) → Meets (extreme f m n) m
  extreme_meets zero = w.inside
  extreme_meets (suc n) =
      (meets_range f m w (greatest f m) (greatest_lt f m w)).1 (((meets_range f m w m.value (value_below f m w)).0 w.inside).1, and_self (greatest f m))

  -- it is 0 exactly where the fraction is
  extreme_stands : (t : ℕ) → t < 2 ^ f → Meets t m → eqb t 0 ≡ eqb (extreme f m (nonzero t)) 0
  extreme_stands zero h met = sym (eq-eqb m.value 0 (omega (arith, part_le m.value 0 ((meets_range f m w 0 h).0 met).0)))
  extreme_stands (suc t) h met =
      let le = part_le (suc t) (greatest f m) ((meets_range f m w (suc t) h).0 met).1 in
      ne_eqb (suc t) 0 (λ z. omega arith) ∙ sym (ne_eqb (greatest f m) 0 (λ z. omega arith))

-- the fields of a representative
module _ (F : Format) (m : Mask) (w : WellFormed (word_bits F) m) (e : Biased) (k : ℕ) (he : e.0 < 2 ^ F.w) (hk : k < 4) where
  formed : WellFormed F.f (fraction_mask F m)
  formed = fraction_formed F.w F.f m w

  t_lt : extreme F.f (fraction_mask F m) (k % 2) < 2 ^ F.f
  t_lt = extreme_lt F.f (fraction_mask F m) formed (k % 2)

  pub representative_lt : representative F m e k < 2 ^ word_bits F
  unfolding representative
  representative_lt =
      signed_lt F (k / 2) (e.0 * 2 ^ F.f + extreme F.f (fraction_mask F m) (k % 2)) (omega arith)
      (together_lt F e.0 (extreme F.f (fraction_mask F m) (k % 2)) he t_lt)

  representative_sign : sign F (representative F m e k) ≡ k / 2
  unfolding representative
  representative_sign = together_sign F (k / 2) e.0 (extreme F.f (fraction_mask F m) (k % 2)) (omega arith) he t_lt

  pub representative_biased : biased F (representative F m e k) ≡ e
  unfolding representative
  representative_biased = ap field (together_biased F (k / 2) e.0 (extreme F.f (fraction_mask F m) (k % 2)) (omega arith) he t_lt)
    where
      field : ℕ → Biased
      field n = record { 0 = n }

  representative_fraction : fraction F (representative F m e k) ≡ extreme F.f (fraction_mask F m) (k % 2)
  unfolding representative
  representative_fraction = together_fraction F (k / 2) e.0 (extreme F.f (fraction_mask F m) (k % 2)) (omega arith) he t_lt

-- the number of the representative of x's kind
abbrev pub stands_for : Format → ℕ → ℕ
stands_for F x = 2 * sign F x + nonzero (fraction F x)

pub stands_lt : (F : Format) (x : ℕ) → stands_for F x < 4
stands_lt F x = omega (arith, nonzero_lt (fraction F x))

module _ (F : Format) (m : Mask) (w : WellFormed (word_bits F) m) (x : ℕ) (met : Meets x m) where
  which_sign : stands_for F x / 2 ≡ sign F x
  which_sign = omega (arith, nonzero_lt (fraction F x))

  which_fraction : stands_for F x % 2 ≡ nonzero (fraction F x)
  which_fraction = omega (arith, nonzero_lt (fraction F x))

  sign_of_lem : sign F (representative F m (biased F x) (stands_for F x)) ≡ sign F x
  sign_of_lem = representative_sign F m w (biased F x) (stands_for F x) (biased_lt F x) (stands_lt F x) ∙ which_sign

  exponent_of : biased F (representative F m (biased F x) (stands_for F x)) ≡ biased F x
  exponent_of = representative_biased F m w (biased F x) (stands_for F x) (biased_lt F x) (stands_lt F x)

  fraction_of : fraction F (representative F m (biased F x) (stands_for F x)) ≡ extreme F.f (fraction_mask F m) (nonzero (fraction F x))
  fraction_of =
      representative_fraction F m w (biased F x) (stands_for F x) (biased_lt F x) (stands_lt F x) ∙ ap (extreme F.f (fraction_mask F m)) which_fraction

  pub representative_alike : Alike F x (representative F m (biased F x) (stands_for F x))
  representative_alike = record {
    like_sign = sym sign_of_lem;
    like_exponent = ap (λ (e : Biased). e.0) (sym exponent_of);
    like_fraction =
        extreme_stands F.f (fraction_mask F m) (fraction_formed F.w F.f m w) (fraction F x) (mod-lt x (pow_pos F.f))
        ((meets_fields F.w F.f m w x).0 met).2
        ∙ sym (ap (λ (n : ℕ). eqb n 0) fraction_of);
  }

  pub representative_meets : Meets (representative F m (biased F x) (stands_for F x)) m
  representative_meets =
      let p = (meets_fields F.w F.f m w x).0 met in
      (meets_fields F.w F.f m w (representative F m (biased F x) (stands_for F x))).1 (
        rw sign_of_lem p.0,
        subst (λ (e : Biased). Meets e.0 (exponent_mask F m)) (sym exponent_of) p.1,
        rw fraction_of (extreme_meets F.f (fraction_mask F m) (fraction_formed F.w F.f m w) (nonzero (fraction F x))),
      )
