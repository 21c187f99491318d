-- Beside an infinite operand or a NaN a finite one may have any exponent field of finite numbers that meets its mask: a case with the one
-- field gives a case with the other. Assumes nothing.
use Rattle.std.specs.Prelude.{Option}
use mathlib.Core.Path.{◌≡◌, sym, ap, ◌∙◌, subst}
use mathlib.Core.Logic.{inl, inr}
use Prim.Native.Nat.{ℕ, ◌+◌, ◌/◌, ◌^◌, ◌<◌}
use native.Mathlib.Nat.{mod-lt}
use native.Mathlib.Omega.{arith}
use lib.Pow.{pow_pos}
use Rattle.format.specs.declared.Format.{Format}
use Rattle.format.specs.Format.{word_bits}
use Rattle.mask.specs.declared.Mask.{Mask}
use Rattle.mask.specs.Mask.{WellFormed, Meets}
use Rattle.mask.proofs.ByParts.{meets_fields}
use Rattle.job.specs.declared.Job.{Job}
use Rattle.job.specs.Job.{Valid}
use Rattle.word.specs.declared.Biased.{Biased}
use Rattle.word.specs.Word.{sign, biased, fraction, all_ones, word_of}
use Rattle.word.specs.Masks.{exponent_mask}
use Rattle.word.proofs.Fields.{signed_lt, together_lt, together_sign, together_biased, together_fraction}
use Rattle.fit.specs.Fit.{PartMeets, row_in, below_in}
use Rattle.special.specs.Asked.{field_is, PairFits}
use Rattle.special.specs.Special.{Special, Unfixed}
use Rattle.special.proofs.Alike.{special_row, special_below, finite_second, finite_first}
use Rattle.special.proofs.Laws.{special_unfixed}

-- ---- a word with another exponent field
module _ (F : Format) (x : ℕ) (g : Biased) (g-lt : g.0 < 2 ^ F.w) where
  abbrev pub with_field : ℕ
  with_field = word_of F (sign F x) g.0 (fraction F x)

  sign_lt : sign F x < 2
  sign_lt = mod-lt (x / 2 ^ (F.w + F.f)) (omega arith)

  fraction_lt : fraction F x < 2 ^ F.f
  fraction_lt = mod-lt x (pow_pos F.f)

  pub field_word : with_field < 2 ^ word_bits F
  field_word = signed_lt F (sign F x) _ sign_lt (together_lt F g.0 (fraction F x) g-lt fraction_lt)

  pub field_biased : biased F with_field ≡ g
  field_biased = ap field_is (together_biased F (sign F x) g.0 (fraction F x) sign_lt g-lt fraction_lt)

  pub field_meets : (m : Mask) → WellFormed (word_bits F) m → Meets x m → Meets g.0 (exponent_mask F m) → Meets with_field m
  field_meets m formed met here =
      let p = (meets_fields F.w F.f m formed x).0 met in
      (meets_fields F.w F.f m formed with_field).1 (
        rw (together_sign F (sign F x) g.0 (fraction F x) sign_lt g-lt fraction_lt) p.0,
        subst (λ (e : Biased). Meets e.0 (exponent_mask F m)) (sym field_biased) here,
        rw (together_fraction F (sign F x) g.0 (fraction F x) sign_lt g-lt fraction_lt) p.2,
      )

-- ---- a case with it, E being the exponent field that is all ones
module _ (j : Job) (valid : Valid j) (E e g : Biased) (ones : E.0 ≡ all_ones j.setting.format) (e-lt : e.0 < all_ones j.setting.format) (g-lt : g.0 < all_ones j.setting.format) where
  abbrev F : Format
  F = j.setting.format

  within : g.0 < 2 ^ F.w
  within = omega (arith, pow_pos F.w)

  finite : (x : ℕ) (k : Biased) → biased F x ≡ k → k.0 < all_ones F → (biased F x).0 ≡ all_ones F → ⊥
  finite x k is l q = omega (arith, ap (λ (n : Biased). n.0) is)

  all_ones_lem : (x : ℕ) → biased F x ≡ E → (biased F x).0 ≡ all_ones F
  all_ones_lem x is = ap (λ (n : Biased). n.0) is ∙ ones

  rowless : (a b : ℕ) → Special F (biased F a) (biased F b) → Unfixed j → PartMeets (row_in j.setting a b) j.carries
  rowless a b special free = subst (λ (r : Option ℕ). PartMeets r j.carries) (sym (special_row F j.setting.operation a b special)) free.carries

  bitless : (a b : ℕ) → Special F (biased F a) (biased F b) → Unfixed j → PartMeets (below_in j.setting j.dropped.g a b) j.dropped.mask
  bitless a b special free = subst (λ (r : Option ℕ). PartMeets r j.dropped.mask) (sym (special_below F j.setting.operation j.dropped.g a b special)) free.dropped

  pub beside_a : Meets g.0 (exponent_mask F j.b.mask) → PairFits j E e → PairFits j E g
  beside_a met p = record {
    a = p.a;
    b = with_field F p.b g within;
    c = p.c;
    fits = record {
      right = record {
        a_word = p.fits.right.a_word;
        b_word = field_word F p.b g within;
        c_word = p.fits.right.c_word;
        sum = p.fits.right.sum ∙ finite_second F j.setting.operation j.setting.mode p.a p.b (with_field F p.b g within) (all_ones_lem p.a p.a_exponent) (finite p.b e p.b_exponent e-lt) (finite (with_field F p.b g within) g (field_biased F p.b g within) g-lt);
      };
      satisfies = record {
        a_allowed = p.fits.satisfies.a_allowed;
        b_allowed = record { mask = field_meets F p.b g within j.b.mask valid.b.mask p.fits.satisfies.b_allowed.mask met; within = tt };
        c_allowed = p.fits.satisfies.c_allowed;
        row = rowless p.a (with_field F p.b g within) (inl (all_ones_lem p.a p.a_exponent)) (special_unfixed j valid E e (inl ones) p);
        dropped = bitless p.a (with_field F p.b g within) (inl (all_ones_lem p.a p.a_exponent)) (special_unfixed j valid E e (inl ones) p);
      };
    };
    a_exponent = p.a_exponent;
    b_exponent = field_biased F p.b g within;
  }

  pub beside_b : Meets g.0 (exponent_mask F j.a.mask) → PairFits j e E → PairFits j g E
  beside_b met p = record {
    a = with_field F p.a g within;
    b = p.b;
    c = p.c;
    fits = record {
      right = record {
        a_word = field_word F p.a g within;
        b_word = p.fits.right.b_word;
        c_word = p.fits.right.c_word;
        sum = p.fits.right.sum ∙ finite_first F j.setting.operation j.setting.mode p.a (with_field F p.a g within) p.b (all_ones_lem p.b p.b_exponent) (finite p.a e p.a_exponent e-lt) (finite (with_field F p.a g within) g (field_biased F p.a g within) g-lt);
      };
      satisfies = record {
        a_allowed = record { mask = field_meets F p.a g within j.a.mask valid.a.mask p.fits.satisfies.a_allowed.mask met; within = tt };
        b_allowed = p.fits.satisfies.b_allowed;
        c_allowed = p.fits.satisfies.c_allowed;
        row = rowless (with_field F p.a g within) p.b (inr (all_ones_lem p.b p.b_exponent)) (special_unfixed j valid e E (inr ones) p);
        dropped = bitless (with_field F p.a g within) p.b (inr (all_ones_lem p.b p.b_exponent)) (special_unfixed j valid e E (inr ones) p);
      };
    };
    a_exponent = field_biased F p.a g within;
    b_exponent = p.b_exponent;
  }
