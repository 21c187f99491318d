-- A pair of finite exponent fields admits a case exactly when the fields meet their masks and some two signs pose one: the words a and b are
-- their signs, fields and fractions. Assumes nothing.
use Rattle.std.specs.Prelude.{Option, Some}
use mathlib.Core.Logic.{◌↔◌}
use mathlib.Core.Path.{◌≡◌, refl, sym, ap, ap₂, ◌∙◌, subst}
use Prim.Native.Nat.{ℕ, ◌+◌, ◌*◌, ◌/◌, ◌^◌, ◌<◌}
use native.Mathlib.Nat.{mod-lt}
use native.Mathlib.Omega.{arith}
use lib.Pow.{pow_pos}
use Rattle.format.specs.declared.Format.{Format}
use Rattle.mask.specs.Mask.{Meets}
use Rattle.mask.proofs.ByParts.{meets_fields, fraction_formed}
use Rattle.job.specs.declared.Job.{Job}
use Rattle.job.specs.Job.{Valid}
use Rattle.word.specs.declared.Biased.{Biased}
use Rattle.word.specs.declared.Finite as record_of
use Rattle.adder.specs.Below.{finite_below}
use Rattle.word.specs.Word.{fraction, biased, sign, signed, all_ones}
use Rattle.word.specs.Operand.{finite_of}
use Rattle.adder.specs.Result.{finite_sum, result_of}
use Rattle.adder.specs.Row.{finite_row}
use Rattle.word.proofs.Fields.{together_sign, together_biased, together_fraction, together_lt, signed_lt}
use Rattle.adder.proofs.ResultLaws.{result_lt}
use Rattle.adder.proofs.Aligned.{below_finite, turned_of, result_finite, row_finite}
use Rattle.fit.specs.Fit.{PartMeets}
use Rattle.word.specs.Masks.{sign_mask, exponent_mask, fraction_mask}
use Rattle.special.specs.Asked.{field_is, PairFits}
use Rattle.pair.specs.Pair.{FiniteSide, side_a, side_b, SomeSigns, FinitePair}
use Rattle.pair.proofs.Rows.{number}
use Rattle.pair.proofs.Numbers.{Numbers, sums_numbers}

module _ (j : Job) (valid : Valid j) (ea eb : Biased) (fin : FinitePair j.setting.format ea eb) where
  F : Format
  F = j.setting.format

  pub finite_a : (sa : ℕ) → sa < 2 → FiniteSide j.setting.format (side_a j sa ea)
  finite_a sa h = record { sign_lt = h; finite = fin.a_finite; formed = fraction_formed j.setting.format.w j.setting.format.f j.a.mask valid.a.mask }

  pub finite_b : (sb : ℕ) → FiniteSide j.setting.format (side_b j sb eb)
  finite_b sb = record {
    sign_lt = mod-lt (sb + j.setting.operation) (omega arith);
    finite = fin.b_finite;
    formed = fraction_formed j.setting.format.w j.setting.format.f j.b.mask valid.b.mask;
  }

  -- the numbers of a case
  case_numbers : (P : PairFits j ea eb)
      → Meets ea.0 (exponent_mask j.setting.format j.a.mask) × Meets eb.0 (exponent_mask j.setting.format j.b.mask) × SomeSigns j ea eb
  unfolding F
  case_numbers P = (
    subst (λ (e : Biased). Meets e.0 (exponent_mask F j.a.mask)) P.a_exponent ma.1,
    subst (λ (e : Biased). Meets e.0 (exponent_mask F j.b.mask)) P.b_exponent mb.1,
    record {
      sa = sign F a;
      sb = sign F b;
      sa_lt = sa_lt;
      sb_lt = mod-lt (b / 2 ^ (F.w + F.f)) (omega arith);
      posed = record {
        a_sign = ma.0;
        b_sign = mb.0;
        sums = (sums_numbers j valid (side_a j (sign F a) ea) (side_b j (sign F b) eb) (finite_a (sign F a) sa_lt) (finite_b (sign F b)) refl refl).1 (record {
          p = fraction F a;
          q = fraction F b;
          p_lt = mod-lt a (pow_pos F.f);
          q_lt = mod-lt b (pow_pos F.f);
          p_meets = ma.2;
          q_meets = mb.2;
          row_meets_lem = subst (λ (r : Option ℕ). PartMeets r j.carries) (row_finite F j.setting.operation j.setting.mode a b na nb ∙ ap₂ (λ (x y : record_of.Finite). Some (finite_row F x y)) x_is y_is) P.fits.satisfies.row;
          below_meets_lem = subst (λ (r : Option ℕ). PartMeets r j.dropped.mask) (below_finite F j.setting.operation j.setting.mode a b na nb j.dropped.g ∙ ap₂ (finite_below F j.dropped.g) x_is y_is) P.fits.satisfies.dropped;
          sum_meets = subst (λ (n : ℕ). Meets n j.c.mask) (P.fits.right.sum ∙ result_finite F j.setting.operation j.setting.mode a b na nb ∙ ap₂ (finite_sum F j.setting.mode) x_is y_is) P.fits.satisfies.c_allowed.mask;
        });
      };
    },
  )
    where
      a : ℕ
      a = P.a

      b : ℕ
      b = P.b

      sa_lt : sign F a < 2
      sa_lt = mod-lt (a / 2 ^ (F.w + F.f)) (omega arith)

      ma : Meets (sign F a) (sign_mask F j.a.mask) × Meets (biased F a).0 (exponent_mask F j.a.mask) × Meets (fraction F a) (fraction_mask F j.a.mask)
      ma = (meets_fields F.w F.f j.a.mask valid.a.mask a).0 P.fits.satisfies.a_allowed.mask

      mb : Meets (sign F b) (sign_mask F j.b.mask) × Meets (biased F b).0 (exponent_mask F j.b.mask) × Meets (fraction F b) (fraction_mask F j.b.mask)
      mb = (meets_fields F.w F.f j.b.mask valid.b.mask b).0 P.fits.satisfies.b_allowed.mask

      na : (biased F a).0 ≡ all_ones F → ⊥
      na e = omega (arith, ap (λ (n : Biased). n.0) P.a_exponent, fin.a_finite)

      nb : (biased F b).0 ≡ all_ones F → ⊥
      nb e = omega (arith, ap (λ (n : Biased). n.0) P.b_exponent, fin.b_finite)

      x_is : finite_of F a ≡ number F (side_a j (sign F a) ea) (fraction F a)
      x_is = ap (λ (e : Biased). number F (side_a j (sign F a) e) (fraction F a)) P.a_exponent

      y_is : turned_of F j.setting.operation b ≡ number F (side_b j (sign F b) eb) (fraction F b)
      y_is = ap (λ (e : Biased). number F (side_b j (sign F b) e) (fraction F b)) P.b_exponent

  -- a case of numbers
  numbers_case : Meets ea.0 (exponent_mask j.setting.format j.a.mask) → Meets eb.0 (exponent_mask j.setting.format j.b.mask) → (sa sb : ℕ) → sa < 2 → sb < 2
      → Meets sa (sign_mask j.setting.format j.a.mask) → Meets sb (sign_mask j.setting.format j.b.mask)
      → Numbers j (side_a j sa ea) (side_b j sb eb) → PairFits j ea eb
  unfolding F
  numbers_case ma mb sa sb hsa hsb msa msb N = record {
    a = a;
    b = b;
    c = result_of F j.setting.operation j.setting.mode a b;
    fits = record {
      right = record {
        a_word = signed_lt F sa (ea.0 * 2 ^ F.f + N.p) hsa (together_lt F ea.0 N.p ea_lt N.p_lt);
        b_word = signed_lt F sb (eb.0 * 2 ^ F.f + N.q) hsb (together_lt F eb.0 N.q eb_lt N.q_lt);
        c_word = result_lt F valid.setting.format j.setting.operation j.setting.mode a b;
        sum = refl;
      };
      satisfies = record {
        a_allowed = record { mask = (meets_fields F.w F.f j.a.mask valid.a.mask a).1 (rw a_sign msa, rw a_exponent ma, rw a_fraction N.p_meets); within = tt };
        b_allowed = record { mask = (meets_fields F.w F.f j.b.mask valid.b.mask b).1 (rw b_sign msb, rw b_exponent mb, rw b_fraction N.q_meets); within = tt };
        c_allowed = record { mask = subst (λ (n : ℕ). Meets n j.c.mask) (sym (result_finite F j.setting.operation j.setting.mode a b na nb ∙ ap₂ (finite_sum F j.setting.mode) x_is y_is)) N.sum_meets; within = tt };
        row = subst (λ (r : Option ℕ). PartMeets r j.carries) (sym (row_finite F j.setting.operation j.setting.mode a b na nb ∙ ap₂ (λ (x y : record_of.Finite). Some (finite_row F x y)) x_is y_is)) N.row_meets_lem;
        dropped = subst (λ (r : Option ℕ). PartMeets r j.dropped.mask) (sym (below_finite F j.setting.operation j.setting.mode a b na nb j.dropped.g ∙ ap₂ (finite_below F j.dropped.g) x_is y_is)) N.below_meets_lem;
      };
    };
    a_exponent = ap field_is a_exponent;
    b_exponent = ap field_is b_exponent;
  }
    where
      a : ℕ
      a = signed F sa (ea.0 * 2 ^ F.f + N.p)

      b : ℕ
      b = signed F sb (eb.0 * 2 ^ F.f + N.q)

      ea_lt : ea.0 < 2 ^ F.w
      ea_lt = omega (arith, fin.a_finite)

      eb_lt : eb.0 < 2 ^ F.w
      eb_lt = omega (arith, fin.b_finite)

      a_sign : sign F a ≡ sa
      a_sign = together_sign F sa ea.0 N.p hsa ea_lt N.p_lt

      a_exponent : (biased F a).0 ≡ ea.0
      a_exponent = together_biased F sa ea.0 N.p hsa ea_lt N.p_lt

      a_fraction : fraction F a ≡ N.p
      a_fraction = together_fraction F sa ea.0 N.p hsa ea_lt N.p_lt

      b_sign : sign F b ≡ sb
      b_sign = together_sign F sb eb.0 N.q hsb eb_lt N.q_lt

      b_exponent : (biased F b).0 ≡ eb.0
      b_exponent = together_biased F sb eb.0 N.q hsb eb_lt N.q_lt

      b_fraction : fraction F b ≡ N.q
      b_fraction = together_fraction F sb eb.0 N.q hsb eb_lt N.q_lt

      na : (biased F a).0 ≡ all_ones F → ⊥
      na e = omega (arith, a_exponent, fin.a_finite)

      nb : (biased F b).0 ≡ all_ones F → ⊥
      nb e = omega (arith, b_exponent, fin.b_finite)

      x_is : finite_of F a ≡ number F (side_a j sa ea) N.p
      x_is = ap₂ (λ (s e : ℕ). number F (side_a j s (field_is e)) (fraction F a)) a_sign a_exponent ∙ ap (number F (side_a j sa ea)) a_fraction

      y_is : turned_of F j.setting.operation b ≡ number F (side_b j sb eb) N.q
      y_is = ap₂ (λ (s e : ℕ). number F (side_b j s (field_is e)) (fraction F b)) b_sign b_exponent ∙ ap (number F (side_b j sb eb)) b_fraction

  pub pair_finite : PairFits j ea eb
      ↔ (Meets ea.0 (exponent_mask j.setting.format j.a.mask) × Meets eb.0 (exponent_mask j.setting.format j.b.mask) × SomeSigns j ea eb)
  pair_finite = (
    case_numbers,
    λ p.
        let S = p.2 in
        numbers_case p.0 p.1 S.sa S.sb S.sa_lt S.sb_lt S.posed.a_sign S.posed.b_sign
        ((sums_numbers j valid (side_a j S.sa ea) (side_b j S.sb eb) (finite_a S.sa S.sa_lt) (finite_b S.sb) refl refl).0 S.posed.sums),
  )
