-- The rounded result with an infinity or a NaN is what the standard asks. Assumes nothing.
use mathlib.Core.Path.{◌≡◌, refl, sym, ap₂, ◌∙◌, subst}
use Prim.Native.Nat.{ℕ, ◌+◌, ◌/◌, ◌^◌}
use native.Mathlib.Nat.{mod-lt}
use native.Mathlib.Omega.{arith}
use borrow.Author.Tests.{eq-eqb, ne_eqb}
use Rattle.format.specs.declared.Format.{Format}
use Rattle.format.specs.Format.{Supported}
use Rattle.word.specs.declared.Operand as kind
use Rattle.word.specs.declared.Operand.TheVariants.{Finite, Infinite, Nan}
use Rattle.word.specs.Word.{sign, effective}
use Rattle.word.specs.Operand.{operand_of, finite_of}
use Rattle.adder.specs.Result.{nan, infinity, infinite_sum, kind_sum, result_of}
use Rattle.word.proofs.Fields.{effective_sign_lem, effective_biased, effective_fraction}
use Rattle.word.proofs.Canonical.{operand_finite}
use Rattle.standard.specs.Number.{FiniteWord}
use Rattle.standard.specs.Fields.{TheNan, Infinity}
use Rattle.standard.specs.Special.{InfiniteWord, NanWord, SpecialSum}
use Rattle.standard.proofs.Fields.{nan_fields, infinity_fields}

-- ---- the kind of such a word
module _ (F : Format) (x : ℕ) where
  operand_nan : NanWord F x → operand_of F x ≡ Nan
  unfolding operand_of
  operand_nan h = rw (eq-eqb _ _ h.0, ne_eqb _ _ h.1)

  operand_infinite : InfiniteWord F x → operand_of F x ≡ Infinite (sign F x)
  unfolding operand_of
  operand_infinite h = rw (eq-eqb _ _ h.0, eq-eqb _ _ h.1)

-- the effective b is of b's kind
module _ (F : Format) (operation b : ℕ) where
  effective_nan : NanWord F b → NanWord F (effective F operation b)
  effective_nan h = (effective_biased F operation b ∙ h.0, λ e. h.1 (sym (effective_fraction F operation b) ∙ e))

  effective_infinite : InfiniteWord F b → InfiniteWord F (effective F operation b)
  effective_infinite h = (effective_biased F operation b ∙ h.0, effective_fraction F operation b ∙ h.1)

  effective_finite : FiniteWord F b → FiniteWord F (effective F operation b)
  effective_finite h e = h (sym (effective_biased F operation b) ∙ e)

kind_nan : (F : Format) (mode : ℕ) (x : kind.Operand) → kind_sum F mode x Nan ≡ nan F
unfolding kind_sum infinite_sum
kind_nan F mode (Finite x) = refl
kind_nan F mode (Infinite s) = refl
kind_nan F mode Nan = refl

pub result_special : (F : Format) → Supported F → (operation mode a b : ℕ) → SpecialSum F operation a b (result_of F operation mode a b)
unfolding result_of kind_sum infinite_sum
result_special F ok operation mode a b =
    let e = effective F operation b in
    let s = effective_sign_lem F operation b in
    let by : (x y : kind.Operand) → operand_of F a ≡ x → operand_of F e ≡ y → result_of F operation mode a b ≡ kind_sum F mode x y = λ x y p q. ap₂ (kind_sum F mode) p q in
    let nan_by : result_of F operation mode a b ≡ nan F → TheNan F (result_of F operation mode a b) = λ q. subst (TheNan F) (sym q) (nan_fields F ok) in
    let infinity_by : (x : ℕ) → result_of F operation mode a b ≡ infinity F (sign F x) → Infinity F (sign F x) (result_of F operation mode a b) =
    λ x q. subst (Infinity F (sign F x)) (sym q) (infinity_fields F ok (sign F x) (mod-lt (x / 2 ^ (F.w + F.f)) (omega arith))) in
    let both : InfiniteWord F a → InfiniteWord F b → result_of F operation mode a b ≡ kind_sum F mode (Infinite (sign F a)) (Infinite (sign F e)) =
    λ h g. by (Infinite (sign F a)) (Infinite (sign F e)) (operand_infinite F a h) (operand_infinite F e (effective_infinite F operation b g)) in
    record {
      first_nan = λ h. nan_by (by Nan (operand_of F e) (operand_nan F a h) refl);
      second_nan = λ h. nan_by (by (operand_of F a) Nan refl (operand_nan F e (effective_nan F operation b h)) ∙ kind_nan F mode (operand_of F a));
      unlike = λ h g ne. nan_by (both h g ∙ rw (ne_eqb _ _ (λ q. ne (q ∙ s))));
      like = λ h g q. infinity_by a (both h g ∙ rw (eq-eqb _ _ (q ∙ sym s)));
      first_infinite = λ h g. infinity_by a (by (Infinite (sign F a)) (Finite (finite_of F e)) (operand_infinite F a h) (operand_finite F e (effective_finite F operation b g)));
      second_infinite = λ h g.
          subst (λ (t : ℕ). Infinity F t (result_of F operation mode a b)) s
          (infinity_by e (by (Finite (finite_of F a)) (Infinite (sign F e)) (operand_finite F a h) (operand_infinite F e (effective_infinite F operation b g))));
    }
