-- Words of one sign and one exponent field whose fractions are both 0 or both not are of one kind. Where an operand is infinite or a NaN
-- there is no row, and operands of one kind have one rounded result; so have any two finite operands beside it. Assumes nothing.
use Rattle.std.specs.Prelude.{None}
use mathlib.Core.Path.{◌≡◌, refl, sym, ap, ap₂, ◌∙◌}
use mathlib.Core.Logic.{◌⊎◌, inl, inr}
use mathlib.Core.Bool.{Bool, true, false, cond}
use Prim.Native.Nat.{ℕ, ◌+◌, ◌%◌}
use native.Mathlib.Decide.{ℕ_discrete}
use borrow.Author.Tests.{eq-eqb}
use lib.Dec.{eqb}
use Rattle.format.specs.declared.Format.{Format}
use Rattle.word.specs.declared.Finite as record_of
use Rattle.word.specs.declared.Operand as kind
use Rattle.word.specs.declared.Operand.TheVariants.{Finite, Infinite, Nan}
use Rattle.word.specs.Word.{fraction, biased, sign, all_ones, effective}
use Rattle.word.specs.Operand.{finite_of, operand_of}
use Rattle.adder.specs.Result.{infinite_sum, kind_sum, result_of}
use Rattle.adder.specs.Row.{kind_row, row_of}
use Rattle.adder.specs.Below.{kind_below, below_of}
use Rattle.word.proofs.Fields.{effective_sign_lem, effective_biased, effective_fraction}
use Rattle.word.proofs.Canonical.{operand_finite}

-- ---- an operand that is not finite

abbrev NotFinite : kind.Operand → Type 0
NotFinite (Finite x) = ⊥
NotFinite (Infinite s) = Prim.Unit {0}
NotFinite Nan = Prim.Unit {0}

not_finite : (F : Format) (x : ℕ) → (biased F x).0 ≡ all_ones F → NotFinite (operand_of F x)
unfolding operand_of
not_finite F x e = rw (eq-eqb _ _ e) (go (eqb (fraction F x) 0))
  where
    go : (t : Bool) → NotFinite (cond t (Infinite (sign F x)) Nan)
    go true = tt
    go false = tt

-- the finite operand beside it does not matter
sum_first : (F : Format) (mode : ℕ) (x : kind.Operand) → NotFinite x → (u v : record_of.Finite) → kind_sum F mode x (Finite u) ≡ kind_sum F mode x (Finite v)
unfolding kind_sum infinite_sum
sum_first F mode (Finite x) n u v = absurd n
sum_first F mode (Infinite s) n u v = refl
sum_first F mode Nan n u v = refl

sum_second : (F : Format) (mode : ℕ) (y : kind.Operand) → NotFinite y → (u v : record_of.Finite) → kind_sum F mode (Finite u) y ≡ kind_sum F mode (Finite v) y
unfolding kind_sum
sum_second F mode (Finite y) n u v = absurd n
sum_second F mode (Infinite t) n u v = refl
sum_second F mode Nan n u v = refl

row_first : (F : Format) (x y : kind.Operand) → NotFinite x → kind_row F x y ≡ None
unfolding kind_row
row_first F (Finite x) y n = absurd n
row_first F (Infinite s) y n = refl
row_first F Nan y n = refl

row_second : (F : Format) (x y : kind.Operand) → NotFinite y → kind_row F x y ≡ None
unfolding kind_row
row_second F (Finite x) (Finite y) n = absurd n
row_second F (Finite x) (Infinite t) n = refl
row_second F (Finite x) Nan n = refl
row_second F (Infinite s) y n = refl
row_second F Nan y n = refl

-- there is no row
pub special_row : (F : Format) (operation a b : ℕ) → ((biased F a).0 ≡ all_ones F) ⊎ ((biased F b).0 ≡ all_ones F) → row_of F operation a b ≡ None
unfolding row_of
special_row F operation a b (inl e) = row_first F (operand_of F a) (operand_of F (effective F operation b)) (not_finite F a e)
special_row F operation a b (inr e) =
    row_second F (operand_of F a) (operand_of F (effective F operation b)) (not_finite F (effective F operation b) (effective_biased F operation b ∙ e))

below_first : (F : Format) (g : ℕ) (x y : kind.Operand) → NotFinite x → kind_below F g x y ≡ None
unfolding kind_below
below_first F g (Finite x) y n = absurd n
below_first F g (Infinite s) y n = refl
below_first F g Nan y n = refl

below_second : (F : Format) (g : ℕ) (x y : kind.Operand) → NotFinite y → kind_below F g x y ≡ None
unfolding kind_below
below_second F g (Finite x) (Finite y) n = absurd n
below_second F g (Finite x) (Infinite t) n = refl
below_second F g (Finite x) Nan n = refl
below_second F g (Infinite s) y n = refl
below_second F g Nan y n = refl

-- nor a bit below the last
pub special_below : (F : Format) (operation g a b : ℕ) → ((biased F a).0 ≡ all_ones F) ⊎ ((biased F b).0 ≡ all_ones F) → below_of F operation g a b ≡ None
unfolding below_of
special_below F operation g a b (inl e) = below_first F g (operand_of F a) (operand_of F (effective F operation b)) (not_finite F a e)
special_below F operation g a b (inr e) =
    below_second F g (operand_of F a) (operand_of F (effective F operation b)) (not_finite F (effective F operation b) (effective_biased F operation b ∙ e))

-- ---- words of one kind

pub record Alike (F : Format) (x y : ℕ) : Type 0 where
  pub like_sign : sign F x ≡ sign F y
  pub like_exponent : (biased F x).0 ≡ (biased F y).0
  pub like_fraction : eqb (fraction F x) 0 ≡ eqb (fraction F y) 0

alike_operand : (F : Format) (x y : ℕ) → Alike F x y → (biased F x).0 ≡ all_ones F → operand_of F x ≡ operand_of F y
unfolding operand_of
alike_operand F x y h e =
    rw (eq-eqb _ _ e, eq-eqb _ _ (sym h.like_exponent ∙ e)) (ap₂ (λ (t : Bool) (s : ℕ). cond t (Infinite s) Nan) h.like_fraction h.like_sign)

alike_finite : (F : Format) (x y : ℕ) → Alike F x y → ((biased F x).0 ≡ all_ones F → ⊥) → operand_of F y ≡ Finite (finite_of F y)
alike_finite F x y h ne = operand_finite F y (λ q. ne (h.like_exponent ∙ q))

-- subtracting keeps them of one kind
alike_effective : (F : Format) (operation x y : ℕ) → Alike F x y → Alike F (effective F operation x) (effective F operation y)
alike_effective F operation x y h = record {
  like_sign = effective_sign_lem F operation x ∙ ap (λ (n : ℕ). (n + operation) % 2) h.like_sign ∙ sym (effective_sign_lem F operation y);
  like_exponent = effective_biased F operation x ∙ h.like_exponent ∙ sym (effective_biased F operation y);
  like_fraction =
      ap (λ (n : ℕ). eqb n 0) (effective_fraction F operation x) ∙ h.like_fraction ∙ sym (ap (λ (n : ℕ). eqb n 0) (effective_fraction F operation y));
}

module _ (F : Format) (mode : ℕ) {a a' b b' : ℕ} (la : Alike F a a') (lb : Alike F b b') where
  alike_sum : ((biased F a).0 ≡ all_ones F) ⊎ ((biased F b).0 ≡ all_ones F)
      → kind_sum F mode (operand_of F a) (operand_of F b) ≡ kind_sum F mode (operand_of F a') (operand_of F b')
  alike_sum special = go (ℕ_discrete (biased F a).0 (all_ones F)) (ℕ_discrete (biased F b).0 (all_ones F)) special
    where
      go : Dec ((biased F a).0 ≡ all_ones F) → Dec ((biased F b).0 ≡ all_ones F) → ((biased F a).0 ≡ all_ones F) ⊎ ((biased F b).0 ≡ all_ones F)
          → kind_sum F mode (operand_of F a) (operand_of F b) ≡ kind_sum F mode (operand_of F a') (operand_of F b')
      go (yes p) (yes q) o = ap₂ (kind_sum F mode) (alike_operand F a a' la p) (alike_operand F b b' lb q)
      go (yes p) (no q) o =
          ap (kind_sum F mode (operand_of F a)) (operand_finite F b q)
          ∙ sum_first F mode (operand_of F a) (not_finite F a p) (finite_of F b) (finite_of F b')
          ∙ ap₂ (kind_sum F mode) (alike_operand F a a' la p) (sym (alike_finite F b b' lb q))
      go (no p) (yes q) o =
          ap (λ (n : kind.Operand). kind_sum F mode n (operand_of F b)) (operand_finite F a p)
          ∙ sum_second F mode (operand_of F b) (not_finite F b q) (finite_of F a) (finite_of F a')
          ∙ ap₂ (kind_sum F mode) (sym (alike_finite F a a' la p)) (alike_operand F b b' lb q)
      go (no p) (no q) (inl e) = absurd (p e)
      go (no p) (no q) (inr e) = absurd (q e)

-- operands of one kind, one of them infinite or a NaN, have one rounded result
pub alike_result : (F : Format) (operation mode : ℕ) {a a' b b' : ℕ} → Alike F a a' → Alike F b b'
    → ((biased F a).0 ≡ all_ones F) ⊎ ((biased F b).0 ≡ all_ones F) → result_of F operation mode a b ≡ result_of F operation mode a' b'
unfolding result_of
alike_result F operation mode {b = b} {b' = b'} la lb (inl e) = alike_sum F mode la (alike_effective F operation b b' lb) (inl e)
alike_result F operation mode {b = b} {b' = b'} la lb (inr e) =
    alike_sum F mode la (alike_effective F operation b b' lb) (inr (effective_biased F operation b ∙ e))

-- ---- a finite operand beside one that is not

-- any two have one rounded result with it
module _ (F : Format) (operation mode : ℕ) where
  pub finite_second : (a b b' : ℕ) → (biased F a).0 ≡ all_ones F → ((biased F b).0 ≡ all_ones F → ⊥) → ((biased F b').0 ≡ all_ones F → ⊥) → result_of F operation mode a b ≡ result_of F operation mode a b'
  unfolding result_of
  finite_second a b b' e n n' =
      ap (kind_sum F mode (operand_of F a)) (finite b n)
      ∙ sum_first F mode (operand_of F a) (not_finite F a e) (finite_of F (effective F operation b)) (finite_of F (effective F operation b'))
      ∙ sym (ap (kind_sum F mode (operand_of F a)) (finite b' n'))
    where
      finite : (x : ℕ) → ((biased F x).0 ≡ all_ones F → ⊥) → operand_of F (effective F operation x) ≡ Finite (finite_of F (effective F operation x))
      finite x ne = operand_finite F (effective F operation x) (λ q. ne (sym (effective_biased F operation x) ∙ q))

  pub finite_first : (a a' b : ℕ) → (biased F b).0 ≡ all_ones F → ((biased F a).0 ≡ all_ones F → ⊥) → ((biased F a').0 ≡ all_ones F → ⊥) → result_of F operation mode a b ≡ result_of F operation mode a' b
  unfolding result_of
  finite_first a a' b e n n' =
      ap (λ (k : kind.Operand). kind_sum F mode k (operand_of F (effective F operation b))) (operand_finite F a n)
      ∙ sum_second F mode (operand_of F (effective F operation b)) (not_finite F (effective F operation b) (effective_biased F operation b ∙ e)) (finite_of F a) (finite_of F a')
      ∙ sym (ap (λ (k : kind.Operand). kind_sum F mode k (operand_of F (effective F operation b))) (operand_finite F a' n'))
