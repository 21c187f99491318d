-- What `fix` does to a mask and to the words that meet it, whether the bit was free or fixed already. Assumes nothing.
use mathlib.Core.Path.{◌≡◌, refl, sym, subst}
use mathlib.Core.Logic.{inl, inr}
use Prim.Native.Nat.{ℕ, ◌<◌}
use native.Mathlib.Decide.{ℕ_discrete}
use native.Mathlib.Omega.{arith}
use borrow.Author.Tests.{lt-ltb, ne_eqb}
use Rattle.bits.specs.Bit.{bit}
use Rattle.mask.specs.declared.Mask.{Mask}
use Rattle.mask.specs.Mask.{Inside, WellFormed, Meets, fixed, fix}
use Rattle.mask.proofs.Bitwise.{bit_case}
use Rattle.mask.proofs.ByBits.{meets_bits}
use Rattle.mask.proofs.Fixing.{care_same, care_other, fixed_formed, fixed_meets, fix_free}
use Rattle.choice.proofs.Narrow.{Narrowed}

-- what holds of m where it fixes bit i, and of m with bit i fixed where it does not, holds of the result
module _ (m : Mask) (i v : ℕ) (hi : i < 64) (hv : v < 2) where
  fix_held : bit m.care i ≡ 1 → fix m i v ≡ m
  unfolding fix
  fix_held e = simp (lt-ltb i 64 hi, lt-ltb v 2 hv, ne_eqb (bit m.care i) 0 (λ z. omega arith))

  by_fix : (A : Mask → Type 0) → (bit m.care i ≡ 0 → A (fixed m i v)) → (bit m.care i ≡ 1 → A m) → A (fix m i v)
  by_fix A free held =
      bit_case m.care i (λ none. subst A (sym (fix_free m i v hi hv none)) (free none)) (λ one. subst A (sym (fix_held one)) (held one))

  -- bit i is fixed, and no other is set free
  pub fix_cares : bit (fix m i v).care i ≡ 1
  fix_cares = by_fix (λ m'. bit m'.care i ≡ 1) (care_same m i v) (λ one. one)

  pub fix_keeps : (j : ℕ) → bit m.care j ≡ 1 → bit (fix m i v).care j ≡ 1
  fix_keeps j e = by_fix (λ m'. bit m'.care j ≡ 1) (λ none. go none (ℕ_discrete i j)) (λ one. e)
    where
      go : bit m.care i ≡ 0 → Dec (i ≡ j) → bit (fixed m i v).care j ≡ 1
      go none (yes q) = subst (λ (k : ℕ). bit (fixed m i v).care k ≡ 1) q (care_same m i v none)
      go none (no ne) = rw (care_other m i v j ne) e

  pub fix_formed : (width : ℕ) → WellFormed width m → i < width → WellFormed width (fix m i v)
  fix_formed width w l = by_fix (WellFormed width) (λ none. fixed_formed m i v w.inside none hv width w l) (λ one. w)

  -- the words that meet the result are those that meet m and have one value at bit i
  pub fix_narrows : Inside m → Narrowed (λ x. Meets x m) (λ x. Meets x (fix m i v)) i v
  fix_narrows h =
      by_fix (λ m'. Narrowed (λ x. Meets x m) (λ x. Meets x m') i v)
      (λ none. record { is = v; same = fixed_meets m i v h none hv; why = inl refl })
      (λ one. record {
        is = bit m.value i;
        same = λ x. (λ met. (met, (meets_bits x m h).0 met i one), λ p. p.0);
        why = inr (λ x met. (meets_bits x m h).0 met i one);
      })
