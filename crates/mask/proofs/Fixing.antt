-- Fixing one more bit: a word meets the mask with a free bit i also fixed to v exactly when it meets the mask and its bit i is v.
-- By bits: the mask gains bit i, and every other bit stays as it was. Assumes nothing.
use mathlib.Core.Logic.{◌↔◌}
use mathlib.Core.Path.{◌≡◌, sym, ap, ap₂, ◌∙◌}
use mathlib.Core.Bool.{true, ◌&&◌}
use Prim.Native.Nat.{ℕ, ◌*◌, ◌%◌, ◌^◌, ◌<◌}
use native.Mathlib.Nat.{zero-mul, one-mul, zero-div}
use native.Mathlib.Decide.{ℕ_discrete}
use native.Mathlib.Omega.{arith}
use borrow.Author.Tests.{lt-ltb, eq-eqb}
use lib.Bits.{bit_or, or_zero_l, or_zero_r, or_lt}
use lib.Dec.{ltb}
use lib.Pow.{pow-lt}
use Rattle.bits.specs.Bit.{bit}
use Rattle.bits.proofs.Laws.{bit_pow_same, bit_pow_other}
use Rattle.bits.proofs.Logic.{bit_of_or}
use Rattle.mask.specs.declared.Mask.{Mask}
use Rattle.mask.specs.Mask.{Inside, WellFormed, Meets, free, fixed, fix}
use Rattle.mask.proofs.Bitwise.{of_bit}
use Rattle.mask.proofs.ByBits.{AgreesAt, inside_bits, meets_bits}

bit_zero : (j : ℕ) → bit 0 j ≡ 0
bit_zero j = ap (λ (u : ℕ). u % 2) (zero-div (2 ^ j))

-- v at position i: bit i is v, and every other bit is 0
placed_same : (i v : ℕ) → v < 2 → bit (v * 2 ^ i) i ≡ v
placed_same i = of_bit (λ (v : ℕ). bit (v * 2 ^ i) i ≡ v) (rw zero-mul (bit_zero i)) (rw one-mul (bit_pow_same i))

placed_other : (i j : ℕ) → (i ≡ j → ⊥) → (v : ℕ) → v < 2 → bit (v * 2 ^ i) j ≡ 0
placed_other i j ne = of_bit (λ (v : ℕ). bit (v * 2 ^ i) j ≡ 0) (rw zero-mul (bit_zero j)) (rw one-mul (bit_pow_other i j ne))

-- a number whose bit i is 0 gains v there, and no other bit changes
pub put_same : (x i v : ℕ) → bit x i ≡ 0 → v < 2 → bit (bit_or x (v * 2 ^ i)) i ≡ v
put_same x i v none h = bit_of_or x (v * 2 ^ i) i ∙ ap₂ bit_or none (placed_same i v h) ∙ or_zero_l v

pub put_other : (x i v j : ℕ) → (i ≡ j → ⊥) → v < 2 → bit (bit_or x (v * 2 ^ i)) j ≡ bit x j
put_other x i v j ne h = bit_of_or x (v * 2 ^ i) j ∙ ap (bit_or (bit x j)) (placed_other i j ne v h) ∙ or_zero_r (bit x j)

-- one more bit of care is fixed
pub care_same : (m : Mask) (i v : ℕ) → bit m.care i ≡ 0 → bit (fixed m i v).care i ≡ 1
care_same m i v none = rw one-mul at (put_same m.care i 1 none (omega arith))

pub care_other : (m : Mask) (i v j : ℕ) → (i ≡ j → ⊥) → bit (fixed m i v).care j ≡ bit m.care j
care_other m i v j ne = rw one-mul at (put_other m.care i 1 j ne (omega arith))

module _ (m : Mask) (i v : ℕ) (h : Inside m) (none : bit m.care i ≡ 0) (hv : v < 2) where
  pub value_same : bit (fixed m i v).value i ≡ v
  value_same = put_same m.value i v ((inside_bits m).0 h i none) hv

  pub fixed_inside : Inside (fixed m i v)
  fixed_inside = (inside_bits (fixed m i v)).1 (λ j e. go j e (ℕ_discrete i j))
    where
      go : (j : ℕ) → bit (fixed m i v).care j ≡ 0 → Dec (i ≡ j) → bit (fixed m i v).value j ≡ 0
      go j e (yes q) = absurd (omega (arith, care_same m i v none, rw (← q) at e))
      go j e (no ne) = put_other m.value i v j ne hv ∙ (inside_bits m).0 h j (sym (care_other m i v j ne) ∙ e)

  pub fixed_formed : (width : ℕ) → WellFormed width m → i < width → WellFormed width (fixed m i v)
  fixed_formed width w k = record { below = or_lt width m.care (2 ^ i) w.below (pow-lt k); inside = fixed_inside }

  -- a word meets the mask with bit i also fixed to v exactly when it meets the mask and its bit i is v
  pub fixed_meets : (x : ℕ) → Meets x (fixed m i v) ↔ (Meets x m × (bit x i ≡ v))
  fixed_meets x = (there, back)
    where
      there : Meets x (fixed m i v) → Meets x m × (bit x i ≡ v)
      there met = ((meets_bits x m h).1 (λ j e. go j e (ℕ_discrete i j)), agrees i (care_same m i v none) ∙ value_same)
        where
          agrees : AgreesAt x (fixed m i v)
          agrees = (meets_bits x (fixed m i v) fixed_inside).0 met

          go : (j : ℕ) → bit m.care j ≡ 1 → Dec (i ≡ j) → bit x j ≡ bit m.value j
          go j e (yes q) = absurd (omega (arith, rw q at none))
          go j e (no ne) = agrees j (care_other m i v j ne ∙ e) ∙ put_other m.value i v j ne hv

      back : Meets x m × (bit x i ≡ v) → Meets x (fixed m i v)
      back p = (meets_bits x (fixed m i v) fixed_inside).1 (λ j e. go j e (ℕ_discrete i j))
        where
          go : (j : ℕ) → bit (fixed m i v).care j ≡ 1 → Dec (i ≡ j) → bit x j ≡ bit (fixed m i v).value j
          go j e (yes q) = rw (← q) (p.1 ∙ sym value_same)
          go j e (no ne) = (meets_bits x m h).0 p.0 j (sym (care_other m i v j ne) ∙ e) ∙ sym (put_other m.value i v j ne hv)

-- `fix` fixes a free bit of a 64-bit word
pub fix_fixed : (m : Mask) (i v : ℕ) → i < 64 → ltb v 2 && free m i ≡ true → fix m i v ≡ fixed m i v
unfolding fix
fix_fixed m i v h t = simp (lt-ltb i 64 h, t)

pub fix_free : (m : Mask) (i v : ℕ) → i < 64 → v < 2 → bit m.care i ≡ 0 → fix m i v ≡ fixed m i v
fix_free m i v h hv none = fix_fixed m i v h (simp (lt-ltb v 2 hv, eq-eqb (bit m.care i) 0 none))
