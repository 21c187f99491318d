-- The number of binary digits, by the powers of two that a number lies between. Assumes nothing.
use mathlib.Core.Path.{◌≡◌, sym, ap, ◌∙◌, subst}
use Prim.Native.Nat.{ℕ, zero, suc, ◌+◌, ◌*◌, ◌^◌, ◌≤◌, ◌<◌}
use native.Mathlib.Nat.{lt_of_lt_of_le, le_antisymm, not-le_of_lt, mul-lt-mul_of_pos_right, mul-le-mul_right}
use native.Mathlib.Decide.{dec_lt}
use native.Mathlib.Omega.{arith}
use lib.Ieee.{size}
use lib.Ieee.Digits.{size-lt, size_reaches, size-le}
use lib.Pow.{pow_pos, pow_mono, pow-add}

pub size_zero : size 0 ≡ 0
unfolding size
size_zero = mathlib.Core.Path.refl

-- a number of 2^n or more has more than n digits
pub size_least : (X n : ℕ) → 2 ^ n ≤ X → n < size X
size_least X n h = go (dec_lt n (size X))
  where
    go : Dec (n < size X) → n < size X
    go (yes d) = d
    go (no d) = absurd (not-le_of_lt (lt_of_lt_of_le (size-lt X) (pow_mono {i = size X} {j = n} (omega arith))) h)

-- a number from 2^n up to 2^(n+1) has n + 1 digits
pub size_between : (X n : ℕ) → 2 ^ n ≤ X → X < 2 ^ suc n → size X ≡ suc n
size_between X n h l = le_antisymm (size-le X (suc n) l) (size_least X n h)

-- a number that is not 0 has a first digit
pub size_top : (X : ℕ) → 0 < X → (n : ℕ) × (size X ≡ suc n) × (2 ^ n ≤ X) × (X < 2 ^ suc n)
size_top X pos = go (size X) mathlib.Core.Path.refl
  where
    go : (s : ℕ) → size X ≡ s → (n : ℕ) × (size X ≡ suc n) × (2 ^ n ≤ X) × (X < 2 ^ suc n)
    go zero e = let h : X < 2 ^ 0 = subst (λ (s : ℕ). X < 2 ^ s) e (size-lt X) in absurd (omega arith)
    go (suc n) e = (n, e, size_reaches X n (omega arith), subst (λ (s : ℕ). X < 2 ^ s) e (size-lt X))

-- scaling by 2^i adds i digits
pub size_scale : (X i : ℕ) → 0 < X → size (X * 2 ^ i) ≡ size X + i
size_scale X i pos =
    let t = size_top X pos in
    let n = t.0 in
    size_between (X * 2 ^ i) (n + i) (subst (λ (m : ℕ). m ≤ X * 2 ^ i) (sym (pow-add 2 n i)) (mul-le-mul_right (2 ^ i) t.2))
    (subst (λ (m : ℕ). X * 2 ^ i < m) (sym (pow-add 2 (suc n) i) ∙ ap (λ (m : ℕ). 2 ^ m) (omega arith)) (mul-lt-mul_of_pos_right t.3 (pow_pos i)))
    ∙ omega (arith, t.1)
