-- One number as a part of another. Quotients and remainders by powers of two keep it, and so does the sticky bit; so aligned forms do.
-- Assumes nothing.
use Rattle.std.proofs.Common.{◌≡◌, ℕ, ◌+◌, ◌*◌, ◌/◌, ◌%◌, ◌^◌, ◌<◌, ◌≤◌, sym, ap, ◌∙◌, subst, ap₂, mul_comm, arith, pow_pos}
use native.Mathlib.Nat.{mul-mod_left}
use native.Mathlib.Decide.{ℕ_discrete}
use lib.Bits.{bit_and, and_zero_l, and_self, and_shr, and_mod, and_block, and_le_r}
use lib.Pow.{split, shl-shr}
use Rattle.rounding.specs.Dropped.{sticky, with_sticky}
use Rattle.rounding.proofs.Sticky.{sticky_zero, sticky_one, sticky_lt}

-- each bit of x is one of y
abbrev pub Part : ℕ → ℕ → Type 0
Part x y = bit_and x y ≡ x

pub part_le : (x y : ℕ) → Part x y → x ≤ y
part_le x y h = subst (λ (n : ℕ). n ≤ y) h (and_le_r x y)

module _ (k x y : ℕ) where
  pub part_shr : Part x y → Part (x / 2 ^ k) (y / 2 ^ k)
  part_shr h = sym (and_shr x y k) ∙ ap (λ (n : ℕ). n / 2 ^ k) h

  pub part_mod : Part x y → Part (x % 2 ^ k) (y % 2 ^ k)
  part_mod h = sym (and_mod x y k) ∙ ap (λ (n : ℕ). n % 2 ^ k) h

-- k low bits, and others above them
pub part_block : (k a b r s : ℕ) → r < 2 ^ k → s < 2 ^ k → Part a b → Part r s → Part (a * 2 ^ k + r) (b * 2 ^ k + s)
part_block k a b r s hr hs high low = and_block k a b r s hr hs ∙ ap₂ (λ (h l : ℕ). h * 2 ^ k + l) high low

-- k zeros below both
pub part_scale : (k x y : ℕ) → Part x y → Part (2 ^ k * x) (2 ^ k * y)
part_scale k x y h = ap₂ bit_and (up x) (up y) ∙ part_block k x y 0 0 (pow_pos k) (pow_pos k) h (and_self 0) ∙ sym (up x)
  where
    up : (n : ℕ) → 2 ^ k * n ≡ n * 2 ^ k + 0
    up n = omega arith

-- a number between two multiples of 2^k is one
pub part_unscale : (k l g x : ℕ) → Part (2 ^ k * l) x → Part x (2 ^ k * g) → (r : ℕ) × Part l r × Part r g × (2 ^ k * r ≡ x)
part_unscale k l g x above under =
    let none = part_le (x % 2 ^ k) (2 ^ k * g % 2 ^ k) (part_mod k x (2 ^ k * g) under) in
    let zero = ap (λ (n : ℕ). n % 2 ^ k) (mul_comm (2 ^ k) g) ∙ mul-mod_left g (2 ^ k) in (
      x / 2 ^ k,
      subst (λ (n : ℕ). Part n (x / 2 ^ k)) (down l) (part_shr k (2 ^ k * l) x above),
      subst (λ (n : ℕ). Part (x / 2 ^ k) n) (down g) (part_shr k x (2 ^ k * g) under),
      omega (arith, split x k),
    )
  where
    down : (n : ℕ) → 2 ^ k * n / 2 ^ k ≡ n
    down n = ap (λ (m : ℕ). m / 2 ^ k) (mul_comm (2 ^ k) n) ∙ shl-shr n k

pub part_sticky : (x y : ℕ) → Part x y → Part (sticky x) (sticky y)
part_sticky x y h = go (ℕ_discrete x 0)
  where
    go : Dec (x ≡ 0) → Part (sticky x) (sticky y)
    go (yes e) = rw (sticky_zero e) (and_zero_l (sticky y))
    go (no e) = rw (sticky_one {s = x} (omega arith), sticky_one {s = y} (omega (arith, part_le x y h))) (and_self 1)

pub part_with_sticky : (x y d : ℕ) → Part x y → Part (with_sticky x d) (with_sticky y d)
unfolding with_sticky
part_with_sticky x y d h =
    part_block 1 (x / 2 ^ d) (y / 2 ^ d) (sticky (x % 2 ^ d)) (sticky (y % 2 ^ d)) (sticky_lt (x % 2 ^ d)) (sticky_lt (y % 2 ^ d))
    (part_shr d x y h) (part_sticky (x % 2 ^ d) (y % 2 ^ d) (part_mod d x y h))
