-- The serial adder: the bits of x + y + c0 and its carries, each from the bits of one column and the carry into it. A sum of three
-- numbers is a chain of two such adders. Assumes nothing.
use mathlib.Core.Path.{◌≡◌, sym, ap, ap₂, ◌∙◌}
use Prim.Native.Nat.{ℕ, zero, suc, ◌+◌, ◌*◌, ◌/◌, ◌%◌, ◌^◌, ◌≤◌, ◌<◌}
use native.Mathlib.Nat.{mod-one, div-one, div-eq_of_lt, mod-add-div, pow-suc, add-mul, mul-add-div_right, div-div-eq-div-mul}
use native.Mathlib.Omega.{arith}
use lib.Bits.{bit_xor, xor_lt, xor_add_and}
use lib.Pow.{pow_pos, pow_mono, split}
use Rattle.bits.specs.Bit.{bit}
use Rattle.bits.proofs.Laws.{bit_lt, low_suc}
use Rattle.bits.proofs.Logic.{bit_of_xor}
use Rattle.columns.specs.Carry.{carry}

regroup : (p q P u v c : ℕ) → (p * P + u) + (q * P + v) + c ≡ (p + q) * P + (u + v + c)
regroup p q P u v c = omega (arith, add-mul p q P)

module _ (x y c0 : ℕ) where
  pub carry_zero : carry x y c0 0 ≡ c0
  unfolding carry
  carry_zero = div-one (x % 1 + y % 1 + c0) ∙ omega (arith, mod-one x, mod-one y)

  -- the next carry, from the bits and the carry
  pub carry_suc : (i : ℕ) → carry x y c0 (suc i) ≡ (bit x i + bit y i + carry x y c0 i) / 2
  unfolding carry
  carry_suc i =
      ap₂ (λ (u v : ℕ). (u + v + c0) / 2 ^ suc i) (low_suc x i) (low_suc y i)
      ∙ ap₂ (λ (u v : ℕ). u / v) (regroup (bit x i) (bit y i) (2 ^ i) (x % 2 ^ i) (y % 2 ^ i) c0) (pow-suc 2 i)
      ∙ sym (div-div-eq-div-mul ((bit x i + bit y i) * 2 ^ i + (x % 2 ^ i + y % 2 ^ i + c0)) (2 ^ i) 2)
      ∙ ap (λ (u : ℕ). u / 2) (mul-add-div_right (pow_pos i) (bit x i + bit y i) (x % 2 ^ i + y % 2 ^ i + c0))

  pub carry_lt : c0 < 2 → (i : ℕ) → carry x y c0 i < 2
  carry_lt h zero = omega (arith, carry_zero)
  carry_lt h (suc i) = omega (arith, carry_suc i, carry_lt h i, bit_lt x i, bit_lt y i)

  -- what a sum has from position i on
  pub sum_high : (i : ℕ) → (x + y + c0) / 2 ^ i ≡ x / 2 ^ i + y / 2 ^ i + carry x y c0 i
  unfolding carry
  sum_high i =
      ap₂ (λ (u v : ℕ). (u + v + c0) / 2 ^ i) (sym (split x i)) (sym (split y i))
      ∙ ap (λ (u : ℕ). u / 2 ^ i) (regroup (x / 2 ^ i) (y / 2 ^ i) (2 ^ i) (x % 2 ^ i) (y % 2 ^ i) c0)
      ∙ mul-add-div_right (pow_pos i) (x / 2 ^ i + y / 2 ^ i) (x % 2 ^ i + y % 2 ^ i + c0)

  pub sum_bit : (i : ℕ) → bit (x + y + c0) i ≡ (bit x i + bit y i + carry x y c0 i) % 2
  sum_bit i = ap (λ (u : ℕ). u % 2) (sum_high i) ∙ omega arith

  -- the carry out of the top of numbers of i bits
  pub sum_total : (i : ℕ) → x < 2 ^ i → y < 2 ^ i → x + y + c0 ≡ (x + y + c0) % 2 ^ i + 2 ^ i * carry x y c0 i
  sum_total i hx hy =
      sym (mod-add-div (x + y + c0) (2 ^ i))
      ∙ ap (λ (q : ℕ). (x + y + c0) % 2 ^ i + 2 ^ i * q) (sum_high i ∙ omega (arith, div-eq_of_lt hx, div-eq_of_lt hy))

-- ---- all carries as one word

pub xor_bits : (a b : ℕ) → a < 2 → b < 2 → bit_xor a b ≡ (a + b) % 2
xor_bits a b ha hb = omega (arith, xor_add_and a b, xor_lt 1 a b ha hb)

-- the exclusive-or of the addends and the sum has the carries as its bits
module _ (x y c0 : ℕ) (h : c0 < 2) where
  pub carries_bit : (i : ℕ) → bit (bit_xor (bit_xor x y) (x + y + c0)) i ≡ carry x y c0 i
  carries_bit i =
      let p = bit x i in
      let q = bit y i in
      let s = (p + q + carry x y c0 i) % 2 in
      let inner : bit_xor p q ≡ (p + q) % 2 = xor_bits p q (bit_lt x i) (bit_lt y i) in
      bit_of_xor (bit_xor x y) (x + y + c0) i
      ∙ ap₂ (λ (u v : ℕ). bit_xor u v) (bit_of_xor x y i ∙ inner) (sum_bit x y c0 i)
      ∙ xor_bits ((p + q) % 2) s (omega arith) (omega arith)
      ∙ omega (arith, carry_lt x y c0 h i)

  pub carries_lt : (n : ℕ) → x < 2 ^ n → y < 2 ^ n → bit_xor (bit_xor x y) (x + y + c0) < 2 ^ suc n
  carries_lt n hx hy =
      let up : 2 ^ n ≤ 2 ^ suc n = pow_mono {i = n} {j = suc n} (omega arith) in
      let twice : 2 ^ suc n ≡ 2 ^ n * 2 = pow-suc 2 n in
      xor_lt (suc n) (bit_xor x y) (x + y + c0) (omega (arith, xor_lt n x y hx hy)) (omega arith)

-- ---- two adders in a chain: the second adds k and c1 to a number X of known bits, whichever adder X comes from
module _ (X k c1 i b : ℕ) (known : bit X i ≡ b) where
  pub chain_bit : bit (X + k + c1) i ≡ (b + bit k i + carry X k c1 i) % 2
  chain_bit = sum_bit X k c1 i ∙ ap (λ (u : ℕ). (u + bit k i + carry X k c1 i) % 2) known

  pub chain_suc : carry X k c1 (suc i) ≡ (b + bit k i + carry X k c1 i) / 2
  chain_suc = carry_suc X k c1 i ∙ ap (λ (u : ℕ). (u + bit k i + carry X k c1 i) / 2) known
