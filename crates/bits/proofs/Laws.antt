-- Laws of single bits: a number is its low part and one more bit on top of it, and numbers with the same bits are equal.
-- Assumes nothing.
use mathlib.Core.Path.{◌≡◌, sym, ap, ap₂, ◌∙◌, subst}
use Prim.Native.Nat.{ℕ, zero, suc, ◌+◌, ◌-◌, ◌*◌, ◌/◌, ◌%◌, ◌^◌, ◌≤◌, ◌<◌}
use native.Mathlib.Nat.{mod-lt, mod-eq_of_lt, mod-one, div-eq_of_lt, div_self, pow-suc, mul_comm, mul-mod_left, le_refl, le_trans, le-suc, lt_of_lt_of_le, one-mul}
use native.Mathlib.Decide.{dec_lt}
use native.Mathlib.Omega.{arith}
use lib.Arith.{digits_lt}
use lib.Dec.{lit<}
use lib.Pow.{pow_pos, pow-lt, pow_mono, pow-add, shl_exact, high, low, field, mod-mod-pow, mod-pow-add, shl-shr, shr-shr}
use Rattle.bits.specs.Bit.{bit}

-- a word of 64 bits has nothing from position 64 on
pub word_lt : {x k : ℕ} → x < 2 ^ 64 → 64 ≤ k → x < 2 ^ k
word_lt hx hk = lt_of_lt_of_le hx (pow_mono hk)

-- a power that a word holds, as a shift of 1 and as a remainder
pub one_shl : (k : ℕ) → k < 64 → (1 * 2 ^ k) % 2 ^ 64 ≡ 2 ^ k
one_shl k h = shl_exact 1 k 64 (lit< tt) (omega arith) ∙ one-mul (2 ^ k)

pub power_exact : (k : ℕ) → k < 64 → 2 ^ k % 2 ^ 64 ≡ 2 ^ k
power_exact k h = mod-eq_of_lt (pow-lt h)

pub bit_lt : (x i : ℕ) → bit x i < 2
bit_lt x i = mod-lt (x / 2 ^ i) (omega arith)

-- above its size a number has no bit
pub bit_above : {x : ℕ} (i : ℕ) → x < 2 ^ i → bit x i ≡ 0
bit_above i h = ap (λ (u : ℕ). u % 2) (div-eq_of_lt h)

-- a low bit is that of the low part
pub bit_mod : (x j i : ℕ) → j < i → bit (x % 2 ^ i) j ≡ bit x j
bit_mod x j i h =
    let e : i ≡ (i - suc j + 1) + j = omega arith in
    ap (λ (k : ℕ). x % 2 ^ k / 2 ^ j % 2) e ∙ ap (λ (k : ℕ). k % 2) (field x (i - suc j + 1) j) ∙ mod-mod-pow (x / 2 ^ j) (i - suc j) 1

-- bit i of a quotient by 2^k is bit i + k
pub bit_shr : (x k i : ℕ) → bit (x / 2 ^ k) i ≡ bit x (k + i)
bit_shr x k i = ap (λ (u : ℕ). u % 2) (shr-shr x k i)

-- the low i + 1 bits are bit i on top of the low i
pub low_suc : (x i : ℕ) → x % 2 ^ suc i ≡ bit x i * 2 ^ i + x % 2 ^ i
low_suc x i = ap (λ (k : ℕ). x % 2 ^ k) (sym (omega arith)) ∙ mod-pow-add x 1 i

-- one more bit on top of a number of i bits
module _ (b L i : ℕ) (hb : b < 2) (hL : L < 2 ^ i) where
  pub top_bit_lem : bit (b * 2 ^ i + L) i ≡ b
  top_bit_lem = ap (λ (u : ℕ). u % 2) (high b i hL) ∙ mod-eq_of_lt hb

  pub low_bit : (j : ℕ) → j < i → bit (b * 2 ^ i + L) j ≡ bit L j
  low_bit j h = sym (bit_mod (b * 2 ^ i + L) j i h) ∙ ap (λ (u : ℕ). bit u j) (low b i hL)

  pub more_lt : b * 2 ^ i + L < 2 ^ suc i
  more_lt = subst (λ (u : ℕ). b * 2 ^ i + L < u) (mul_comm 2 (2 ^ i) ∙ sym (pow-suc 2 i)) (digits_lt hb hL)

-- equal low bits, equal low parts
pub mod_by_bits : (x y i : ℕ) → ((j : ℕ) → j < i → bit x j ≡ bit y j) → x % 2 ^ i ≡ y % 2 ^ i
mod_by_bits x y zero same = mod-one x ∙ sym (mod-one y)
mod_by_bits x y (suc i) same =
    low_suc x i
    ∙ ap₂ (λ (b l : ℕ). b * 2 ^ i + l) (same i (le_refl (suc i))) (mod_by_bits x y i (λ j h. same j (le_trans h (le-suc i))))
    ∙ sym (low_suc y i)

-- two numbers of i bits with the same bits are equal
pub by_bits : (i : ℕ) {x y : ℕ} → x < 2 ^ i → y < 2 ^ i → ((j : ℕ) → j < i → bit x j ≡ bit y j) → x ≡ y
by_bits i {x} {y} hx hy same = sym (mod-eq_of_lt hx) ∙ mod_by_bits x y i same ∙ mod-eq_of_lt hy

-- the bits of a power of two
pub bit_pow_same : (i : ℕ) → bit (2 ^ i) i ≡ 1
bit_pow_same i = ap (λ (u : ℕ). u % 2) (div_self (pow_pos i))

bit_pow_below : (i j : ℕ) → j < i → bit (2 ^ i) j ≡ 0
bit_pow_below i j h =
    let e : i ≡ suc (i - suc j) + j = omega arith in
    ap (λ (k : ℕ). 2 ^ k / 2 ^ j % 2) e
    ∙ ap (λ (u : ℕ). u / 2 ^ j % 2) (pow-add 2 (suc (i - suc j)) j)
    ∙ ap (λ (u : ℕ). u % 2) (shl-shr (2 ^ suc (i - suc j)) j ∙ pow-suc 2 (i - suc j))
    ∙ mul-mod_left (2 ^ (i - suc j)) 2

pub bit_pow_other : (i j : ℕ) → (i ≡ j → ⊥) → bit (2 ^ i) j ≡ 0
bit_pow_other i j ne = go (dec_lt i j)
  where
    go : Dec (i < j) → bit (2 ^ i) j ≡ 0
    go (yes h) = bit_above j (pow-lt h)
    go (no h) = bit_pow_below i j (omega arith)
