-- Bits of any number: a bit is 0 or 1, numbers with the same bits are equal, and what a 0 or a 1 does to another bit.
-- No width is needed, since every number is below 2 to itself. Assumes nothing.
use mathlib.Core.Path.{◌≡◌, ◌∙◌}
use Prim.Native.Nat.{ℕ, zero, suc, ◌+◌, ◌^◌, ◌<◌}
use native.Mathlib.Nat.{lt_of_lt_of_le, le-add_right, le-add_left, two-pow-succ, mod-eq_of_lt}
use native.Mathlib.Omega.{arith}
use lib.Bits.{bit_and, and_mask}
use lib.Pow.{pow_pos, pow_mono}
use Rattle.bits.specs.Bit.{bit}
use Rattle.bits.proofs.Laws.{bit_lt, by_bits}

-- a bit is 0 or 1
pub of_bit {ℓ} : (P : ℕ → Type ℓ) → P 0 → P 1 → (b : ℕ) → b < 2 → P b
of_bit P p q zero h = p
of_bit P p q (suc zero) h = q
of_bit P p q (suc (suc b)) h = absurd (omega arith)

pub bit_case {ℓ} : {A : Type ℓ} (x i : ℕ) → (bit x i ≡ 0 → A) → (bit x i ≡ 1 → A) → A
bit_case {A = A} x i none one = of_bit (λ (b : ℕ). bit x i ≡ b → A) none one (bit x i) (bit_lt x i) (λ k. bit x i)

pub lt_pow : (n : ℕ) → n < 2 ^ n
lt_pow zero = pow_pos 0
lt_pow (suc n) = omega (arith, lt_pow n, two-pow-succ n)

-- numbers with the same bits are equal
pub all_bits : (x y : ℕ) → ((i : ℕ) → bit x i ≡ bit y i) → x ≡ y
all_bits x y same =
    by_bits (x + y) (lt_of_lt_of_le (lt_pow x) (pow_mono (le-add_right x y)))
    (lt_of_lt_of_le (lt_pow y) (pow_mono (le-add_left y x))) (λ i h. same i)

pub and_one : (x i : ℕ) → bit_and (bit x i) 1 ≡ bit x i
and_one x i = and_mask (bit x i) 1 ∙ mod-eq_of_lt (bit_lt x i)
