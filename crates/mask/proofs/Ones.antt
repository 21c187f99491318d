-- The ones at the end of a number, below its lowest 0: one more than the number has as many zeros there. Assumes nothing.
use mathlib.Core.Path.{◌≡◌, refl, sym, ap, ◌∙◌}
use Prim.Native.Nat.{ℕ, zero, suc, ◌+◌, ◌/◌, ◌%◌, ◌^◌, ◌≤◌, ◌<◌}
use native.Mathlib.Nat.{mod-lt, div-one, two-pow-succ}
use native.Mathlib.Decide.{dec_lt}
use native.Mathlib.Omega.{arith}
use lib.Count.{under, count_trailing_zeros}
use Rattle.bits.specs.Bit.{bit}
use Rattle.bits.proofs.Laws.{bit_above, bit_shr}
use Rattle.mask.proofs.Bitwise.{of_bit}

-- from the lowest bit of z on, t ones and then a 0
pub record Ones (z t : ℕ) : Type 0 where
  pub zero : bit z t ≡ 0
  pub one : (j : ℕ) → j < t → bit z j ≡ 1

bit_suc : (z j : ℕ) → bit z (suc j) ≡ bit (z / 2) j
bit_suc z j = let e : suc j ≡ 1 + j = omega arith in ap (bit z) e ∙ sym (bit_shr z 1 j)

ones_even : (z : ℕ) → z % 2 ≡ 0 → Ones z 0
ones_even z e = record { zero = ap (λ (u : ℕ). u % 2) (div-one z) ∙ e; one = λ j l. omega arith }

ones_odd : (z t : ℕ) → z % 2 ≡ 1 → Ones (z / 2) t → Ones z (suc t)
ones_odd z t e rest = record { zero = bit_suc z t ∙ rest.zero; one = one }
  where
    one : (j : ℕ) → j < suc t → bit z j ≡ 1
    one zero l = ap (λ (u : ℕ). u % 2) (div-one z) ∙ e
    one (suc j) l = bit_suc z j ∙ rest.one j (omega arith)

-- z + 1 has as many zeros at its end as z has ones
pub trailing_ones : (k z : ℕ) → z < 2 ^ k → Ones z (count_trailing_zeros k (z + 1))
unfolding count_trailing_zeros
trailing_ones zero z h = record { zero = bit_above 0 h; one = λ j l. omega arith }
trailing_ones (suc k) z h =
    of_bit (λ (b : ℕ). z % 2 ≡ b → Ones z (under ((z + 1) % 2) (count_trailing_zeros k ((z + 1) / 2))))
    (λ e. let one : (z + 1) % 2 ≡ 1 = omega arith in rw one (ones_even z e))
    (λ e.
    let none : (z + 1) % 2 ≡ 0 = omega arith in
    let half : (z + 1) / 2 ≡ z / 2 + 1 = omega arith in
    rw (none, half) (ones_odd z (count_trailing_zeros k (z / 2 + 1)) e (trailing_ones k (z / 2) (omega (arith, two-pow-succ k)))))
    (z % 2) (mod-lt z (omega arith)) refl

-- a number of k bits has no more than k ones
pub ones_le : (k z t : ℕ) → z < 2 ^ k → Ones z t → t ≤ k
ones_le k z t h ones = go (dec_lt k t)
  where
    go : Dec (k < t) → t ≤ k
    go (yes l) = absurd (omega (arith, bit_above k h, ones.one k l))
    go (no l) = omega arith
