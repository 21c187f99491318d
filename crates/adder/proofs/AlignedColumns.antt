-- With q bits below L's last one, for any q, the row's bit i is the carry into column i + 1 + q of H + T, or the borrow at that column of
-- H - T: H is L with these bits, T the aligned significand. Assumes nothing.
use mathlib.Core.Path.{◌≡◌, sym, ap, ap₂, ◌∙◌}
use mathlib.Core.Bool.{Bool, true, false, not, cond}
use Prim.Native.Nat.{ℕ, suc, ◌+◌, ◌*◌, ◌/◌, ◌%◌, ◌^◌, ◌<◌}
use native.Mathlib.Nat.{mod-lt, mul_comm, add_comm, add-zero, div-eq_of_lt, div-eq_of_lt-le, one-mul}
use native.Mathlib.Decide.{dec_lt}
use native.Mathlib.Omega.{arith}
use borrow.Author.Tests.{le-leb, lt-leb}
use lib.Arith.{digits_div}
use lib.Dec.{leb, ltb}
use lib.Pow.{pow_pos, mod-pow-add, shr-shr}
use Rattle.columns.specs.Carry.{carry, borrow as borrowAt, carry_of}
use Rattle.rounding.specs.Dropped.{sticky}
use Rattle.rounding.specs.Sticky.{head_at}
use Rattle.adder.specs.Row.{carry_in}
use Rattle.bits.proofs.Division.{mod_scale}
use Rattle.rounding.proofs.Sticky.{sticky_lt, above_sticky, halved}

-- 1 where a test holds, else 0
abbrev pub flag : Bool → ℕ
flag t = cond t 1 0

-- the carry out of a sum below twice N
carried : (m N : ℕ) → 0 < N → m < N * 2 → m / N ≡ flag (leb N m)
carried m N pos h = go (dec_lt m N)
  where
    go : Dec (m < N) → m / N ≡ flag (leb N m)
    go (yes l) = div-eq_of_lt l ∙ ap flag (sym (lt-leb N m l))
    go (no l) = div-eq_of_lt-le N {m = m} (omega (arith, one-mul N)) (omega arith) ∙ ap flag (sym (le-leb N m (omega arith)))

module _ (q L T i : ℕ) where
  up : i + suc q ≡ suc i + q
  up = omega arith

  head_part : head_at q L % 2 ^ (i + suc q) ≡ L % 2 ^ suc i * 2 ^ q
  head_part = ap₂ (λ (m n : ℕ). m % 2 ^ n) (mul_comm (2 ^ q) L) up ∙ mod_scale L (suc i) q

  tail_part : T % 2 ^ (i + suc q) ≡ T / 2 ^ q % 2 ^ suc i * 2 ^ q + T % 2 ^ q
  tail_part = ap (λ (n : ℕ). T % 2 ^ n) up ∙ mod-pow-add T (suc i) q

  carry_part : carry (head_at q L) T 0 (i + suc q) ≡ flag (leb (2 ^ suc i) (L % 2 ^ suc i + T / 2 ^ q % 2 ^ suc i))
  unfolding carry
  carry_part =
      ap₂ (λ (m n : ℕ). m / 2 ^ n) (ap (λ (n : ℕ). n + 0) (ap₂ ◌+◌ head_part tail_part) ∙ together) (up ∙ add_comm (suc i) q)
      ∙ sym (shr-shr ((L % 2 ^ suc i + T / 2 ^ q % 2 ^ suc i) * 2 ^ q + T % 2 ^ q) q (suc i))
      ∙ ap (λ (n : ℕ). n / 2 ^ suc i) (digits_div (L % 2 ^ suc i + T / 2 ^ q % 2 ^ suc i) (mod-lt T (pow_pos q)))
      ∙ carried (L % 2 ^ suc i + T / 2 ^ q % 2 ^ suc i) (2 ^ suc i) (pow_pos (suc i))
      (let a = mod-lt L (pow_pos (suc i)) in let b = mod-lt (T / 2 ^ q) (pow_pos (suc i)) in omega arith)
    where
      together : L % 2 ^ suc i * 2 ^ q + (T / 2 ^ q % 2 ^ suc i * 2 ^ q + T % 2 ^ q) + 0 ≡ (L % 2 ^ suc i + T / 2 ^ q % 2 ^ suc i) * 2 ^ q + T % 2 ^ q
      together = omega arith

  borrow_part : borrowAt (head_at q L) T 0 (i + suc q) ≡ flag (ltb (L % 2 ^ suc i) (T / 2 ^ q % 2 ^ suc i + sticky (T % 2 ^ q)))
  unfolding borrowAt
  borrow_part =
      ap flag
      (ap₂ ltb head_part (add-zero (T % 2 ^ (i + suc q)) ∙ tail_part)
      ∙ above_sticky (L % 2 ^ suc i) (T / 2 ^ q % 2 ^ suc i) (T % 2 ^ q) (2 ^ q) (mod-lt T (pow_pos q))
      ∙ halved (L % 2 ^ suc i) (T / 2 ^ q % 2 ^ suc i) (sticky (T % 2 ^ q)) (sticky_lt (T % 2 ^ q)))

  -- both at once
  pub column_carry : (like : Bool) → carry_of (not like) (head_at q L) T (i + suc q) ≡ flag (carry_in like L (T / 2 ^ q) (sticky (T % 2 ^ q)) i)
  column_carry true = carry_part
  column_carry false = borrow_part
