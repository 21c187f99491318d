-- `outcome::masks::topped` meets its contract: no shift and no sum reaches 2^64. Assumes nothing.
use mathlib.Core.Path.{◌≡◌, ap, ap₂, ◌∙◌, subst}
use Prim.Native.Nat.{ℕ, ◌+◌, ◌-◌, ◌*◌, ◌%◌, ◌^◌, ◌≤◌, ◌<◌}
use native.Mathlib.Nat.{lt_of_lt_of_le}
use native.Mathlib.Omega.{arith}
use lib.Arith.{digits_lt}
use lib.Pow.{pow_pos, pow-add, pow_mono, ones_lt, shl_exact}
use Rattle.bits.proofs.Laws.{one_shl}
use Rattle.outcome.proofs.masks.topped.Goals as goal

-- the parts, with no bit lost
module _ (r k : ℕ) (short : r + k < 64) where
  ones : ((1 * 2 ^ r) % 2 ^ 64 - 1) * 2 ^ k % 2 ^ 64 ≡ (2 ^ r - 1) * 2 ^ k
  ones = ap (λ (n : ℕ). (n - 1) * 2 ^ k % 2 ^ 64) (one_shl r (omega arith)) ∙ shl_exact r k 64 (ones_lt r) (omega arith)

  number : (h : ℕ) → h < 2 ^ r → h * 2 ^ k % 2 ^ 64 ≡ h * 2 ^ k
  number h l = shl_exact r k 64 l (omega arith)

  fits : (q n : ℕ) → q < 2 ^ r → n < 2 ^ k → q * 2 ^ k + n < 2 ^ 64
  fits q n hq hn =
      lt_of_lt_of_le (digits_lt {q = q} {m = 2 ^ r} {r = n} {c = 2 ^ k} hq hn)
      (subst (λ (m : ℕ). m ≤ 2 ^ 64) (pow-add 2 r k) (pow_mono {i = r + k} {j = 64} (omega arith)))

pub overflow_sub-result : goal.overflow_sub-result
overflow_sub-result c = rw (one_shl c.args.r (omega arith)) (pow_pos c.args.r)

pub overflow_add-result : goal.overflow_add-result
overflow_add-result c =
    let a = c.args in
    record { fits = rw (ones a.r a.k (omega arith)) (fits a.r a.k (omega arith) (2 ^ a.r - 1) a.m.care (ones_lt a.r) c.requires.2) }

pub overflow_add-result-2 : goal.overflow_add-result-2
overflow_add-result-2 c =
    let a = c.args in
    record { fits = rw (number a.r a.k (omega arith) a.h c.requires.1) (fits a.r a.k (omega arith) a.h a.m.value c.requires.1 c.requires.3) }

pub returns : goal.returns
returns c =
    let a = c.args in
    ap₂ (λ (s t : ℕ). record { care = s + a.m.care; value = t + a.m.value }) (ones a.r a.k (omega arith)) (number a.r a.k (omega arith) a.h c.requires.1)
