-- A mask that fixes the bits from k up as a number and leaves the low k bits to another mask: it is met exactly when the quotient is
-- that number and the remainder meets the other mask. With the quotient 1 it fixes how many digits a number has, with
-- the quotient 0 how many at most. Assumes nothing.
use mathlib.Core.Logic.{◌↔◌}
use mathlib.Core.Path.{◌≡◌, sym, ap, ◌∙◌, subst}
use Prim.Native.Nat.{ℕ, suc, ◌+◌, ◌-◌, ◌/◌, ◌%◌, ◌^◌, ◌<◌}
use native.Mathlib.Nat.{div-eq_of_lt, div-lt_iff_lt-mul, le-div_iff_mul-le, pow-suc}
use native.Mathlib.Omega.{arith}
use lib.Bits.{bit_and, and_zero_r}
use lib.Ieee.{size}
use lib.Ieee.Digits.{size-lt, size_reaches}
use lib.Pow.{pow_pos, high, low, shr_lt}
use Rattle.mask.specs.declared.Mask.{Mask}
use Rattle.mask.specs.Mask.{Meets, free_mask}
use Rattle.mask.proofs.ByParts.{meets_parts}
use Rattle.rounding.proofs.Size.{size_zero, size_between}
use Rattle.making.proofs.Zeros.{and_ones}
use Rattle.outcome.specs.Question.{topped, OfDigits, UnderPower}

module _ (r k h x : ℕ) (m : Mask) (hc : m.care < 2 ^ k) (hv : m.value < 2 ^ k) (below : x < 2 ^ (r + k)) where
  pub topped_meets : Meets x (topped r k h m) ↔ ((x / 2 ^ k ≡ h) × Meets (x % 2 ^ k) m)
  topped_meets = (
    (λ met. let p = (meets_parts k x (topped r k h m)).0 met in (
      sym (and_ones r (x / 2 ^ k) (shr_lt r k below)) ∙ sym (ap (bit_and (x / 2 ^ k)) (high (2 ^ r - 1) k hc)) ∙ p.1 ∙ high h k hv,
      sym (ap (bit_and (x % 2 ^ k)) (low (2 ^ r - 1) k hc)) ∙ p.0 ∙ low h k hv,
    )),
    λ p. (meets_parts k x (topped r k h m)).1 (
      ap (bit_and (x % 2 ^ k)) (low (2 ^ r - 1) k hc) ∙ p.1 ∙ sym (low h k hv),
      ap (bit_and (x / 2 ^ k)) (high (2 ^ r - 1) k hc) ∙ and_ones r (x / 2 ^ k) (shr_lt r k below) ∙ p.0 ∙ sym (high h k hv),
    ),
  )

-- n + 1 digits, by the quotient
pub size_quotient : (x n : ℕ) → (size x ≡ suc n) ↔ (x / 2 ^ n ≡ 1)
size_quotient x n = (there, back)
  where
    there : size x ≡ suc n → x / 2 ^ n ≡ 1
    there e =
        let l = size_reaches x n (omega arith) in
        let g : x < 2 ^ suc n = subst (λ (s : ℕ). x < 2 ^ s) e (size-lt x) in
        let p = pow-suc 2 n in
        let a = (le-div_iff_mul-le {k = 2 ^ n} {x = 1} {y = x} (pow_pos n)).1 (omega arith) in
        let b = (div-lt_iff_lt-mul {k = 2 ^ n} {x = x} {y = 2} (pow_pos n)).1 (omega arith) in
        omega arith

    back : x / 2 ^ n ≡ 1 → size x ≡ suc n
    back e =
        let a = (le-div_iff_mul-le {k = 2 ^ n} {x = 1} {y = x} (pow_pos n)).0 (omega arith) in
        let b = (div-lt_iff_lt-mul {k = 2 ^ n} {x = x} {y = 2} (pow_pos n)).0 (omega arith) in
        let p = pow-suc 2 n in
        size_between x n (omega arith) (omega arith)

pub size_none : (x : ℕ) → (size x ≡ 0) ↔ (x ≡ 0)
size_none x = (
  (λ e. let g : x < 2 ^ 0 = subst (λ (s : ℕ). x < 2 ^ s) e (size-lt x) in omega arith),
  λ e. ap size e ∙ size_zero,
)

-- the masks of no digit, and of k + 1 digits
pub digits_none : (n : ℕ) → OfDigits n 0 (record { care = 2 ^ n - 1; value = 0 })
digits_none n x h = ((λ met. (size_none x).1 (sym (and_ones n x h) ∙ met)), λ e. and_ones n x h ∙ (size_none x).0 e)

pub digits_some : (r k : ℕ) → OfDigits (suc r + k) (suc k) (topped (suc r) k 1 free_mask)
digits_some r k x h =
    let top = topped_meets (suc r) k 1 x free_mask (pow_pos k) (pow_pos k) h in (
      (λ met. (size_quotient x k).1 (top.0 met).0),
      λ e. top.1 ((size_quotient x k).0 e, and_zero_r (x % 2 ^ k)),
    )

-- the same for numbers that the code forms
pub digits_of : (n count r k : ℕ) → n ≡ suc r + k → count ≡ suc k → (a b : ℕ) → a ≡ suc r → b ≡ k → OfDigits n count (topped a b 1 free_mask)
digits_of n count r k en ec a b ea eb = rw (en, ec, ea, eb) (digits_some r k)

-- the mask of the numbers below 2^k
pub below_power : (n r k : ℕ) → n ≡ r + k → UnderPower n k (topped r k 0 free_mask)
below_power n r k e = rw e meets
  where
    meets : (x : ℕ) → x < 2 ^ (r + k) → Meets x (topped r k 0 free_mask) ↔ (x < 2 ^ k)
    meets x h =
        let top = topped_meets r k 0 x free_mask (pow_pos k) (pow_pos k) h in (
          (λ met. let q = (div-lt_iff_lt-mul {k = 2 ^ k} {x = x} {y = 1} (pow_pos k)).0 (omega (arith, (top.0 met).0)) in omega arith),
          λ l. top.1 (div-eq_of_lt l, and_zero_r (x % 2 ^ k)),
        )
