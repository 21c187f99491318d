-- The complement of a number of k bits, bit by bit. Assumes nothing.
use Rattle.std.proofs.Common.{◌≡◌, ℕ, suc, ◌+◌, ◌-◌, ◌*◌, ◌/◌, ◌%◌, ◌^◌, ◌<◌, ap, ◌∙◌, subst, mul-le-mul_right, mod-lt, pow-suc, arith, pow_pos, pow-add, shr_lt}
use lib.Arith.{digits_div, mul_pred}
use lib.Pow.{split}
use Rattle.bits.specs.Bit.{bit}
use Rattle.significand.specs.Tail.{complement}
use Rattle.bits.proofs.Division.{mul_sub_right}

pub complement_lt : (k x : ℕ) → complement k x < 2 ^ k
complement_lt k x = omega (arith, pow_pos k)

-- without the low i bits it is the complement of what x has above them
complement_shr : (j i x : ℕ) → x < 2 ^ (j + i) → complement (j + i) x / 2 ^ i ≡ complement j (x / 2 ^ i)
complement_shr j i x h =
    ap (λ (n : ℕ). n / 2 ^ i) whole ∙ digits_div (complement j (x / 2 ^ i)) (complement_lt i (x % 2 ^ i))
  where
    whole : complement (j + i) x ≡ complement j (x / 2 ^ i) * 2 ^ i + complement i (x % 2 ^ i)
    whole =
        let q = shr_lt j i h in
        let s = split x i in
        let r = mod-lt x (pow_pos i) in
        let p = pow-add 2 j i in
        let n = mul_pred (pow_pos j) (pow_pos i) in
        let m = mul_sub_right (2 ^ j - 1) (x / 2 ^ i) (2 ^ i) in
        let l = mul-le-mul_right {m = x / 2 ^ i} {n = 2 ^ j - 1} (2 ^ i) (omega arith) in
        omega arith

-- below k each bit is the other one
pub complement_bit : (k x i : ℕ) → x < 2 ^ k → i < k → bit (complement k x) i + bit x i ≡ 1
complement_bit k x i hx hi = subst (λ (n : ℕ). x < 2 ^ n → bit (complement n x) i + bit x i ≡ 1) width at hx
  where
    width : suc (k - suc i) + i ≡ k
    width = omega arith

    at : x < 2 ^ (suc (k - suc i) + i) → bit (complement (suc (k - suc i) + i) x) i + bit x i ≡ 1
    at h =
        let q = shr_lt (suc (k - suc i)) i h in
        let e = complement_shr (suc (k - suc i)) i x h in
        let p = pow-suc 2 (k - suc i) in
        ap (λ (n : ℕ). n % 2 + bit x i) e ∙ omega arith
