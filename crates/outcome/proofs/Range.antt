-- How many digits a number that two aligned significands make can have: no more than the columns, and where the larger one has its top bit,
-- at least as many as they if the smaller one is added, or one fewer if that has its two top bits 0. Assumes nothing.
use mathlib.Core.Path.{◌≡◌, sym, ap, ◌∙◌, subst}
use mathlib.Core.Bool.{Bool, true, false, true≢false}
use Prim.Native.Nat.{ℕ, zero, suc, ◌+◌, ◌-◌, ◌*◌, ◌/◌, ◌^◌, ◌≤◌, ◌<◌}
use native.Mathlib.Nat.{div-eq_of_lt, div-lt_iff_lt-mul}
use native.Mathlib.Decide.{dec_lt}
use native.Mathlib.Omega.{arith}
use lib.Ieee.{size}
use lib.Ieee.Digits.{size-le}
use lib.Pow.{pow_pos, pow-add, shr_lt}
use Rattle.mask.specs.declared.Mask.{Mask}
use Rattle.mask.specs.Mask.{Meets, meets, high}
use Rattle.mask.proofs.ByParts.{meets_parts}
use Rattle.mask.proofs.Checks.{meets_true}
use Rattle.rounding.specs.Width.{aligned_bits, sum_bits}
use Rattle.rounding.proofs.Size.{size_least}
use Rattle.making.specs.declared.Aligned as pair
use Rattle.making.specs.Making.{Made, columns_of}
use Rattle.making.proofs.Made.{most_digits_bounds, made_sum, made_difference, made_lt}

-- a test of the high part
pub high_tested : (v k : ℕ) (m h : Mask) (r b : Bool) → h ≡ high k m → r ≡ meets v h → r ≡ b → meets v (high k m) ≡ b
high_tested v k m h r b eh er e = sym (ap (meets v) eh) ∙ sym er ∙ e

-- a number that meets a mask has no quotient by 2^k that the mask's high part refuses
module _ (k n : ℕ) (m : Mask) (met : Meets n m) where
  refused : (v : ℕ) → meets v (high k m) ≡ false → n / 2 ^ k ≡ v → ⊥
  refused v never e = true≢false (sym ((meets_true v (high k m)).1 (subst (λ (w : ℕ). Meets w (high k m)) e ((meets_parts k n m).0 met).1)) ∙ never)

  pub refused_none : meets 0 (high k m) ≡ false → 2 ^ k ≤ n
  refused_none never = go (dec_lt n (2 ^ k))
    where
      go : Dec (n < 2 ^ k) → 2 ^ k ≤ n
      go (yes h) = absurd (refused 0 never (div-eq_of_lt h))
      go (no h) = omega arith

  pub refused_some : meets 1 (high k m) ≡ false → meets 2 (high k m) ≡ false → meets 3 (high k m) ≡ false → n < 2 ^ (2 + k) → n < 2 ^ k
  refused_some one two three below = go (n / 2 ^ k) (λ i. n / 2 ^ k) (shr_lt 2 k below)
    where
      go : (v : ℕ) → n / 2 ^ k ≡ v → v < 4 → n < 2 ^ k
      go zero e l = let h = (div-lt_iff_lt-mul {k = 2 ^ k} {x = n} {y = 1} (pow_pos k)).0 (omega arith) in omega arith
      go (suc zero) e l = absurd (refused 1 one e)
      go (suc (suc zero)) e l = absurd (refused 2 two e)
      go (suc (suc (suc zero))) e l = absurd (refused 3 three e)
      go (suc (suc (suc (suc v)))) e l = absurd (omega arith)

module _ (f : ℕ) (A : pair.Aligned) (x : ℕ) (made : Made f A x) where
  pub made_digits : size x ≤ columns_of f A
  made_digits = size-le x (columns_of f A) (made_lt f A x made)

  pub made_most : size x ≤ sum_bits A.below f
  made_most = omega (arith, made_digits, (most_digits_bounds A.below f A.like).1)

  pub made_like : A.like ≡ true → 2 ^ (f + A.below) ≤ made.H → aligned_bits A.below f ≤ size x
  made_like e h = let s = size_least x (f + A.below) (omega (arith, made_sum f A x made e)) in omega arith

  pub made_unlike : 0 < A.below → A.like ≡ false → 2 ^ (f + A.below) ≤ made.H → made.T < 2 ^ (f + A.below - 1) → f + A.below ≤ size x
  made_unlike some e h t =
      let p : 2 ^ (f + A.below) ≡ 2 ^ (f + A.below - 1) * 2 = ap (λ (k : ℕ). 2 ^ k) (omega arith) ∙ pow-add 2 (f + A.below - 1) 1 in
      let s = size_least x (f + A.below - 1) (omega (arith, made_difference f A x made e)) in
      omega arith
