-- With k bits of X dropped and q kept, q units of 2^k and q + 1 units are neighbours: no representable number lies between them.
-- Assumes nothing.
use mathlib.Core.Path.{◌≡◌, sym, ap, ◌∙◌, subst}
use mathlib.Core.Logic.{◌⊎◌, inl, inr}
use Prim.Native.Nat.{ℕ, ◌+◌, ◌-◌, ◌*◌, ◌/◌, ◌^◌, ◌≤◌, ◌<◌}
use native.Mathlib.Nat.{mul_assoc, mul-le-mul_right, le-div_iff_mul-le, div-lt_iff_lt-mul, suc-mul}
use native.Mathlib.Decide.{dec_lt}
use native.Mathlib.Omega.{arith}
use lib.Ieee.Digits.{size_reaches}
use lib.Pow.{pow_pos, pow_mono, pow-add, shl_lt}
use Rattle.format.specs.declared.Format.{Format}
use Rattle.format.specs.Format.{precision}
use Rattle.rounding.specs.Rounding.{dropped}
use Rattle.standard.specs.Representable.{Representable}

module _ (F : Format) (X n : ℕ) (r : Representable F n) where
  -- a representable number is a multiple of the unit, or below all that X could keep
  spaced : ((c : ℕ) × (n ≡ c * 2 ^ dropped F X)) ⊎ ((n < 2 ^ F.f * 2 ^ dropped F X) × (2 ^ F.f * 2 ^ dropped F X ≤ X))
  spaced = go (dec_lt r.exponent (dropped F X))
    where
      k : ℕ
      k = dropped F X

      i : ℕ
      i = r.exponent

      P : 2 ^ (F.f + k) ≡ 2 ^ F.f * 2 ^ k
      P = pow-add 2 F.f k

      go : Dec (i < k) → ((c : ℕ) × (n ≡ c * 2 ^ k)) ⊎ ((n < 2 ^ F.f * 2 ^ k) × (2 ^ F.f * 2 ^ k ≤ X))
      go (no h) =
          let e : i ≡ i - k + k = omega arith in
          inl (
            r.digits * 2 ^ (i - k),
            r.is ∙ ap (λ (m : ℕ). r.digits * 2 ^ m) e ∙ ap (λ (m : ℕ). r.digits * m) (pow-add 2 (i - k) k) ∙ sym (mul_assoc r.digits (2 ^ (i - k)) (2 ^ k)),
          )
      go (yes h) =
          let l : n < 2 ^ (precision F + i) = subst (λ (m : ℕ). m < 2 ^ (precision F + i)) (sym r.is) (shl_lt (precision F) i r.digits_lt) in
          let m = pow_mono {i = precision F + i} {j = F.f + k} (omega arith) in
          let x = size_reaches X (F.f + k) (omega arith) in
          inr (omega (arith, P), omega (arith, P))

  pub neighbour_below : n ≤ X → n ≤ X / 2 ^ dropped F X * 2 ^ dropped F X
  neighbour_below h = go spaced
    where
      k : ℕ
      k = dropped F X

      go : ((c : ℕ) × (n ≡ c * 2 ^ k)) ⊎ ((n < 2 ^ F.f * 2 ^ k) × (2 ^ F.f * 2 ^ k ≤ X)) → n ≤ X / 2 ^ k * 2 ^ k
      go (inl m) =
          let c : m.0 * 2 ^ k ≤ X = omega (arith, m.1) in
          let d = mul-le-mul_right (2 ^ k) ((le-div_iff_mul-le {k = 2 ^ k} {x = m.0} {y = X} (pow_pos k)).1 c) in
          omega (arith, m.1)
      go (inr m) =
          let d = mul-le-mul_right (2 ^ k) ((le-div_iff_mul-le {k = 2 ^ k} {x = 2 ^ F.f} {y = X} (pow_pos k)).1 m.1) in
          omega (arith, m.0)

  pub neighbour_above : X < n → X / 2 ^ dropped F X * 2 ^ dropped F X + 2 ^ dropped F X ≤ n
  neighbour_above h = go spaced
    where
      k : ℕ
      k = dropped F X

      go : ((c : ℕ) × (n ≡ c * 2 ^ k)) ⊎ ((n < 2 ^ F.f * 2 ^ k) × (2 ^ F.f * 2 ^ k ≤ X)) → X / 2 ^ k * 2 ^ k + 2 ^ k ≤ n
      go (inl m) =
          let c : X < m.0 * 2 ^ k = omega (arith, m.1) in
          let d = mul-le-mul_right (2 ^ k) ((div-lt_iff_lt-mul {k = 2 ^ k} {x = X} {y = m.0} (pow_pos k)).1 c) in
          omega (arith, m.1, suc-mul (X / 2 ^ k) (2 ^ k))
      go (inr m) = absurd (omega (arith, m.0, m.1))
