-- The row's bit i is the carry out of, or the borrow at, position i of the aligned significands; and a row of n positions has n bits. Assumes nothing.
use mathlib.Core.Path.{◌≡◌, sym, ap, ap₂, ◌∙◌, subst}
use mathlib.Core.Bool.{Bool, true, false, cond}
use Prim.Native.Nat.{ℕ, zero, suc, ◌+◌, ◌*◌, ◌/◌, ◌%◌, ◌^◌, ◌<◌}
use native.Mathlib.Nat.{add_comm, add-mul, mod-lt, mul-lt-mul_of_pos_right, mul-le-mul_right, suc-mul, one-mul, zero-mul, pow-suc}
use native.Mathlib.Decide.{dec_lt}
use native.Mathlib.Numerals.{add-one}
use native.Mathlib.Omega.{arith}
use borrow.Author.Tests.{le-leb, lt-leb}
use lib.Dec.{ltb, leb}
use lib.Pow.{pow_pos, pow-add, mod-pow-add}
use Rattle.adder.specs.Row.{carry_at, gather, carry_in}
use Rattle.rounding.specs.Dropped.{sticky}
use Rattle.bits.proofs.Division.{div_scale, mod_scale}
use Rattle.rounding.proofs.Sticky.{sticky_scale, sticky_lt, above_sticky, halved}

-- a number of units reaches another exactly when its units do
reaches : (N q ρ P : ℕ) → ρ < P → leb (N * P) (q * P + ρ) ≡ leb N q
reaches N q ρ P below = go (dec_lt q N)
  where
    go : Dec (q < N) → leb (N * P) (q * P + ρ) ≡ leb N q
    go (yes h) =
        let m = mul-le-mul_right P h in
        let e = suc-mul q P in
        lt-leb (N * P) (q * P + ρ) (omega arith) ∙ sym (lt-leb N q h)
    go (no h) =
        let m = mul-le-mul_right {m = N} {n = q} P (omega arith) in
        le-leb (N * P) (q * P + ρ) (omega arith) ∙ sym (le-leb N q (omega arith))

-- L in units of 2^u steps, R in units of 2^v, u being d more than v
module _ (L R u v d i : ℕ) (units : d + v ≡ u) where
  l_part : L * 2 ^ u % 2 ^ (u + suc i) ≡ L % 2 ^ suc i * 2 ^ u
  l_part = ap (λ (n : ℕ). L * 2 ^ u % 2 ^ n) (add_comm u (suc i)) ∙ mod_scale L (suc i) u

  r_part : R * 2 ^ v % 2 ^ (u + suc i) ≡ R / 2 ^ d % 2 ^ suc i * 2 ^ u + R % 2 ^ d * 2 ^ v
  r_part =
      ap (λ (n : ℕ). R * 2 ^ v % 2 ^ n) (add_comm u (suc i)) ∙ mod-pow-add (R * 2 ^ v) (suc i) u
      ∙ ap₂ (λ (q ρ : ℕ). q % 2 ^ suc i * 2 ^ u + ρ) (ap (λ (n : ℕ). R * 2 ^ v / 2 ^ n) (sym units) ∙ div_scale R d v)
      (ap (λ (n : ℕ). R * 2 ^ v % 2 ^ n) (sym units) ∙ mod_scale R d v)

  rest_lt : R % 2 ^ d * 2 ^ v < 2 ^ u
  rest_lt =
      subst (λ (n : ℕ). R % 2 ^ d * 2 ^ v < n) (sym (pow-add 2 d v) ∙ ap (λ (n : ℕ). 2 ^ n) units)
      (mul-lt-mul_of_pos_right (mod-lt R (pow_pos d)) (pow_pos v))

  pub row_bit : (like : Bool) → carry_at like (L * 2 ^ u) (R * 2 ^ v) u i ≡ carry_in like L (R / 2 ^ d) (sticky (R % 2 ^ d)) i
  row_bit true =
      ap₂ leb (ap (λ (n : ℕ). 2 ^ n) (add_comm u (suc i)) ∙ pow-add 2 (suc i) u)
      (ap₂ ◌+◌ l_part r_part ∙ sym (native.Mathlib.Nat.add_assoc (L % 2 ^ suc i * 2 ^ u) (R / 2 ^ d % 2 ^ suc i * 2 ^ u) (R % 2 ^ d * 2 ^ v))
      ∙ ap (λ (n : ℕ). n + R % 2 ^ d * 2 ^ v) (sym (add-mul (L % 2 ^ suc i) (R / 2 ^ d % 2 ^ suc i) (2 ^ u))))
      ∙ reaches (2 ^ suc i) (L % 2 ^ suc i + R / 2 ^ d % 2 ^ suc i) (R % 2 ^ d * 2 ^ v) (2 ^ u) rest_lt
  row_bit false =
      ap₂ ltb l_part r_part
      ∙ above_sticky (L % 2 ^ suc i) (R / 2 ^ d % 2 ^ suc i) (R % 2 ^ d * 2 ^ v) (2 ^ u) rest_lt
      ∙ ap (λ (s : ℕ). ltb (2 * (L % 2 ^ suc i)) (2 * (R / 2 ^ d % 2 ^ suc i) + s)) (sticky_scale (R % 2 ^ d) (2 ^ v) (pow_pos v))
      ∙ halved (L % 2 ^ suc i) (R / 2 ^ d % 2 ^ suc i) (sticky (R % 2 ^ d)) (sticky_lt (R % 2 ^ d))

-- gathered bits make a number of as many bits
pub gather_lt : (n : ℕ) (at : ℕ → Bool) → gather n at < 2 ^ n
unfolding gather
gather_lt zero at = omega arith
gather_lt (suc n) at = go (at n) (gather_lt n at)
  where
    go : (t : Bool) → gather n at < 2 ^ n → gather n at + cond t 1 0 * 2 ^ n < 2 ^ suc n
    go true h = omega (arith, pow-suc 2 n, one-mul (2 ^ n))
    go false h = omega (arith, pow-suc 2 n, zero-mul (2 ^ n))

-- one position more
pub gather_more : (i : ℕ) (at : ℕ → Bool) (t : Bool) → t ≡ at i → gather (i + 1) at ≡ gather i at + cond t 1 0 * 2 ^ i
unfolding gather
gather_more i at t e = rw (add-one i, e)
