-- Quotients and remainders by powers of two, of scaled and shifted numbers. Assumes nothing.
use mathlib.Core.Path.{◌≡◌, sym, ap, ap₂, ◌∙◌}
use Prim.Native.Nat.{ℕ, ◌+◌, ◌-◌, ◌*◌, ◌/◌, ◌%◌, ◌^◌, ◌<◌}
use native.Mathlib.Nat.{mod-lt, mul_comm, mul_assoc, add-mul, div-add-mod', mul-div-mul_right, mul-lt-mul_of_pos_right, mul-le-mul_right, eq_of_mul-eq-mul_right, mul-sub}
use native.Mathlib.Decide.{dec_lt, ℕ_discrete}
use native.Mathlib.Omega.{arith}
use borrow.Author.Tests.{lt-ltb, le-ltb, eq-eqb, ne_eqb}
use lib.Arith.{digits_mod}
use lib.Dec.{ltb, eqb}
use lib.Pow.{pow_pos, pow-add}

-- scaling both by 2^i keeps the quotient and scales the remainder
pub div_scale : (X k i : ℕ) → X * 2 ^ i / 2 ^ (k + i) ≡ X / 2 ^ k
div_scale X k i = ap (λ (m : ℕ). X * 2 ^ i / m) (pow-add 2 k i) ∙ mul-div-mul_right {m = 2 ^ i} X (2 ^ k) (pow_pos i)

pub mod_scale : (X k i : ℕ) → X * 2 ^ i % 2 ^ (k + i) ≡ X % 2 ^ k * 2 ^ i
mod_scale X k i =
    ap (λ (m : ℕ). m % 2 ^ (k + i)) whole ∙ ap (λ (m : ℕ). (X / 2 ^ k * m + X % 2 ^ k * 2 ^ i) % m) (pow-add 2 k i)
    ∙ digits_mod (X / 2 ^ k) (mul-lt-mul_of_pos_right (mod-lt X (pow_pos k)) (pow_pos i))
  where
    whole : X * 2 ^ i ≡ X / 2 ^ k * 2 ^ (k + i) + X % 2 ^ k * 2 ^ i
    whole =
        ap (λ (m : ℕ). m * 2 ^ i) (sym (div-add-mod' X (2 ^ k)))
        ∙ add-mul (X / 2 ^ k * 2 ^ k) (X % 2 ^ k) (2 ^ i)
        ∙ ap (λ (m : ℕ). m + X % 2 ^ k * 2 ^ i) (mul_assoc (X / 2 ^ k) (2 ^ k) (2 ^ i) ∙ ap (λ (m : ℕ). X / 2 ^ k * m) (sym (pow-add 2 k i)))

-- comparisons keep their answer when both sides are scaled
module _ (c : ℕ) (pos : 0 < c) where
  pub ltb_scale : (a b : ℕ) → ltb (a * c) (b * c) ≡ ltb a b
  ltb_scale a b = go (dec_lt a b)
    where
      go : Dec (a < b) → ltb (a * c) (b * c) ≡ ltb a b
      go (yes h) = lt-ltb (a * c) (b * c) (mul-lt-mul_of_pos_right h pos) ∙ sym (lt-ltb a b h)
      go (no h) = le-ltb (a * c) (b * c) (mul-le-mul_right c (omega arith)) ∙ sym (le-ltb a b (omega arith))

  pub eqb_scale : (a b : ℕ) → eqb (a * c) (b * c) ≡ eqb a b
  eqb_scale a b = go (ℕ_discrete a b)
    where
      go : Dec (a ≡ b) → eqb (a * c) (b * c) ≡ eqb a b
      go (yes h) = eq-eqb (a * c) (b * c) (ap (λ (m : ℕ). m * c) h) ∙ sym (eq-eqb a b h)
      go (no h) = ne_eqb (a * c) (b * c) (λ e. h (eq_of_mul-eq-mul_right c pos a b e)) ∙ sym (ne_eqb a b h)

pub mul_sub_right : (a b c : ℕ) → (a - b) * c ≡ a * c - b * c
mul_sub_right a b c = mul_comm (a - b) c ∙ mul-sub c a b ∙ ap₂ ◌-◌ (mul_comm c a) (mul_comm c b)
