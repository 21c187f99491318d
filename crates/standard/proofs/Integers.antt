-- Signs and magnitudes as integers: their sums, how far they are apart, and their order. Assumes nothing.
use mathlib.Core.Path.{◌≡◌, refl, sym, ap, ◌∙◌}
use mathlib.Core.Logic.{◌↔◌}
use Prim.Native.Nat.{ℕ, zero, suc, ◌+◌, ◌-◌, ◌≤◌, ◌<◌}
use native.Mathlib.Decide.{dec_lt}
use native.Mathlib.Omega.{arith}
use borrow.Author.Tests.{lt-ltb, le-ltb}
use lib.Dec.{leb→le, le→leb}
use lib.IntN.{ℤ, pos, negsuc, neg_ℤ, nat_abs, ◌+ℤ◌, ◌-ℤ◌, neg_ℤ-+ℤ, neg_ℤ-neg_ℤ}
use lib.Signed.{◌≤ℤ◌, le_z_yes}
use Rattle.standard.specs.Rounds.{distance}
use Rattle.standard.specs.Number.{signed_number, apart}

-- the difference of two magnitudes
pub minus_below : (a b : ℕ) → a < b → pos a -ℤ pos b ≡ neg_ℤ (pos (b - a))
minus_below a zero h = absurd (omega arith)
minus_below a (suc b) h =
    let e : suc b - a ≡ suc (b - a) = omega arith in
    let d : suc b - suc a ≡ b - a = omega arith in
    rw (lt-ltb a (suc b) h, e, d)

pub minus_above : (a b : ℕ) → b ≤ a → pos a -ℤ pos b ≡ pos (a - b)
minus_above a zero h = ap pos (omega arith)
minus_above a (suc b) h = rw (le-ltb a (suc b) h)

nat_abs_neg : (k : ℤ) → nat_abs (neg_ℤ k) ≡ nat_abs k
nat_abs_neg (pos zero) = refl
nat_abs_neg (pos (suc n)) = refl
nat_abs_neg (negsuc n) = refl

-- the magnitude is the signed number without its sign
pub signed_magnitude : (s a : ℕ) → nat_abs (signed_number s a) ≡ a
signed_magnitude zero a = refl
signed_magnitude (suc s) a = nat_abs_neg (pos a)

minus_apart : (a b : ℕ) → nat_abs (pos a -ℤ pos b) ≡ distance a b
minus_apart a b = go (dec_lt a b)
  where
    go : Dec (a < b) → nat_abs (pos a -ℤ pos b) ≡ distance a b
    go (yes h) = ap nat_abs (minus_below a b h) ∙ nat_abs_neg (pos (b - a)) ∙ omega arith
    go (no h) = ap nat_abs (minus_above a b (omega arith)) ∙ omega arith

pub like_apart : (s a b : ℕ) → apart (signed_number s a) (signed_number s b) ≡ distance a b
like_apart zero a b = minus_apart a b
like_apart (suc s) a b = ap nat_abs (sym (neg_ℤ-+ℤ (pos a) (neg_ℤ (pos b)))) ∙ nat_abs_neg (pos a -ℤ pos b) ∙ minus_apart a b

-- the other sign
abbrev pub other : ℕ → ℕ
other zero = 1
other (suc s) = 0

pub unlike_apart : (s a b : ℕ) → apart (signed_number (other s) a) (signed_number s b) ≡ a + b
unlike_apart zero a b = ap nat_abs (sym (neg_ℤ-+ℤ (pos a) (pos b))) ∙ nat_abs_neg (pos (a + b))
unlike_apart (suc s) a b = ap (λ (k : ℤ). nat_abs (pos a +ℤ k)) (neg_ℤ-neg_ℤ (pos b))

-- what holds of every number of sign s, and of those of the other sign but 0, holds of every number
pub by_sign : (s : ℕ) (P : ℤ → Type 0) → ((m : ℕ) → P (signed_number s m)) → ((m : ℕ) → P (signed_number (other s) (suc m))) → (n : ℤ) → P n
by_sign zero P like unlike (pos m) = like m
by_sign zero P like unlike (negsuc m) = unlike m
by_sign (suc s) P like unlike (pos zero) = like 0
by_sign (suc s) P like unlike (pos (suc m)) = unlike m
by_sign (suc s) P like unlike (negsuc m) = like (suc m)

-- the order that rises with the magnitudes of sign s
abbrev pub outward : ℕ → ℤ → ℤ → Type 0
outward zero m n = m ≤ℤ n
outward (suc s) m n = n ≤ℤ m

down_order : (a b : ℕ) → (neg_ℤ (pos b) ≤ℤ neg_ℤ (pos a)) ↔ (a ≤ b)
down_order zero zero = (λ h. omega arith, λ h. le_z_yes tt)
down_order zero (suc b) = (λ h. omega arith, λ h. le_z_yes tt)
down_order (suc a) zero = (λ h. absurd h.le, λ h. absurd (omega arith))
down_order (suc a) (suc b) = (λ h. let l = leb→le a b h.le in omega arith, λ h. le_z_yes (le→leb a b (omega arith)))

pub like_order : (s a b : ℕ) → outward s (signed_number s a) (signed_number s b) ↔ (a ≤ b)
like_order zero a b = (λ h. leb→le a b h.le, λ h. le_z_yes (le→leb a b h))
like_order (suc s) a b = down_order a b

-- the other sign's numbers lie below in that order
pub unlike_below : (s a b : ℕ) → outward s (signed_number (other s) (suc a)) (signed_number s b)
unlike_below zero a b = le_z_yes tt
unlike_below (suc s) a zero = le_z_yes (le→leb 0 (suc a) (omega arith))
unlike_below (suc s) a (suc b) = le_z_yes tt

pub unlike_not_above : (s a b : ℕ) → outward s (signed_number s b) (signed_number (other s) (suc a)) → ⊥
unlike_not_above zero a b h = h.le
unlike_not_above (suc s) a zero h = let l = leb→le (suc a) 0 h.le in omega arith
unlike_not_above (suc s) a (suc b) h = h.le

-- numbers of sign s are equal where their magnitudes are
pub signed_same : (s a b : ℕ) → signed_number s a ≡ signed_number s b → a ≡ b
signed_same s a b e = sym (signed_magnitude s a) ∙ ap nat_abs e ∙ signed_magnitude s b
