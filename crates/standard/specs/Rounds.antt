-- What IEEE 754 asks of a rounded number ("Rounding-direction attributes"): of the numbers of a set S the one closest to the exact x, or
-- closest to it on one side. One definition serves magnitudes and signed numbers. Assumes nothing.
use Rattle.std.specs.Prelude.{ℕ, ◌+◌, ◌-◌, ◌≤◌}

-- of the numbers of S that are not above x, the greatest
pub record GreatestNotAbove {A : Type 0} (at_most : A → A → Type 0) (S : A → Type 0) (x r : A) : Type 0 where
  pub member : S r
  pub not_above : at_most r x
  pub greatest : (n : A) → S n → at_most n x → at_most n r

-- of the numbers of S that are not below x, the least
pub record LeastNotBelow {A : Type 0} (at_most : A → A → Type 0) (S : A → Type 0) (x r : A) : Type 0 where
  pub member : S r
  pub not_below : at_most x r
  pub least : (n : A) → S n → at_most x n → at_most r n

-- no number of S is nearer to x
pub record Closest {A : Type 0} (apart : A → A → ℕ) (S : A → Type 0) (x r : A) : Type 0 where
  pub member : S r
  pub closest : (n : A) → S n → apart r x ≤ apart n x

-- how far two magnitudes are apart
abbrev pub distance : ℕ → ℕ → ℕ
distance m n = (m - n) + (n - m)
