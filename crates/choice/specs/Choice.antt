-- The choice among numbers, and among pairs of numbers, by random words (document 01, "Masks and choice": the chosen case has the smallest
-- a exclusive-or the first word, read as a whole number without sign, and then the smallest b exclusive-or the second).
-- Assumes nothing.
use Rattle.std.specs.Prelude.{◌≡◌, ◌⊎◌, ℕ, ◌/◌, ◌^◌, ◌<◌}
use Rattle.std.specs.Int.Bits.{bit_xor}

-- x is in P, and every other member of P has a larger exclusive-or with r
pub record Closest (P : ℕ → Type 0) (r x : ℕ) : Type 0 where
  pub member : P x
  pub least : (y : ℕ) → P y → (y ≡ x) ⊎ (bit_xor x r < bit_xor y r)

-- b is farther from r than a is, or it is a and the rest decides
abbrev pub Farther : ℕ → ℕ → ℕ → Type 0 → Type 0
Farther r a b rest = (bit_xor a r < bit_xor b r) ⊎ ((b ≡ a) × rest)

-- (x, y) is in P, and every other member has a larger exclusive-or of its first number with r, or the same first number and a larger
-- exclusive-or of its second with s
pub record ClosestPair (P : ℕ → ℕ → Type 0) (r s x y : ℕ) : Type 0 where
  pub member : P x y
  pub least : (x' y' : ℕ) → P x' y' → Farther r x x' ((y' ≡ y) ⊎ (bit_xor y s < bit_xor y' s))

-- members of P agree from bit k up
abbrev pub AgreeFrom : (ℕ → Type 0) → ℕ → Type 0
AgreeFrom P k = (x y : ℕ) → P x → P y → x / 2 ^ k ≡ y / 2 ^ k
