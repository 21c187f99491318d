-- When a case of whole numbers fits (document 01, "Masks and choice", whole numbers). It is told by sums; no search stands in it.
-- Assumes nothing.
use Rattle.std.specs.Prelude.{◌≡◌, ℕ, ◌+◌, ◌*◌, ◌^◌, ◌≤◌, ◌<◌}
use Rattle.bits.specs.Bit.{bit}
use Rattle.mask.specs.Mask.{Meets}
use Rattle.columns.specs.Carry.{carry}
use Rattle.whole.specs.declared.Masks.{Masks}
use Rattle.whole.specs.declared.Case.{Case}

-- x + y with a carry in: "Bit i of the carries goes into position i, bit N out of the top",
-- "x + y + (carry in) = z + 2^N × (carry out)"
pub record Adds (n : ℕ) (c : Case) : Type 0 where
  pub x_lt : c.x < 2 ^ n
  pub y_lt : c.y < 2 ^ n
  pub z_lt : c.z < 2 ^ n
  pub carries_lt : c.carries < 2 ^ (n + 1)
  pub row : (i : ℕ) → i ≤ n → bit c.carries i ≡ carry c.x c.y (bit c.carries 0) i
  pub total : c.x + c.y + bit c.carries 0 ≡ c.z + 2 ^ n * bit c.carries n

-- and its words agree with every fixed bit
pub record Fits (n : ℕ) (s : Masks) (c : Case) : Type 0 where
  pub adds : Adds n c
  pub x_meets : Meets c.x s.x
  pub y_meets : Meets c.y s.y
  pub z_meets : Meets c.z s.z
  pub carries_meets : Meets c.carries s.carries

-- some case fits
pub record Left (n : ℕ) (s : Masks) : Type 0 where
  pub case : Case
  pub fits : Fits n s case
