-- The masks that a question is made of, and what is asked of a number with a constant and a carry added. Assumes nothing.
-- Internal: no public contract cites this.
use Rattle.std.specs.Prelude.{ℕ, ◌+◌, ◌*◌, ◌^◌, ◌<◌}
use Rattle.std.specs.Int.Bits.{bit_xor}
use Rattle.mask.specs.declared.Mask.{Mask}
use Rattle.mask.specs.Mask.{Meets}
use Rattle.making.specs.declared.Aligned as pair
use Rattle.making.specs.Making.{columns_of}

-- bit j fixed to b, and no other
abbrev pub one_bit : ℕ → ℕ → Mask
one_bit j b = record { care = 2 ^ j; value = b * 2 ^ j }

-- the mask with each fixed bit turned over
abbrev pub opposite : Mask → Mask
opposite m = record { care = m.care; value = bit_xor m.care m.value }

-- the mask of the numbers one above those that meet m, where m fixes the lowest bit to 0
abbrev pub one_above : Mask → Mask
one_above m = record { care = m.care; value = m.value + 1 }

-- n meets x, and with a constant and a carry added it fits the columns and meets z
pub record Added (f : ℕ) (A : pair.Aligned) (x z : Mask) (constant carry n : ℕ) : Type 0 where
  pub number : Meets n x
  pub fits : n + constant + carry < 2 ^ columns_of f A
  pub sum : Meets (n + constant + carry) z
