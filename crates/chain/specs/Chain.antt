-- Two adders in a chain with a mask on every wire (document 01, "Masks and choice": each wire agrees with every fixed bit; "The carry
-- row" speaks of the first adder's carries, counted one position higher). The first adder gives x = l + t or x = l - t, the second
-- z = x + constant + carry. `Solved` states that l and t answer such a question, over whole numbers and with no search.
-- Assumes nothing.
use Rattle.std.specs.Prelude.{◌≡◌, true, ℕ, ◌+◌, ◌^◌, ◌≤◌, ◌<◌}
use Rattle.columns.specs.Carry.{combined, carry_of}
use Rattle.columns.specs.Column.{allows}
use Rattle.mask.specs.Mask.{Meets}
use Rattle.chain.specs.declared.Wires.{Wires}

-- l and t put a number of n bits that meets its mask on each wire, no difference is below 0, and each carry up to position n agrees with
-- the mask of the carries
pub record Solved (wires : Wires) (n l t : ℕ) : Type 0 where
  pub l_lt : l < 2 ^ n
  pub t_lt : t < 2 ^ n
  pub ordered : wires.subtract ≡ true → t ≤ l
  pub x_lt : combined wires.subtract l t < 2 ^ n
  pub z_lt : combined wires.subtract l t + wires.constant + wires.carry < 2 ^ n
  pub l_meets : Meets l wires.l
  pub t_meets : Meets t wires.t
  pub x_meets : Meets (combined wires.subtract l t) wires.x
  pub z_meets : Meets (combined wires.subtract l t + wires.constant + wires.carry) wires.z
  pub carries_allow : (i : ℕ) → i ≤ n → allows wires.carries.care wires.carries.value i (carry_of wires.subtract l t i) ≡ true

-- some l and t answer the question; the carry is a bit, and the columns fit a word of 64 bits
pub record Answered (wires : Wires) (n : ℕ) : Type 0 where
  pub columns_lt : n < 64
  pub carry_lt : wires.carry < 2
  pub l : ℕ
  pub t : ℕ
  pub solved : Solved wires n l t
