-- The widths of aligned significands, by the number f of fraction bits and the number q of bits that stand below a significand's last one,
-- the lowest of them sticky. No definition of the promise cites this file. Assumes nothing.
use Rattle.std.specs.Prelude.{ℕ, ◌+◌, ◌-◌, ◌≤◌, ◌<◌, ◌^◌}

-- those that a sum is rounded with: guard, round and sticky bit. With three a difference that loses its top bit still has a round bit and
-- the sticky bit below its last one.
abbrev pub guard_bits : ℕ
guard_bits = 3

-- a significand with these bits
abbrev pub aligned_bits : ℕ → ℕ → ℕ
aligned_bits q f = f + (1 + q)

-- what two of them make
abbrev pub sum_bits : ℕ → ℕ → ℕ
sum_bits q f = f + (2 + q)

-- the most bits that are rounded off: one more after a carry
abbrev pub most_rounded : ℕ → ℕ
most_rounded q = 1 + q

-- more than so many bits, and G bits below the last kept one are told apart besides the sticky bit
abbrev pub long_bits : ℕ → ℕ → ℕ
long_bits G f = f + (1 + G)

-- a mask on aligned significands is one on so many bits, all of a word but the top one
abbrev pub mask_bits : ℕ
mask_bits = 63

-- a number of so many bits has room for q more below it within them
abbrev pub short_bits : ℕ → ℕ
short_bits q = mask_bits - q

-- m has room for q bits below it
pub record Short (q m : ℕ) : Type 0 where
  pub some : 1 ≤ q
  pub few : q < mask_bits
  pub short : m < 2 ^ short_bits q
