-- Single bits of a whole number. Position 0 is the lowest. Assumes nothing.
use Rattle.std.specs.Prelude.{ℕ, ◌/◌, ◌%◌, ◌^◌}

-- bit i of x: 0 or 1
abbrev pub bit : ℕ → ℕ → ℕ
bit x i = x / 2 ^ i % 2
