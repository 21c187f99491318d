-- One column of a masked number (document 01, "Masks and choice": agree with every fixed bit). Assumes nothing.
use Rattle.std.specs.Prelude.{Bool, ℕ, eqb}
use Rattle.std.specs.Int.Bits.{bit_and}
use Rattle.bits.specs.Bit.{bit}

-- the mask (care, value) does not fix bit i, or fixes it to b
abbrev pub allows : ℕ → ℕ → ℕ → ℕ → Bool
allows care value i b = eqb (bit_and b (bit care i)) (bit value i)
