-- The interchange formats of the toolchain's own account of IEEE 754 (`lib.Ieee`) as formats here, and the sum and difference of two words by
-- that account: values read from words, added or subtracted with rounding to nearest, ties to even, and written as a word. Assumes nothing.
use Rattle.std.specs.Prelude.{◌≡◌, ℕ, ◌-◌, ◌^◌}
use Rattle.std.specs.Float.Ieee as ieee
use Rattle.std.specs.Float.Ieee.{prec, emax, of_bits, to_bits, add, sub}
use Rattle.format.specs.declared.Format.{Format}
use Rattle.format.specs.Format.{Supported, precision}

-- F is supported and has the parameters of the interchange format B: as many significant bits, and the largest exponent 2^(w-1) - 1
pub record Interchange (F : Format) (B : ieee.Format) : Type 0 where
  pub supported : Supported F
  pub precision_is : prec B ≡ precision F
  pub emax_is : emax B ≡ 2 ^ (F.w - 1) - 1

-- single precision, binary32
abbrev pub single : Format
single = record { w = 8; f = 23 }

-- double precision, binary64
abbrev pub double : Format
double = record { w = 11; f = 52 }

-- the word of a + b
abbrev pub ieee_add : ieee.Format → ℕ → ℕ → ℕ
ieee_add B a b = to_bits B (add B (of_bits B a) (of_bits B b))

-- the word of a - b
abbrev pub ieee_sub : ieee.Format → ℕ → ℕ → ℕ
ieee_sub B a b = to_bits B (sub B (of_bits B a) (of_bits B b))
