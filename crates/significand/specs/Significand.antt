-- The mask on a significand (document 01, "Numbers of a format"): that on the fraction, and above it the bit that the exponent field
-- decides. Assumes nothing.
use Rattle.std.specs.Prelude.{ℕ, zero, suc}
use Rattle.mask.specs.declared.Mask.{Mask}
use Rattle.mask.specs.Mask.{fix}
use Rattle.word.specs.declared.Biased.{Biased}

-- the bit above the fraction: "t where e = 0, and (2^f + t)" where it is not
abbrev pub top_bit : ℕ → ℕ
top_bit zero = 0
top_bit (suc e) = 1

-- the fraction's mask with that bit also fixed; as it is where f is 64 or more or bit f is fixed already
unfoldable pub significand_mask : ℕ → Mask → Biased → Mask
significand_mask f m e = fix m f (top_bit e.0)
