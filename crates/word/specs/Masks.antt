-- The masks on the fields of a word (document 01, "Numbers of a format" and "Masks and choice"). Assumes nothing.
use Rattle.std.specs.Prelude.{◌+◌}
use Rattle.format.specs.declared.Format.{Format}
use Rattle.mask.specs.declared.Mask.{Mask}
use Rattle.mask.specs.Mask.{low, high}

-- the sign bit's
abbrev pub sign_mask : Format → Mask → Mask
sign_mask F m = low 1 (high (F.w + F.f) m)

-- the exponent field's
abbrev pub exponent_mask : Format → Mask → Mask
exponent_mask F m = low F.w (high F.f m)

-- the fraction's
abbrev pub fraction_mask : Format → Mask → Mask
fraction_mask F m = low F.f m
