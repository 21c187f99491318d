-- Masks (document 01, "Masks and choice"): well formed, refused where they are not (W-203), met by a word, with one more bit fixed, and the
-- parts of a mask.
-- Each test comes twice: as a statement with a capital, which laws read, and as a Bool, which a check computes and its contract cites.
-- Assumes nothing.
use Rattle.std.specs.Prelude.{◌≡◌, Bool, true, false, ◌&&◌, ℕ, ◌*◌, ◌/◌, ◌%◌, ◌^◌, ◌<◌, eqb, ltb}
use Rattle.std.specs.Int.Bits.{bit_and, bit_or}
use Rattle.bits.specs.Bit.{bit}
use Rattle.format.specs.declared.cause.Cause.TheVariants as cause
use Rattle.format.specs.declared.cause.Cause.{Cause}
use Rattle.format.specs.Cause.{Check, unless, first}
use Rattle.mask.specs.declared.Mask.{Mask}

-- "A value bit outside care must be 0"
abbrev pub Inside : Mask → Type 0
Inside m = bit_and m.value m.care ≡ m.value

abbrev pub inside : Mask → Bool
inside m = eqb (bit_and m.value m.care) m.value

-- "well formed when that holds and no bit of it stands above its width": with the value inside care, that is care's to say
pub record WellFormed (width : ℕ) (m : Mask) : Type 0 where
  pub below : m.care < 2 ^ width
  pub inside : Inside m

abbrev pub well_formed : ℕ → Mask → Bool
well_formed width m = ltb m.care (2 ^ width) && inside m

-- "mask bit above its width, or value outside care": the cause that such a mask is given
unfoldable pub mask_cause : Cause → ℕ → Mask → Check
mask_cause cause width m = unless (well_formed width m) cause

-- W-203: 5 for a's mask, 14 for b's, 15 for c's, 16 for that of the carries, which have a width of their own, "tested in that order"; in whole
-- numbers x, y and z stand for a, b and c
unfoldable pub masks_cause : ℕ → ℕ → Mask → Mask → Mask → Mask → Check
masks_cause width positions a b c carries =
    first (mask_cause cause.Mask width a)
    (first (mask_cause cause.SecondMask width b)
    (first (mask_cause cause.ThirdMask width c) (mask_cause cause.CarryMask positions carries)))

-- a word agrees with every fixed bit
abbrev pub Meets : ℕ → Mask → Type 0
Meets x m = bit_and x m.care ≡ m.value

abbrev pub meets : ℕ → Mask → Bool
meets x m = eqb (bit_and x m.care) m.value

-- no bit is fixed
abbrev pub free_mask : Mask
free_mask = record { care = 0; value = 0 }

-- bit i is free: "care (1 = bit fixed)"
abbrev pub free : Mask → ℕ → Bool
free m i = eqb (bit m.care i) 0

-- the mask with bit i also fixed to v
abbrev pub fixed : Mask → ℕ → ℕ → Mask
fixed m i v = record { care = bit_or m.care (2 ^ i); value = bit_or m.value (v * 2 ^ i) }

abbrev pub pick_mask : Bool → Mask → Mask → Mask
pick_mask true m n = m
pick_mask false m n = n

-- bit i also fixed to v where a 64-bit word has bit i, v is a bit and bit i is free; else the mask as it is
unfoldable pub fix : Mask → ℕ → ℕ → Mask
fix m i v = pick_mask (ltb i 64 && (ltb v 2 && free m i)) (fixed m i v) m

-- the mask on the low k bits, and that on the bits above them
abbrev pub low : ℕ → Mask → Mask
low k m = record { care = m.care % 2 ^ k; value = m.value % 2 ^ k }

abbrev pub high : ℕ → Mask → Mask
high k m = record { care = m.care / 2 ^ k; value = m.value / 2 ^ k }

-- the mask moved up by d places
abbrev pub raised : ℕ → Mask → Mask
raised d m = record { care = m.care * 2 ^ d; value = m.value * 2 ^ d }
