-- A format, its widths, and the checks of plain numbers against it (document 01, "Numbers of a format", "Causes and replies").
-- Assumes nothing.
use Rattle.std.specs.Prelude.{ℕ, ◌+◌, ◌^◌, ◌≤◌, leb, ltb}
use Rattle.format.specs.declared.Format.{Format}
use Rattle.format.specs.declared.cause.Cause.TheVariants as cause
use Rattle.format.specs.Cause.{Check, unless, first}
use Rattle.format.specs.Limits.{least_exponent_bits, most_exponent_bits, least_fraction_bits, most_fraction_bits, most_operation, most_mode, within}

-- a word has one sign bit, w exponent bits and f fraction bits
abbrev pub word_bits : Format → ℕ
word_bits F = F.w + F.f + 1

-- precision p
abbrev pub precision : Format → ℕ
precision F = F.f + 1

-- a format that is not refused
pub record Supported (F : Format) : Type 0 where
  pub w_least : least_exponent_bits ≤ F.w
  pub w_most : F.w ≤ most_exponent_bits
  pub f_least : least_fraction_bits ≤ F.f
  pub f_most : F.f ≤ most_fraction_bits

-- w below 2 or above 11; f below 2 or above 52
unfoldable pub format_cause : Format → Check
format_cause F =
    first
    (unless (within least_exponent_bits most_exponent_bits F.w) cause.ExponentBits)
    (unless (within least_fraction_bits most_fraction_bits F.f) cause.FractionBits)

-- operation above 1
unfoldable pub operation_cause : ℕ → Check
operation_cause op = unless (leb op most_operation) cause.Operation

-- mode above 4
unfoldable pub mode_cause : ℕ → Check
mode_cause m = unless (leb m most_mode) cause.Mode

-- a word above `width` bits
unfoldable pub word_cause : ℕ → ℕ → Check
word_cause width x = unless (ltb x (2 ^ width)) cause.Word
