-- Versions of the job files (document 01, "Job files"; document 02, W-202, W-206, W-207): what a reader has to know beside the layout. A later
-- version knows the fields of an earlier one, so reading is one definition over the version, and "old job files that were accepted read as
-- before" is a law about two of them. Assumes nothing.
use Rattle.std.specs.Prelude.{ℕ, ◌≤◌, ◌≡◌}
use Rattle.format.specs.declared.Format.{Format}
use Rattle.format.specs.Limits.{most_exponent_bits, most_fraction_bits}
use Rattle.layout.specs.Fields.{word_bytes, map_width}

-- how many map bits have a meaning, how many bytes a word has in a format, and the greatest widths that are taken
pub record Version : Type 0 where
  pub bits : ℕ
  pub word : Format → ℕ
  pub most : Format

-- a format that the version takes
pub record Takes (v : Version) (F : Format) : Type 0 where
  pub w_most : F.w ≤ v.most.w
  pub f_most : F.f ≤ v.most.f

-- this one
abbrev pub current : Version
current = record { bits = map_width; word = word_bytes; most = record { w = most_exponent_bits; f = most_fraction_bits } }

-- document 01's: six fields, words of "4 bytes each", w up to 8 and f up to 23. What its reader accepted is read so, in a format that it takes:
-- beside these numbers only the limit of the modes has moved since, upward
abbrev pub base : Version
base = record { bits = 6; word = λ F. 4; most = record { w = 8; f = 23 } }

-- the files before W-206: no field for the dropped bits
abbrev pub before_dropped : Version
before_dropped = record { bits = 6; word = word_bytes; most = current.most }

-- the files before W-207: no second map
abbrev pub before_bounds : Version
before_bounds = record { bits = 7; word = word_bytes; most = current.most }

-- the later version knows what the earlier one knows: no fewer map bits, no smaller widths, and words as long in the formats that that one takes
pub record Extends (earlier later : Version) : Type 0 where
  pub bits : earlier.bits ≤ later.bits
  pub widths : Takes later earlier.most
  pub words : (F : Format) → Takes earlier F → earlier.word F ≡ later.word F
