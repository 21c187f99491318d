-- The fields of a job record (document 01, "Job files"; document 02, W-202, W-206 and W-207): its layout, the numbers of an entry in that
-- layout and the entry of such numbers, with the map that goes with them. An entry is a job with its two random words. A record's map is one
-- number: its first map byte, and 256 times its second one where it has one. Assumes nothing.
use Rattle.std.specs.Prelude.{Bool, cond, ◌&&◌, ◌||◌, ℕ, ◌+◌, ◌*◌, ◌/◌, List, [], ◌∷◌, ◌++◌, get_or, eqb, leb, Option, Some, None}
use Rattle.bits.specs.Bit.{bit}
use Rattle.format.specs.declared.Format.{Format}
use Rattle.format.specs.Format.{word_bits}
use Rattle.mask.specs.declared.Mask.{Mask}
use Rattle.bounds.specs.declared.Ends.{Ends}
use Rattle.job.specs.declared.Job.{Job}
use Rattle.job.specs.Dropped.{normalised_job}
use Rattle.layout.specs.Layout.{sizes, map_of, says_default}
use Rattle.layout.specs.declared.Slot.{Slot}
use Rattle.layout.specs.declared.Entry.{Entry}

-- document 02, W-202: "whatever w and f, a word, for the carries too, has 4 bytes where w + f + 1 is at most 32, and 8 bytes above that"
unfoldable pub word_bytes : Format → ℕ
word_bytes F = cond (leb (word_bits F) 32) 4 8

-- bits 0 to 6 of the map stand for fields that have a default
abbrev pub default_fields : ℕ
default_fields = 7

-- W-207: "Map bit 7 now announces a second map byte"
abbrev pub announcing : ℕ
announcing = 7

-- the bits of both map bytes that have a meaning; bits 0 to 2 of the second are bits 8 to 10 of the map
abbrev pub map_width : ℕ
map_width = 11

-- the fields have so many numbers together, and those that have a default so many
abbrev pub number_count : ℕ
number_count = 20

abbrev pub default_numbers : ℕ
default_numbers = 14

-- field i of one number of k bytes, and of two
abbrev pub one : ℕ → ℕ → List Slot
one i k = record { bit = i; size = k } ∷ []

abbrev pub two : ℕ → ℕ → List Slot
two i k = one i k ++ one i k

-- "bits 0 to 3 the masks of a, b, c and carries, bit 4 the mode, bit 5 the random words"; a mask and the random words are two words each,
-- of `word` bytes, and "The mode is one byte". W-206: "map bit 6 .., after the random words: one byte g, then care and value of 2 bytes
-- each"
unfoldable pub with_default : ℕ → List Slot
with_default word = two 0 word ++ (two 1 word ++ (two 2 word ++ (two 3 word ++ (one 4 1 ++ (two 5 word ++ (one 6 1 ++ two 6 2))))))

-- W-207: the second map's "bits 0 to 2 stand for the bounds of a, b and c, two words each"
abbrev pub of_bounds : ℕ → List Slot
of_bounds word = two 8 word ++ (two 9 word ++ two 10 word)

-- these are "placed after all earlier fields"
unfoldable pub layout : ℕ → List Slot
layout word = with_default word ++ of_bounds word

-- "A mask is care, then value"
abbrev pub mask_numbers : Mask → List ℕ
mask_numbers m = m.care ∷ m.value ∷ []

-- the ends of bounds, 0 and 0 where none are stated
abbrev pub ends_of : Option Ends → Ends
ends_of None = record { low = 0; high = 0 }
ends_of (Some e) = e

-- W-207: "the low bound before the high"
abbrev pub ends_numbers : Ends → List ℕ
ends_numbers e = e.low ∷ e.high ∷ []

-- the numbers of an entry's fields, "in bit order": those that have a default, and all
abbrev pub earlier_numbers : Entry → List ℕ
earlier_numbers e =
    mask_numbers e.job.a.mask ++ (mask_numbers e.job.b.mask ++ (mask_numbers e.job.c.mask ++ (mask_numbers e.job.carries
    ++ (e.job.setting.mode ∷ e.r1 ∷ e.r2 ∷ e.job.dropped.g ∷ mask_numbers e.job.dropped.mask))))

abbrev pub field_numbers : Entry → List ℕ
field_numbers e =
    earlier_numbers e
    ++ (ends_numbers (ends_of e.job.a.bounds) ++ (ends_numbers (ends_of e.job.b.bounds) ++ ends_numbers (ends_of e.job.c.bounds)))

-- W-206: g is "taken as 0, in writing too" where none of the dropped bits is fixed
abbrev pub normalised_entry : Entry → Entry
normalised_entry e = record { job = normalised_job e.job; r1 = e.r1; r2 = e.r2 }

-- the numbers of an entry's record
unfoldable pub entry_numbers : Entry → List ℕ
entry_numbers e = field_numbers (normalised_entry e)

-- the mask whose care is number i
abbrev pub mask_at : List ℕ → ℕ → Mask
mask_at ns i = record { care = get_or ns i 0; value = get_or ns (i + 1) 0 }

-- the ends whose low one is number i
abbrev pub ends_at : List ℕ → ℕ → Ends
ends_at ns i = record { low = get_or ns i 0; high = get_or ns (i + 1) 0 }

-- bounds are stated where their bit b stands
abbrev pub bounds_with : ℕ → Ends → Option Ends
bounds_with b e = cond (eqb b 0) None (Some e)

-- those of field k, from number i on
abbrev pub bounds_at : ℕ → List ℕ → ℕ → ℕ → Option Ends
bounds_at m ns k i = bounds_with (bit m k) (ends_at ns i)

-- the job, and the entry, of a record with the map m and these numbers
abbrev pub job_with : Format → ℕ → ℕ → List ℕ → Job
job_with format operation m ns =
    record {
      setting = record { format = format; operation = operation; mode = get_or ns 8 0 };
      a = record { mask = mask_at ns 0; bounds = bounds_at m ns 8 14 };
      b = record { mask = mask_at ns 2; bounds = bounds_at m ns 9 16 };
      c = record { mask = mask_at ns 4; bounds = bounds_at m ns 10 18 };
      carries = mask_at ns 6;
      dropped = record { g = get_or ns 11 0; mask = mask_at ns 12 };
    }

abbrev pub entry_with : Format → ℕ → ℕ → List ℕ → Entry
entry_with format operation m ns = record { job = job_with format operation m ns; r1 = get_or ns 9 0; r2 = get_or ns 10 0 }

-- the byte counts of the numbers in a record with words of `word` bytes and the map m
abbrev pub field_sizes : ℕ → ℕ → List ℕ
field_sizes word m = sizes (layout word) m

-- the byte count of a word of an entry's record
abbrev pub entry_word : Entry → ℕ
entry_word e = word_bytes e.job.setting.format

-- ---- the map

-- 1 where bounds are stated, else 0: "No pair of bounds says a default"
abbrev pub presence : Option Ends → ℕ
presence None = 0
presence (Some e) = 1

-- the second map byte
abbrev pub second_map : Job → ℕ
second_map j = presence j.a.bounds + (2 * presence j.b.bounds + 4 * presence j.c.bounds)

-- the first map byte without its bit 7, and the second, as one number: bit 7 stands where the second is not empty
abbrev pub both_maps : ℕ → ℕ → ℕ
both_maps earlier second = cond (eqb second 0) earlier (earlier + (128 + 256 * second))

-- the map of an entry's record
unfoldable pub entry_map : Entry → ℕ
entry_map e = both_maps (map_of (with_default (entry_word e)) (entry_numbers e)) (second_map e.job)

-- "An empty second map is refused with 10": it is announced, and no bit of it stands
abbrev pub empty_second : ℕ → Bool
empty_second m = eqb (bit m announcing) 1 && eqb (m / 256) 0

-- what 10 is for: a field whose bit stands says its default, or the second map is empty
unfoldable pub says_absence : ℕ → ℕ → List ℕ → Bool
says_absence word m ns = says_default default_fields m (with_default word) ns || empty_second m
