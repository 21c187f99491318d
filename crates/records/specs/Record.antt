-- Job records (document 01, "Job files", "Causes and replies"; document 02, W-202, W-206, W-207): the bytes of a job's record, what stands first in a list of bytes and
-- the rest after it, and what writing does to a buffer. An entry is a job with its two random words. Assumes nothing.
use Rattle.format.specs.declared.cause.Cause.{Cause}
use Rattle.std.specs.Prelude.{not, ℕ, suc, ◌+◌, ◌^◌, List, [], ◌∷◌, ◌++◌, length, get_or, take, drop, leb, ltb, Option, Some, None, Result, Ok, Err}
use Rattle.bits.specs.Bit.{bit}
use Rattle.format.specs.declared.cause.Cause.TheVariants as cause
use Rattle.format.specs.Cause.{Check, unless, first}
use Rattle.format.specs.declared.Format.{Format}
use Rattle.job.specs.Job.{request_cause}
use Rattle.numbers.specs.Number.{little_endian, number, buffer_after}
use Rattle.numbers.specs.Numbers.{total, number_bytes, numbers}
use Rattle.layout.specs.declared.Entry.{Entry}
use Rattle.layout.specs.Fields.{announcing, entry_numbers, entry_with, field_sizes, entry_word, entry_map, says_absence}
use Rattle.records.specs.Version.{Version, current}

-- ---- the record's bytes

-- how many bytes the map has: "A record begins with a map byte"; W-207: "Map bit 7 now announces a second map byte directly after the first"
abbrev pub map_bytes : ℕ → ℕ
map_bytes m = suc (bit m announcing)

-- "the four header bytes", map, w, f and operation; W-207: with a second map "five header bytes then stand before the masks"
abbrev pub header_bytes : ℕ → ℕ
header_bytes m = map_bytes m + 3

-- the map, low byte first, "Then w, f and the operation, a byte each", then what follows
abbrev pub headed : ℕ → Format → ℕ → List ℕ → List ℕ
headed m F operation t = little_endian (map_bytes m) m ++ (F.w ∷ F.f ∷ operation ∷ t)

-- 1 to 6, with 14 to 16 (W-203) and 17 (W-206) after 5 and 18 (W-207) after 6: the cause against the job and its random words
abbrev pub record_cause : Entry → Check
record_cause e = request_cause e.job e.r1 e.r2

-- the header, "Then, in bit order, only the fields whose bit stands"
unfoldable pub record_bytes : Entry → List ℕ
record_bytes e =
    headed (entry_map e) e.job.setting.format e.job.setting.operation (number_bytes (field_sizes (entry_word e) (entry_map e)) (entry_numbers e))

-- ---- reading

-- the map of the record that stands first
unfoldable pub map_in : List ℕ → ℕ
map_in s = number (take (map_bytes (get_or s 0 0)) s)

-- the length of a record with words of `word` bytes, by its map: "masks stand after" the header
unfoldable pub record_length : ℕ → ℕ → ℕ
record_length word m = header_bytes m + total (field_sizes word m)

-- w and f, as the bytes say, taken or refused; and the operation
abbrev pub format_in : List ℕ → Format
format_in s = record { w = get_or s (map_bytes (map_in s)) 0; f = get_or s (map_bytes (map_in s) + 1) 0 }

abbrev pub operation_in : List ℕ → ℕ
operation_in s = get_or s (map_bytes (map_in s) + 2) 0

-- the numbers, and the entry, of a record with words of `word` bytes that is not cut short
abbrev pub numbers_in : ℕ → List ℕ → List ℕ
numbers_in word s = numbers (field_sizes word (map_in s)) (drop (header_bytes (map_in s)) s)

unfoldable pub entry_in : ℕ → List ℕ → Entry
entry_in word s = entry_with (format_in s) (operation_in s) (map_in s) (numbers_in word s)

-- "Reading checks 9, 8, then 1 to 6, then 10", where so many map bits have a meaning and a word has so many bytes; a map with no bit above
-- these is below 2 to their count. 10 is asked of the numbers as they would be written: W-206, "A mask with care 0 says its default",
-- whatever its g
unfoldable pub read_cause : ℕ → ℕ → List ℕ → Check
read_cause bits word s =
    first (unless (ltb (map_in s) (2 ^ bits)) cause.MapBits)
    (first (unless (leb (record_length word (map_in s)) (length s)) cause.Cut)
    (first (record_cause (entry_in word s)) (unless (not (says_absence word (map_in s) (entry_numbers (entry_in word s)))) cause.DefaultField)))

-- what stands first in bytes: nothing more, or an entry with the length of its record; else a refusal
abbrev pub First : Type 0
First = Result (Option (Entry × ℕ)) Cause

-- an entry where no cause stands
abbrev pub read_reply : Check → Entry → ℕ → First
read_reply check e n = first check (Ok (Some (e, n)))

-- what stands first, with words of `word` bytes: "with no byte left it says end", else a job with its length, or a refusal
unfoldable pub first_with : ℕ → ℕ → List ℕ → First
first_with bits word [] = Ok None
first_with bits word (b ∷ bs) = read_reply (read_cause bits word (b ∷ bs)) (entry_in word (b ∷ bs)) (record_length word (map_in (b ∷ bs)))

-- the same for a version of the job files, whose words are as long as w and f say; and for this one
abbrev pub first_by : Version → List ℕ → First
first_by v s = first_with v.bits (v.word (format_in s)) s

unfoldable pub first_in : List ℕ → First
first_in s = first_by current s

-- "the reader hands back the rest of the file"; on a refusal "the rest .. begins at the refused record"
abbrev pub rest_after : First → List ℕ → List ℕ
rest_after (Ok None) s = []
rest_after (Ok (Some (e, n))) s = drop n s
rest_after (Err k) s = s

-- the bytes after what stands first
unfoldable pub rest : List ℕ → List ℕ
rest s = rest_after (first_in s) s

-- ---- writing

-- "Writing checks 1 to 6, then 11": the record is longer than the buffer of n bytes
unfoldable pub write_cause : Entry → ℕ → Check
write_cause e n = first (record_cause e) (unless (leb (length (record_bytes e)) n) cause.Buffer)

-- the byte count where no cause stands
abbrev pub write_reply : Check → ℕ → Result ℕ Cause
write_reply check n = first check (Ok n)

-- the reply: "it returns the byte count"
unfoldable pub writing : Entry → List ℕ → Result ℕ Cause
writing e s = write_reply (write_cause e (length s)) (length (record_bytes e))

-- the buffer after writing: the record, and "bytes after the record are untouched"; where a cause stands, "the whole buffer" as it was
unfoldable pub written : Entry → List ℕ → List ℕ
written e s = buffer_after (write_cause e (length s)) (record_bytes e) s
