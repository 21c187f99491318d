-- One record: what was written, followed by any bytes, reads as the entry with those bytes as the rest, its g taken as 0 where no dropped
-- bit is fixed, and bytes that read as an entry are what writing that entry gives. So entries that are not taken alike have different
-- records, and no record is the start of another. Assumes nothing.
use Rattle.std.specs.Prelude.{Option, Some, Result, Ok}
use Rattle.format.specs.declared.cause.Cause.{Cause}
use mathlib.Core.Path.{◌≡◌, sym, ap, ap₂, ◌∙◌}
use mathlib.Core.Bool.{Bool, not}
use Prim.Native.Nat.{ℕ, ◌+◌, ◌^◌, ◌≤◌, ◌<◌}
use native.Mathlib.Omega.{arith}
use mathlib.Core.List.{List, [], ◌++◌, append-nil, append_assoc}
use borrow.Author.Tests.{eqb-true}
use lib.Dec.{eqb}
use lib.ListN.{length, take, drop, length-append, length-drop}
use lib.Seq.{drop-append_seam}
use Rattle.format.specs.declared.cause.Cause.TheVariants as cause
use Rattle.format.specs.Cause.{clear, unless, first}
use Rattle.numbers.specs.Number.{Bytes, little_endian}
use Rattle.numbers.specs.Numbers.{total, number_bytes, numbers}
use Rattle.numbers.proofs.Numbers.{bytes_drop}
use Rattle.numbers.proofs.BySizes.{numbers_back, bytes_back}
use Rattle.job.specs.Dropped.{normalised, normalised_job}
use Rattle.job.proofs.Laws.{request_none, normalised_request}
use Rattle.layout.specs.Layout.{is_default}
use Rattle.layout.specs.Fields.{word_bytes, map_width, layout, field_numbers, normalised_entry, entry_numbers, entry_with, field_sizes, entry_word, entry_map, says_absence}
use Rattle.layout.specs.declared.Entry.{Entry}
use Rattle.layout.proofs.ByMap.{Absent, neither, read_absent}
use Rattle.layout.proofs.Maps.{entry_map_lt, absence_map, own_absence}
use Rattle.layout.proofs.Entries.{entry_back, numbers_again, entry_same, numbers_same, read_announces, numbers_read, entry_absent, read_normalised}
use Rattle.records.specs.Record.{First, map_bytes, header_bytes, headed, record_cause, record_bytes, map_in, record_length, format_in, operation_in, numbers_in, entry_in, first_with, first_in, rest, rest_after}
use Rattle.records.proofs.Headers.{map_headed, format_headed, entry_headed, take_headed, entry_map_fits, map_fits, headed_back}
use Rattle.records.proofs.Causes.{job_same, record_fits, record_length_lem, Readable, Taken, taken_job, word_in, first_job, late_cause}

-- ---- written and read back
module _ (e : Entry) (t : List ℕ) (ok : record_cause e ≡ clear) where
  -- the bytes of the fields, and what follows
  tail : List ℕ
  tail = number_bytes (field_sizes (entry_word e) (entry_map e)) (entry_numbers e) ++ t

  whole_record : record_bytes e ++ t ≡ headed (entry_map e) e.job.setting.format e.job.setting.operation tail
  unfolding record_bytes tail
  whole_record = append_assoc (little_endian (map_bytes (entry_map e)) (entry_map e)) _ t

  same_map : map_in (record_bytes e ++ t) ≡ entry_map e
  same_map = ap map_in whole_record ∙ map_headed (entry_map e) e.job.setting.format e.job.setting.operation tail (entry_map_fits e)

  same_word : word_in (record_bytes e ++ t) ≡ entry_word e
  same_word =
      ap word_in whole_record ∙ ap word_bytes (format_headed (entry_map e) e.job.setting.format e.job.setting.operation tail (entry_map_fits e))

  same_entry : entry_in (entry_word e) (record_bytes e ++ t) ≡ normalised_entry e
  unfolding tail
  same_entry =
      let S = e.job.setting in
      ap (entry_in (entry_word e)) whole_record ∙ entry_headed (entry_map e) S.format S.operation tail (entry_map_fits e) (entry_word e)
      ∙ ap (entry_with S.format S.operation (entry_map e)) (numbers_back (record_fits e ok) t) ∙ entry_back e

  same_cause : record_cause (normalised_entry e) ≡ clear
  same_cause =
      (request_none (normalised_job e.job) e.r1 e.r2).1
      (normalised_request e.job e.r1 e.r2 ((request_none e.job e.r1 e.r2).0 ok))

  taken : Taken map_width (entry_word e) (record_bytes e ++ t) (normalised_entry e) (length (record_bytes e))
  taken =
      let long : record_length (entry_word e) (map_in (record_bytes e ++ t)) ≡ length (record_bytes e) = ap (record_length (entry_word e)) same_map ∙ record_length_lem e ok in
      record {
        readable = record {
          map = rw same_map (entry_map_lt e);
          whole = omega (arith, long, length-append (record_bytes e) t);
          sound = ap record_cause same_entry ∙ same_cause;
          no_default = ap₂ (says_absence (entry_word e)) same_map (ap entry_numbers same_entry ∙ numbers_again e) ∙ own_absence e;
        };
        entry = same_entry;
        count = long;
      }

  pub read_written : first_in (record_bytes e ++ t) ≡ Ok (Some (normalised_entry e, length (record_bytes e)))
  unfolding first_in
  read_written =
      ap (λ (word : ℕ). first_with map_width word (record_bytes e ++ t)) same_word
      ∙ taken_job map_width (entry_word e) (record_bytes e ++ t) (normalised_entry e) (length (record_bytes e)) taken

  -- the bytes that follow are the rest
  pub rest_written : rest (record_bytes e ++ t) ≡ t
  unfolding rest
  rest_written = ap (λ (r : Result (Option (Entry × ℕ)) Cause). rest_after r (record_bytes e ++ t)) read_written ∙ drop-append_seam (record_bytes e) t

-- ---- read and written back

-- the fields that are absent from a record say their default in the entry that is read
pub fields_absent : (word : ℕ) (s : List ℕ) → Absent (map_in s) (layout word) (field_numbers (entry_in word s))
unfolding entry_in
fields_absent word s i z =
    let m : ℕ = map_in s in
    let t : List ℕ = drop (header_bytes m) s in
    ap (is_default i (layout word)) (numbers_read (format_in s) (operation_in s) word m t) ∙ read_absent m (layout word) t i z

-- so the test for 10 may compare the map that was read with the entry's own
absence_read : (s : List ℕ) → map_in s < 2 ^ map_width → map_in s < 256 ^ map_bytes (map_in s)
    → not (says_absence (word_in s) (map_in s) (entry_numbers (entry_in (word_in s) s))) ≡ eqb (entry_map (entry_in (word_in s) s)) (map_in s)
unfolding entry_in
absence_read s h fits =
    let m : ℕ = map_in s in
    let e : Entry = entry_in (word_in s) s in
    absence_map m e h (λ z. rw z at fits) (read_announces (format_in s) (operation_in s) m (numbers_in (word_in s) s)) (entry_absent m (word_in s) e (fields_absent (word_in s) s))

pub entry_default : (s : List ℕ) → map_in s < 2 ^ map_width → map_in s < 256 ^ map_bytes (map_in s)
    → first (record_cause (entry_in (word_in s) s)) (unless (eqb (entry_map (entry_in (word_in s) s)) (map_in s)) cause.DefaultField) ≡ late_cause (word_in s) s
entry_default s h fits = ap (λ (t : Bool). first (record_cause (entry_in (word_in s) s)) (unless t cause.DefaultField)) (sym (absence_read s h fits))

-- a job that was read carries no g where no dropped bit is fixed
pub read_taken : (bits word : ℕ) (s : List ℕ) → Readable bits word s → normalised (entry_in word s).job.dropped ≡ (entry_in word s).job.dropped
unfolding says_absence
read_taken bits word s r =
    let e : Entry = entry_in word s in
    read_normalised (map_in s) word e ((request_none e.job e.r1 e.r2).0 r.sound).valid.dropped (fields_absent word s) (neither _ _ r.no_default).0

-- the record of the entry that was read is what was read
pub record_read : (s : List ℕ) → Bytes s → Readable map_width (word_in s) s → record_bytes (entry_in (word_in s) s) ≡ take (record_length (word_in s) (map_in s)) s
unfolding record_bytes record_length entry_in
record_read s b r =
    let word : ℕ = word_in s in
    let m : ℕ = map_in s in
    let e : Entry = entry_in word s in
    let t : List ℕ = drop (header_bytes m) s in
    let n : ℕ = total (field_sizes word m) in
    let same : entry_numbers e ≡ numbers (field_sizes word m) t =
    numbers_same e (read_taken map_width word s r) ∙ numbers_read (format_in s) (operation_in s) word m t in
    let map : entry_map e ≡ m = eqb-true (entry_map e) m (sym (absence_read s r.map (map_fits s b)) ∙ ap not r.no_default) in
    let bytes : number_bytes (field_sizes word (entry_map e)) (entry_numbers e) ≡ take n t =
    ap₂ (λ (k : ℕ) (xs : List ℕ). number_bytes (field_sizes word k) xs) map same
    ∙ bytes_back (field_sizes word m) t (bytes_drop (header_bytes m) s b) (omega (arith, r.whole, length-drop (header_bytes m) s)) in
    ap₂ (λ (k : ℕ) (l : List ℕ). headed k (format_in s) (operation_in s) l) map bytes
    ∙ sym (take_headed m (format_in s) (operation_in s) t n) ∙ ap (take (header_bytes m + n)) (headed_back s b (omega (arith, r.whole)))

-- bytes that read as an entry are the record of that entry, against which no cause stands
pub written_read : (s : List ℕ) → Bytes s → (e : Entry) (n : ℕ) → first_in s ≡ Ok (Some (e, n))
    → (record_cause e ≡ clear) × (record_bytes e ≡ take n s) × (n ≤ length s)
written_read s b e n q =
    let taken = first_job s e n q in (
      ap record_cause (sym taken.entry) ∙ taken.readable.sound,
      ap record_bytes (sym taken.entry) ∙ record_read s b taken.readable ∙ ap (λ (k : ℕ). take k s) taken.count,
      omega (arith, taken.readable.whole, taken.count),
    )

-- and the entry is as it is written
pub read_same : (s : List ℕ) (e : Entry) (n : ℕ) → first_in s ≡ Ok (Some (e, n)) → normalised_entry e ≡ e
read_same s e n q =
    let taken = first_job s e n q in
    ap normalised_entry (sym taken.entry) ∙ entry_same (entry_in (word_in s) s) (read_taken map_width (word_in s) s taken.readable) ∙ taken.entry

-- ---- records tell entries apart

-- no record is the start of another, and entries that are not taken alike have different records
pub no_prefix : (e d : Entry) (t : List ℕ) → record_cause e ≡ clear → record_cause d ≡ clear → record_bytes e ++ t ≡ record_bytes d
    → (normalised_entry e ≡ normalised_entry d) × (t ≡ [])
no_prefix e d t p q same =
    let whole : record_bytes e ++ t ≡ record_bytes d ++ [] = same ∙ sym (append-nil (record_bytes d)) in
    let one : ◌≡◌ {A = First} (Ok (Some (normalised_entry e, length (record_bytes e)))) (Ok (Some (normalised_entry d, length (record_bytes d)))) =
    sym (read_written e t p) ∙ ap first_in whole ∙ read_written d [] q in
    ((job_same one).0, sym (rest_written e t p) ∙ ap rest whole ∙ rest_written d [] q)

pub record_injective : (e d : Entry) → record_cause e ≡ clear → record_cause d ≡ clear → record_bytes e ≡ record_bytes d → normalised_entry e ≡ normalised_entry d
record_injective e d p q same = (no_prefix e d [] p q (append-nil (record_bytes e) ∙ same)).0
