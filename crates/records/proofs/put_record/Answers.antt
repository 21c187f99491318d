-- `records::put_record` meets its contract: the header's numbers, then those of the fields right after them. Against the entry no cause
-- stands, so each header number fits its bytes. Assumes nothing.
use Rattle.format.specs.Cause.{clear}
use mathlib.Core.Path.{◌≡◌, sym, ap, ap₂, ◌∙◌}
use Prim.Native.Nat.{ℕ, ◌%◌, ◌<◌}
use native.Mathlib.Nat.{zero-add, mod-eq_of_lt}
use native.Mathlib.Omega.{arith}
use mathlib.Core.List.{List, [], ◌∷◌, ◌++◌, append_assoc}
use lib.ListN.{length, drop, length-append}
use Rattle.job.proofs.Laws.{request_none}
use Rattle.numbers.specs.Number.{little_endian, put}
use Rattle.numbers.specs.Numbers.{total, number_bytes}
use Rattle.layout.specs.Fields.{field_sizes, entry_numbers, entry_word, entry_map}
use Rattle.records.specs.Record.{map_bytes, header_bytes, headed, record_cause, record_bytes, record_length}
use Rattle.layout.specs.declared.Entry.{Entry}
use Rattle.numbers.proofs.Numbers.{put_put}
use Rattle.layout.proofs.JobLayout.{sizes_count}
use Rattle.records.proofs.Headers.{length_headed}
use Rattle.records.proofs.Causes.{record_length_lem}
use Rattle.records.proofs.put_record.Goals as goal

-- the header of an entry's record, and the bytes of its fields
abbrev header : Entry → List ℕ
header e = headed (entry_map e) e.job.setting.format e.job.setting.operation []

abbrev field_bytes : Entry → List ℕ
field_bytes e = number_bytes (field_sizes (entry_word e) (entry_map e)) (entry_numbers e)

header_length : (e : Entry) → length (header e) ≡ header_bytes (entry_map e)
header_length e = omega (arith, length_headed (entry_map e) e.job.setting.format e.job.setting.operation [])

record_whole : (e : Entry) → header e ++ field_bytes e ≡ record_bytes e
unfolding record_bytes
record_whole e = append_assoc (little_endian (map_bytes (entry_map e)) (entry_map e)) _ (field_bytes e)

-- each number after the map is its one byte
byte : (x : ℕ) → x < 256 → x % 256 ≡ x
byte x h = mod-eq_of_lt h

header_bytes_lem : (e : Entry) → record_cause e ≡ clear
    → number_bytes (map_bytes (entry_map e) ∷ 1 ∷ 1 ∷ 1 ∷ []) (entry_map e ∷ e.job.setting.format.w ∷ e.job.setting.format.f ∷ e.job.setting.operation ∷ []) ≡ header e
unfolding number_bytes little_endian
header_bytes_lem e ok =
    let S = e.job.setting in
    let v = ((request_none e.job e.r1 e.r2).0 ok).valid.setting in
    λ i. little_endian (map_bytes (entry_map e)) (entry_map e)
    ++ (byte S.format.w (omega (arith, v.format.w_most)) i ∷ byte S.format.f (omega (arith, v.format.f_most)) i ∷ byte S.operation (omega (arith, v.operation)) i ∷ [])

pub put_numbers-requires : goal.put_numbers-requires
unfolding total record_length
put_numbers-requires c =
    (omega (arith, c.map_bytes.ensures, ap map_bytes c.requires.1, record_length_lem c.args.entry c.requires.0, c.requires.2), omega arith)

pub put_numbers-requires-2 : goal.put_numbers-requires-2
unfolding record_length entry_numbers
put_numbers-requires-2 c =
    let sizes-are : c.field_sizes-sizes.result
    ≡ field_sizes (entry_word c.args.entry) (entry_map c.args.entry) = c.field_sizes-sizes.ensures ∙ ap₂ field_sizes c.word_bytes.ensures c.requires.1 in
    let e : Entry = c.args.entry in (
      omega (arith, c.header_bytes.ensures, ap header_bytes c.requires.1, ap total (sizes-are), record_length_lem e c.requires.0, c.requires.2, c.put_numbers.auto.buffer),
      ap length c.entry_numbers-numbers.ensures ∙ sym (ap length (sizes-are) ∙ sizes_count (entry_word e) (entry_map e)),
    )

pub returns : goal.returns
returns c =
    let sizes-are : c.field_sizes-sizes.result
    ≡ field_sizes (entry_word c.args.entry) (entry_map c.args.entry) = c.field_sizes-sizes.ensures ∙ ap₂ field_sizes c.word_bytes.ensures c.requires.1 in
    let e : Entry = c.args.entry in
    let S = e.job.setting in
    let s : List ℕ = c.args.buffer.now in
    let map : c.args.map ≡ entry_map e = c.requires.1 in
    let first : c.map_bytes.result ≡ map_bytes (entry_map e) = c.map_bytes.ensures ∙ ap map_bytes map in
    let after : c.header_bytes.result ≡ length (header e) = c.header_bytes.ensures ∙ ap header_bytes map ∙ sym (header_length e) in
    let fields = ap₂ number_bytes (sizes-are) c.entry_numbers-numbers.ensures in
    let front = c.put_numbers.ensures
    ∙ (λ i. put s 0 (number_bytes (first i ∷ 1 ∷ 1 ∷ 1 ∷ []) (map i ∷ S.format.w ∷ S.format.f ∷ S.operation ∷ []))) ∙ ap (put s 0) (header_bytes_lem e c.requires.0) in
    c.put_numbers-2.ensures ∙ (λ i. put (front i) (after i) (fields i))
    ∙ ap (λ (j : ℕ). put (put s 0 (header e)) j (field_bytes e)) (sym (zero-add (length (header e))))
    ∙ put_put s 0 (header e) (field_bytes e) (omega (arith, c.requires.2, ap length (record_whole e), length-append (header e) (field_bytes e)))
    ∙ ap (put s 0) (record_whole e) ∙ ap (λ (j : ℕ). record_bytes e ++ drop j s) (zero-add (length (record_bytes e)))
