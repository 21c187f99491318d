-- "Old job files that were accepted read as before" (document 02, W-202, W-206, W-207): a version that knows what another knows reads as the same
-- entries whatever that one accepts, record by record and file by file. What is read depends on the version only by the test for map bits
-- and by the byte count of a word, and both versions agree on these. Assumes nothing.
use Rattle.format.specs.Cause.{clear}
use Rattle.std.specs.Prelude.{Some, Ok}
use mathlib.Core.Path.{◌≡◌, refl, sym, ap, ◌∙◌, subst}
use mathlib.Core.Logic.{◌↔◌}
use Prim.Native.Nat.{ℕ, ◌≤◌}
use native.Mathlib.Nat.{lt_of_lt_of_le}
use native.Mathlib.Omega.{arith}
use mathlib.Core.List.{List}
use lib.Pow.{pow_mono}
use Rattle.bits.proofs.Laws.{bit_above}
use Rattle.format.specs.declared.Format.{Format}
use Rattle.job.specs.Dropped.{free_dropped}
use Rattle.job.specs.Role.{unbounded}
use Rattle.job.proofs.Laws.{request_none}
use Rattle.layout.specs.declared.Entry.{Entry}
use Rattle.layout.proofs.JobLayout.{narrow_bytes}
use Rattle.layout.proofs.Maps.{unbounded_absent}
use Rattle.layout.proofs.Entries.{read_announces, dropped_absent}
use Rattle.records.specs.Version.{Version, Takes, Extends, current, base, before_dropped, before_bounds}
use Rattle.records.specs.Record.{record_cause, map_in, format_in, operation_in, numbers_in, entry_in, first_by, first_in}
use Rattle.records.specs.File.{Reads, end as no_byte, next as record_first, ReadsBy, end, next}
use Rattle.records.proofs.Causes.{Taken, job_with, taken_job, first_job}
use Rattle.records.proofs.RoundTrip.{fields_absent}

-- more map bits
bits_more : {k l word : ℕ} {s : List ℕ} {e : Entry} {n : ℕ} → k ≤ l → Taken k word s e n → Taken l word s e n
bits_more {k} {l} le t =
    record {
      readable = record {
        map = lt_of_lt_of_le t.readable.map (pow_mono {i = k} {j = l} le);
        whole = t.readable.whole;
        sound = t.readable.sound;
        no_default = t.readable.no_default;
      };
      entry = t.entry;
      count = t.count;
    }

-- the entry has the format that its bytes say
entry_format : (word : ℕ) (s : List ℕ) (e : Entry) → entry_in word s ≡ e → format_in s ≡ e.job.setting.format
unfolding entry_in
entry_format word s e q = ap (λ (d : Entry). d.job.setting.format) q

module _ {earlier later : Version} (more : Extends earlier later) where
  takes_more : {F : Format} → Takes earlier F → Takes later F
  takes_more t = record { w_most = omega (arith, t.w_most, more.widths.w_most); f_most = omega (arith, t.f_most, more.widths.f_most) }

  -- a record
  pub read_as_before : (s : List ℕ) (e : Entry) (n : ℕ) → Takes earlier e.job.setting.format → first_by earlier s ≡ Ok (Some (e, n)) → first_by later s ≡ Ok (Some (e, n))
  read_as_before s e n takes q =
      let t = job_with earlier.bits (earlier.word (format_in s)) s e n q in
      let same : format_in s ≡ e.job.setting.format = entry_format (earlier.word (format_in s)) s e t.entry in
      let words : earlier.word (format_in s) ≡ later.word (format_in s) = more.words (format_in s) (subst (Takes earlier) (sym same) takes) in
      taken_job later.bits (later.word (format_in s)) s e n (subst (λ (k : ℕ). Taken later.bits k s e n) words (bits_more more.bits t))

  -- a file
  pub file_as_before : {s : List ℕ} {es : List Entry} → ReadsBy earlier s es → ReadsBy later s es
  file_as_before end = end
  file_as_before (next {s = s} {e = e} {n = n} q takes rest) = next (read_as_before s e n takes q) (takes_more takes) (file_as_before rest)

-- what this version accepts is in a supported format, so that it takes it
current_takes : (s : List ℕ) (e : Entry) (n : ℕ) → first_in s ≡ Ok (Some (e, n)) → Takes current e.job.setting.format
current_takes s e n q =
    let t = first_job s e n q in
    let ok : record_cause e ≡ clear = ap record_cause (sym t.entry) ∙ t.readable.sound in
    let h = ((request_none e.job e.r1 e.r2).0 ok).valid.setting.format in
    record { w_most = h.w_most; f_most = h.f_most }

current_reads : {s : List ℕ} {es : List Entry} → ReadsBy current s es → Reads s es
unfolding first_in
current_reads end = no_byte
current_reads (next q takes rest) = record_first q (current_reads rest)

reads_current : {s : List ℕ} {es : List Entry} → Reads s es → ReadsBy current s es
unfolding first_in
reads_current no_byte = end
reads_current (record_first {s = s} {e = e} {n = n} q rest) = next q (current_takes s e n q) (reads_current rest)

-- so it accepts the files that are accepted
pub current_file : {s : List ℕ} {es : List Entry} → ReadsBy current s es ↔ Reads s es
current_file = (current_reads, reads_current)

-- document 01's job files: a word of a format that they take has 32 bits at most
base_extended : Extends base current
base_extended =
    record {
      bits = omega arith;
      widths = record { w_most = omega arith; f_most = omega arith };
      words = λ F t. sym (narrow_bytes F (omega (arith, t.w_most, t.f_most)));
    }

pub base_file_read : {s : List ℕ} {es : List Entry} → ReadsBy base s es → Reads s es
base_file_read r = current_file.0 (file_as_before base_extended r)

-- the job files before W-206
before_dropped_extended : Extends before_dropped current
before_dropped_extended = record { bits = omega arith; widths = record { w_most = omega arith; f_most = omega arith }; words = λ F t. refl }

pub before_dropped_read : {s : List ℕ} {es : List Entry} → ReadsBy before_dropped s es → Reads s es
before_dropped_read r = current_file.0 (file_as_before before_dropped_extended r)

-- the job files before W-207
before_bounds_extended : Extends before_bounds current
before_bounds_extended = record { bits = omega arith; widths = record { w_most = omega arith; f_most = omega arith }; words = λ F t. refl }

pub before_bounds_read : {s : List ℕ} {es : List Entry} → ReadsBy before_bounds s es → Reads s es
before_bounds_read r = current_file.0 (file_as_before before_bounds_extended r)

-- what a file before W-206 accepts wants nothing of the dropped bits
pub before_free : (v : Version) → v.bits ≤ 6 → (s : List ℕ) (e : Entry) (n : ℕ) → first_by v s ≡ Ok (Some (e, n)) → e.job.dropped ≡ free_dropped
before_free v few s e n q =
    let t = job_with v.bits (v.word (format_in s)) s e n q in
    let word = v.word (format_in s) in
    let low = bit_above 6 (lt_of_lt_of_le t.readable.map (pow_mono {i = v.bits} {j = 6} few)) in
    ap (λ (d : Entry). d.job.dropped) (sym t.entry) ∙ dropped_absent (map_in s) word (entry_in word s) (fields_absent word s) low

-- and what a file before W-207 accepts states no bounds
pub before_unbounded : (v : Version) → v.bits ≤ 7 → (s : List ℕ) (e : Entry) (n : ℕ) → first_by v s ≡ Ok (Some (e, n)) → unbounded e.job ≡ e.job
unfolding entry_in
before_unbounded v few s e n q =
    let t = job_with v.bits (v.word (format_in s)) s e n q in
    let word = v.word (format_in s) in
    let low = lt_of_lt_of_le t.readable.map (pow_mono {i = v.bits} {j = 7} few) in
    let none = unbounded_absent (map_in s) (entry_in word s).job (read_announces (format_in s) (operation_in s) (map_in s) (numbers_in word s)) (omega arith) in
    ap (λ (d : Entry). unbounded d.job) (sym t.entry) ∙ none ∙ ap (λ (d : Entry). d.job) t.entry
