-- Whole files: entries that are written read back as those entries, each g taken as 0 where no dropped bit is fixed, and then end, and a
-- file that is accepted to its end is what writing its entries gives. By induction, record by record. Assumes nothing.
use Rattle.records.proofs.Causes.{job_same}
use mathlib.Core.Path.{◌≡◌, refl, sym, ap₂, ◌∙◌, subst}
use native.Mathlib.Omega.{arith}
use Prim.Native.Nat.{ℕ}
use mathlib.Core.List.{List, ◌∷◌, ◌++◌}
use lib.ListN.{drop, take-append-drop}
use lib.Seq.{drop-append_seam}
use Rattle.numbers.specs.Number.{Bytes}
use Rattle.records.specs.Record.{record_bytes, first_with, first_in}
use Rattle.records.specs.File.{file_bytes, normalised_entries, Reads, end, next, Writable, none, more}
use Rattle.layout.specs.declared.Entry.{Entry}
use Rattle.numbers.proofs.Numbers.{bytes_drop}
use Rattle.records.proofs.RoundTrip.{read_written, written_read, read_same}

pub file_read : {es : List Entry} → Writable es → Reads (file_bytes es) (normalised_entries es)
unfolding file_bytes normalised_entries
file_read none = end
file_read (more {e = e} {es = es} ok rest) =
    next (read_written e (file_bytes es) ok)
    (subst (λ (s : List ℕ). Reads s (normalised_entries es)) (sym (drop-append_seam (record_bytes e) (file_bytes es))) (file_read rest))

pub file_written : {s : List ℕ} {es : List Entry} → Reads s es → Bytes s → file_bytes es ≡ s
unfolding file_bytes
file_written end b = refl
file_written (next {s = s} {e = e} {n = n} {es = es} q rest) b =
    ap₂ ◌++◌ (written_read s b e n q).1 (file_written rest (bytes_drop n s b)) ∙ take-append-drop n s

-- the entries of a file are as they are written
pub file_same : {s : List ℕ} {es : List Entry} → Reads s es → normalised_entries es ≡ es
unfolding normalised_entries
file_same end = refl
file_same (next {s = s} {e = e} {n = n} q rest) = ap₂ (λ (x : Entry) (xs : List Entry). x ∷ xs) (read_same s e n q) (file_same rest)

-- what is accepted to its end can be written
pub file_writable : {s : List ℕ} {es : List Entry} → Reads s es → Bytes s → Writable es
file_writable end b = none
file_writable (next {s = s} {e = e} {n = n} q rest) b = more (written_read s b e n q).0 (file_writable rest (bytes_drop n s b))

-- bytes are accepted as one list of entries at most
pub file_unique : {s : List ℕ} {es ds : List Entry} → Reads s es → Reads s ds → es ≡ ds
unfolding first_in first_with
file_unique end end = refl
file_unique end (next q rest) = absurd (let z : ◌≡◌ {A = ℕ} 0 1 = cc in omega arith)
file_unique (next q rest) end = absurd (let z : ◌≡◌ {A = ℕ} 0 1 = cc in omega arith)
file_unique (next {s = s} {e = e} {n = n} {es = es} q rest) (next {e = d} {n = k} {es = ds} r more') =
    let same = job_same (sym q ∙ r) in
    ap₂ (λ (x : Entry) (xs : List Entry). x ∷ xs) same.0
    (file_unique rest (subst (λ (j : ℕ). Reads (drop j s) ds) (sym same.1) more'))
