-- Writing, test by test: what is replied and what the buffer holds for each cause, and for none; and reading that buffer.
-- Assumes nothing.
use Rattle.std.specs.Prelude.{Some, Ok, Err}
use mathlib.Core.Path.{◌≡◌, refl, sym, ap, ◌∙◌}
use Prim.Native.Nat.{ℕ, ◌≤◌}
use native.Mathlib.Omega.{arith}
use borrow.Author.Tests.{le-leb}
use mathlib.Core.List.{List, ◌++◌}
use lib.ListN.{length, drop}
use lib.Dec.{leb}
use Rattle.format.specs.declared.cause.Cause.TheVariants as cause
use Rattle.format.specs.Cause.{Check, clear, first, unless}
use Rattle.format.specs.declared.cause.Cause.{Cause}
use Rattle.format.proofs.Laws.{first_none}
use Rattle.numbers.specs.Number.{buffer_after}
use Rattle.records.specs.Record.{record_cause, record_bytes, first_in, rest, write_cause, write_reply, writing, written}
use Rattle.layout.specs.declared.Entry.{Entry}
use Rattle.layout.specs.Fields.{normalised_entry}
use Rattle.records.proofs.RoundTrip.{read_written, rest_written}

-- the reply and the buffer where a cause stands: against the entry, or since the buffer is too short
module _ (e : Entry) (s : List ℕ) where
  refused : (k : Cause) → write_cause e (length s) ≡ Err k → (Err k ≡ writing e s) × (s ≡ written e s)
  unfolding writing written
  refused k q = (sym (ap (λ (j : Check). write_reply j (length (record_bytes e))) q), sym (ap (λ (j : Check). buffer_after j (record_bytes e) s) q))

  pub write_refused : (k : Cause) → record_cause e ≡ Err k → (Err k ≡ writing e s) × (s ≡ written e s)
  unfolding write_cause
  write_refused k q = refused k (ap (λ (j : Check). first j (unless (leb (length (record_bytes e)) (length s)) cause.Buffer)) q)

  pub write_short : (k : Cause) → record_cause e ≡ clear → unless (leb (length (record_bytes e)) (length s)) cause.Buffer ≡ Err k
      → (Err k ≡ writing e s) × (s ≡ written e s)
  unfolding write_cause
  write_short k ok h = refused k (rw ok h)

  -- no cause
  pub write_whole : record_cause e ≡ clear → length (record_bytes e) ≤ length s
      → (Ok (length (record_bytes e)) ≡ writing e s) × (record_bytes e ++ drop (length (record_bytes e)) s ≡ written e s)
  unfolding writing written write_cause
  write_whole ok h =
      let none : write_cause e (length s) ≡ clear = rw (ok, le-leb (length (record_bytes e)) (length s) h) in
      (sym (ap (λ (j : Check). write_reply j (length (record_bytes e))) none), sym (ap (λ (j : Check). buffer_after j (record_bytes e) s) none))

-- what a buffer holds after the reply n reads as the entry, its g taken as 0 where no dropped bit is fixed, and the bytes after the first n
-- are the rest
reply_written : (k : Check) (n m : ℕ) → write_reply k n ≡ Ok m → (k ≡ clear) × (n ≡ m)
reply_written (Ok u) n m q = (refl, cc)
reply_written (Err k) n m q = absurd (let z : ◌≡◌ {A = ℕ} 0 1 = cc in omega arith)

pub read_after_write : (e : Entry) (s : List ℕ) (n : ℕ) → writing e s ≡ Ok n
    → (first_in (written e s) ≡ Ok (Some (normalised_entry e, n))) × (rest (written e s) ≡ drop n s)
unfolding writing written write_cause
read_after_write e s n q =
    let t = reply_written (write_cause e (length s)) (length (record_bytes e)) n q in
    let ok : record_cause e ≡ clear = ((first_none (record_cause e) (unless (leb (length (record_bytes e)) (length s)) cause.Buffer)).0 t.0).0 in
    let tail : List ℕ = drop (length (record_bytes e)) s in
    let holds : written e s ≡ record_bytes e ++ tail = ap (λ (k : Check). buffer_after k (record_bytes e) s) t.0 in (
      ap first_in holds ∙ read_written e tail ok ∙ ap (λ (k : ℕ). Ok (Some (normalised_entry e, k))) t.1,
      ap rest holds ∙ rest_written e tail ok ∙ ap (λ (k : ℕ). drop k s) t.1,
    )
