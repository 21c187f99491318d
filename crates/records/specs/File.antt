-- Job files (document 01, "Job files"): records one after the other. Assumes nothing.
use Rattle.std.specs.Prelude.{◌≡◌, ℕ, List, [], ◌∷◌, ◌++◌, drop, Some, Ok}
use Rattle.format.specs.Cause.{clear}
use Rattle.records.specs.Version.{Version, Takes}
use Rattle.records.specs.Record.{record_bytes, record_cause, first_by, first_in}
use Rattle.layout.specs.declared.Entry.{Entry}
use Rattle.layout.specs.Fields.{normalised_entry}

-- the bytes of a file of these entries
unfoldable pub file_bytes : List Entry → List ℕ
file_bytes [] = []
file_bytes (e ∷ es) = record_bytes e ++ file_bytes es

-- the entries as they are written and read: W-206, g is taken as 0 where none of the dropped bits is fixed
unfoldable pub normalised_entries : List Entry → List Entry
normalised_entries [] = []
normalised_entries (e ∷ es) = normalised_entry e ∷ normalised_entries es

-- a file that is accepted to its end, as these entries
pub data Reads : List ℕ → List Entry → Type 0 where
  end : Reads [] []
  next : {s : List ℕ} {e : Entry} {n : ℕ} {es : List Entry} → first_in s ≡ Ok (Some (e, n)) → Reads (drop n s) es → Reads s (e ∷ es)

-- the same by a version: each record reads as an entry of a format that the version takes
pub data ReadsBy (v : Version) : List ℕ → List Entry → Type 0 where
  end : ReadsBy v [] []
  next : {s : List ℕ} {e : Entry} {n : ℕ} {es : List Entry} → first_by v s ≡ Ok (Some (e, n)) → Takes v e.job.setting.format → ReadsBy v (drop n s) es → ReadsBy v s (e ∷ es)

-- no cause stands against any of the entries
pub data Writable : List Entry → Type 0 where
  none : Writable []
  more : {e : Entry} {es : List Entry} → record_cause e ≡ clear → Writable es → Writable (e ∷ es)
