-- The listing of a job file (document 01, "Cases, in hexadecimal", from "The listing program" on): which line comes next, and what comes
-- after it. A place is the offset of the next record, the count of the lines before, and whether reading has stopped. Assumes nothing.
use Rattle.format.specs.Cause.{number}
use Rattle.generator.specs.declared.Case.{Case}
use Rattle.format.specs.declared.cause.Cause.{Cause}
use Rattle.std.specs.Prelude.{◌≡◌, Bool, true, false, ◌⊎◌, ℕ, ◌+◌, ◌≤◌, ◌<◌, List, [], ◌∷◌, ◌++◌, length, drop, Option, Some, None, Result, Ok, Err}
use Rattle.format.specs.declared.cause.Cause.TheVariants as cause
use Rattle.records.specs.Record.{first_in}
use Rattle.layout.specs.declared.Entry.{Entry}
use Rattle.generator.specs.Promise.{Replied}
use Rattle.lines.specs.Text.{reply_line, refused_line, end_line, long_line}
use Rattle.lines.specs.declared.Place.{Place}

-- the longest file that is listed, in bytes; and a bound on the lines of its listing, since no record is empty
abbrev pub longest : ℕ
longest = 65536

-- "Another refusal prints `n refused k` .. and reading stops": other than 7
abbrev pub stops : Result Case Cause → Bool
stops (Ok x) = false
stops (Err cause.NoCase) = false
stops (Err k) = true

-- a record is to be read at the place: reading has not stopped, and the count is one that a listing can have
pub record Reading (p : Place) : Type 0 where
  pub reading : p.stopped ≡ false
  pub most : p.lines ≤ longest

-- no record is read at the place p of the file s: reading has stopped, no listing has so many lines, or no byte is left
abbrev pub Ended : List ℕ → Place → Type 0
Ended s p = (p.stopped ≡ true) ⊎ ((longest < p.lines) ⊎ (first_in (drop p.at s) ≡ Ok None))

-- the line that comes next at the place p of the file s, and what comes after it
pub data Lists (s : List ℕ) (p : Place) : List ℕ → Option Place → Type 0 where
  -- "one over 65,536 bytes prints only `long`"
  long : longest < length s → Lists s p long_line None
  -- "`end` is the last line .. and gives the count of the lines before it"
  end : length s ≤ longest → Ended s p → Lists s p (end_line p.lines) None
  -- a record that is refused in reading: the line counts, and reading stops
  refused : {k : Cause} → length s ≤ longest → Reading p → first_in (drop p.at s) ≡ Err k
      → Lists s p (refused_line (p.lines + 1) (number k)) (Some (record { at = p.at; lines = p.lines + 1; stopped = true }))
  -- a job: the line for the generator's reply to it
  answered : {e : Entry} {n : ℕ} (r : Result Case Cause) → length s ≤ longest → Reading p → first_in (drop p.at s) ≡ Ok (Some (e, n)) → Replied e.job e.r1 e.r2 r
      → Lists s p (reply_line e.job.setting.format (p.lines + 1) r) (Some (record { at = p.at + n; lines = p.lines + 1; stopped = stops r }))

-- all the text from the place p on
pub data Listed (s : List ℕ) : Place → List ℕ → Type 0 where
  last : {p : Place} {t : List ℕ} → Lists s p t None → Listed s p t
  more : {p q : Place} {t u : List ℕ} → Lists s p t (Some q) → Listed s q u → Listed s p (t ++ u)

-- the first line's place
abbrev pub start : Place
start = record { at = 0; lines = 0; stopped = false }

-- the text that is printed for a file
abbrev pub Listing : List ℕ → List ℕ → Type 0
Listing s t = Listed s start t

-- the text for these entries, each with the line for its reply, after n lines: then the end
pub data Lines : ℕ → List Entry → List ℕ → Type 0 where
  none : {n : ℕ} → Lines n [] (end_line n)
  next : {n : ℕ} {e : Entry} {es : List Entry} {t : List ℕ} (r : Result Case Cause) → Replied e.job e.r1 e.r2 r → Lines (n + 1) es t
      → Lines n (e ∷ es) (reply_line e.job.setting.format (n + 1) r ++ t)
