-- What a reader of a job file draws (document 01, "Job files": "The listing program draws its jobs through a reader that carries the lent
-- file along"): what stands at an offset of the file, and the offset after it. Assumes nothing.
use Rattle.std.specs.Prelude.{ℕ, ◌+◌, List, drop, Some, None, Ok, Err}
use Rattle.records.specs.Record.{First, first_in}
use Rattle.reader.specs.declared.Drawn.{Drawn}

-- how many bytes what stands first takes: a record its length, an end or a refused record none ("the rest .. begins at the refused record")
abbrev pub taken : First → ℕ
taken (Ok None) = 0
taken (Ok (Some (e, n))) = n
taken (Err k) = 0

-- what stands at the offset `at` of a file, and the offset after it
abbrev pub drawn_at : List ℕ → ℕ → Drawn
drawn_at s at = record { first = first_in (drop at s); next = at + taken (first_in (drop at s)) }
