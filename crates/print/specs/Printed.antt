-- What is on a stream once a listing is printed. Assumes nothing.
use Rattle.std.specs.Prelude.{ℕ, List, Option}
use Rattle.std.specs.Io.KnownBytes.{Appends}
use Rattle.lines.specs.Listing.{Listing}

-- the bytes that the stream held, where they are known, are followed by a listing of the file s
abbrev pub Prints : List ℕ → Option (List ℕ) → Option (List ℕ) → Type 0
Prints s old new = (t : List ℕ) × Listing s t × Appends old new t
