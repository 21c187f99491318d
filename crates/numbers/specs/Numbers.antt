-- Several numbers as bytes, one after the other, each of its own byte count (document 01, "Job files"). A number of no bytes is 0.
-- Assumes nothing.
use Rattle.std.specs.Prelude.{ℕ, ◌+◌, List, [], ◌∷◌, ◌++◌, take, drop}
use Rattle.numbers.specs.Number.{little_endian, number}

-- how many bytes the numbers have together
unfoldable pub total : List ℕ → ℕ
total [] = 0
total (k ∷ ks) = k + total ks

-- the bytes of the numbers, by their byte counts
unfoldable pub number_bytes : List ℕ → List ℕ → List ℕ
number_bytes [] ns = []
number_bytes (k ∷ ks) [] = []
number_bytes (k ∷ ks) (n ∷ ns) = little_endian k n ++ number_bytes ks ns

-- the numbers that bytes stand for, by their byte counts
unfoldable pub numbers : List ℕ → List ℕ → List ℕ
numbers [] s = []
numbers (k ∷ ks) s = number (take k s) ∷ numbers ks (drop k s)
