-- The count of a program's lines. Assumes nothing.
use Rattle.std.specs.Prelude.{ℕ, ◌+◌, ◌%◌, ◌^◌, Bool, cond}
use Rattle.tally.specs.declared.Count.{Count}

-- one more, from 2^64 on again from 0
abbrev pub one_more : ℕ → ℕ
one_more n = (n + 1) % 2 ^ 64

-- the count after a line that is as expected or is not
abbrev pub counted : Count → Bool → Count
counted c ok = record { lines = one_more c.lines; wrong = cond ok c.wrong (one_more c.wrong) }
