-- `numbers::number_at` meets its contract. The loop goes down from the last byte; what is passed is read as a number. Assumes nothing.
use Rattle.std.proofs.Common.{◌≡◌, ◌+◌, ◌-◌, take, drop}
use Rattle.numbers.specs.Number.{number}
use Rattle.numbers.proofs.number_at.Given as goal

abbrev pub invariant-loop-i : goal.invariant-loop-i
invariant-loop-i l = l.n ≡ number (take (l.k - l.i) (drop (l.at + l.i) l.s))
