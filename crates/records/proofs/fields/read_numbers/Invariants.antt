-- `records::fields::read_numbers` meets its contract. After i turns the first i numbers are in place, and the others are what the bytes from
-- `at` on stand for. Assumes nothing.
use Rattle.std.proofs.Common.{◌≡◌, ◌+◌, ◌++◌, take, drop}
use Rattle.numbers.specs.Numbers.{total, numbers}
use Rattle.records.proofs.fields.read_numbers.Given as goal

abbrev pub invariant-loop-i : goal.invariant-loop-i
invariant-loop-i l =
    (l.at + total (drop l.i l.sizes) ≡ total l.sizes)
    × (take l.i l.into ++ numbers (drop l.i l.sizes) (drop l.at l.s) ≡ numbers l.sizes l.s)
