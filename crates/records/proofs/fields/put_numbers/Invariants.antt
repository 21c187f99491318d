-- `records::fields::put_numbers` meets its contract. The bytes of the numbers that are left find room from `next` on, and with them put there the
-- buffer is the one that is asked for. Assumes nothing.
use Rattle.std.proofs.Common.{◌≡◌, ◌+◌, ◌≤◌, length}
use Rattle.std.specs.Iterator.Adapters.{zip_first, zip_second}
use Rattle.std.specs.Slice.Iter.{iter_rest}
use Rattle.numbers.specs.Number.{put}
use Rattle.numbers.specs.Numbers.{total, number_bytes}
use Rattle.records.proofs.fields.put_numbers.Given as goal

abbrev pub invariant-loop-k : goal.invariant-loop-k
invariant-loop-k l =
    (l.next + total (iter_rest (zip_first l.k-iterator)) ≤ length l.buffer)
    × (put l.buffer l.next (number_bytes (iter_rest (zip_first l.k-iterator)) (iter_rest (zip_second l.k-iterator)))
    ≡ put l.initial.buffer l.at (number_bytes l.sizes l.numbers))
