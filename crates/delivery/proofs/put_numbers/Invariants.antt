-- `delivery::put_numbers` meets its contract: after i turns the first i numbers are put. Assumes nothing.
use Rattle.std.proofs.Common.{◌≡◌, take}
use Rattle.numbers.specs.Number.{put}
use Rattle.delivery.specs.Answer.{bytes_of}
use Rattle.delivery.proofs.put_numbers.Given as goal

abbrev pub invariant-loop-i : goal.invariant-loop-i
invariant-loop-i l = l.out ≡ put l.initial.out 0 (bytes_of (take l.i l.given))
