-- `print::print_listing`: what is printed so far becomes a listing of the file by any text for the rest of it, and every line brings the listing
-- nearer to its end. Assumes nothing.
use Rattle.std.proofs.Common.{ℕ, List, ◌++◌}
use Rattle.std.specs.Io.KnownBytes.{Appends}
use Rattle.lines.specs.Listing.{Listing}
use Rattle.print.proofs.Steps.{Left, lines_left}
use Rattle.print.proofs.print_listing.Given as goal

abbrev pub invariant-loop-next : goal.invariant-loop-next
invariant-loop-next g l =
    (t : List ℕ) × Appends (g.W.Write.contents l.initial.out) (g.W.Write.contents l.out) t
    × ((u : List ℕ) → Left l.file l.next u → Listing l.file (t ++ u))

abbrev pub decreases-loop-next : goal.decreases-loop-next
decreases-loop-next g l = lines_left l.file l.next
