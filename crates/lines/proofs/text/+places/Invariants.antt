-- What is left of n falls.
use Rattle.lines.proofs.text.+places.Given as goal

abbrev pub decreases-places : goal.decreases-places
decreases-places l = l.n
