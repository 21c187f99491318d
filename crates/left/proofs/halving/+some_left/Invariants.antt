-- The measure is what the masks leave open.
use Rattle.left.specs.Narrower.{openness}
use Rattle.left.proofs.halving.+some_left.Given as goal

abbrev pub decreases-some_left : goal.decreases-some_left
decreases-some_left l = openness l.job
