-- The measure is the number of bits still to be chosen.
use Rattle.search.proofs.walk.+follow_bits.Given as goal

abbrev pub decreases-follow_bits : goal.decreases-follow_bits
decreases-follow_bits l = l.count
