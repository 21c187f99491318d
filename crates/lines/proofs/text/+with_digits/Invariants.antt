-- The measure is the number of digits.
use Rattle.lines.proofs.text.+with_digits.Given as goal

abbrev pub decreases-with_digits : goal.decreases-with_digits
decreases-with_digits l = l.k
