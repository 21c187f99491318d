-- `pair::signs::signs_left` meets its contract. Assumes nothing.
use mathlib.Core.Bool.{◌||◌}
use Rattle.pair.specs.Signs.{signs_left}
use Rattle.pair.proofs.signs.signs_left.Goals as goal

pub returns : goal.returns
unfolding signs_left
returns c =
    (λ i. c.sign_left.ensures i || c.sign_left-2.ensures i || c.sign_left-3.ensures i || c.sign_left-4.ensures i)
