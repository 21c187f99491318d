-- `left::halving::further` meets its contract. Assumes nothing.
use Rattle.left.proofs.halving.further.Goals as goal

pub returns-in-Across : goal.returns-in-Across
returns-in-Across c = rw c.in-Across.is c.higher.ensures
