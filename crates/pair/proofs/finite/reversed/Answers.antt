-- `pair::finite::reversed` meets its contract. Assumes nothing.
use mathlib.Core.Path.{refl}
use Rattle.pair.proofs.finite.reversed.Goals as goal

pub returns : goal.returns
returns c = refl
