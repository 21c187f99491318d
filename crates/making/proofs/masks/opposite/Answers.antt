-- `making::masks::opposite` meets its contract. Assumes nothing.
use mathlib.Core.Path.{refl}
use Rattle.making.proofs.masks.opposite.Goals as goal

pub returns : goal.returns
returns c = refl
