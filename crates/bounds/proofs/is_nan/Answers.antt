-- `bounds::is_nan` meets its contract. Assumes nothing.
use mathlib.Core.Path.{ap₂}
use lib.Dec.{ltb}
use Rattle.bounds.proofs.is_nan.Goals as goal

pub returns : goal.returns
returns c = ap₂ ltb (c.infinity_word.ensures.0 c.requires) c.low.ensures
