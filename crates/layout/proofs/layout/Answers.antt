-- `layout::layout` meets its contract: the two tables are the same. Assumes nothing.
use mathlib.Core.Path.{refl}
use Rattle.layout.specs.Fields.{with_default, layout}
use Rattle.layout.proofs.layout.Goals as goal

pub returns : goal.returns
unfolding layout with_default
returns c = refl
