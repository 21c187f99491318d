-- `bounds::lies_between` meets its contract. Assumes nothing.
use mathlib.Core.Path.{ap, ap₂}
use mathlib.Core.Bool.{Bool, not, ◌&&◌}
use lib.Dec.{leb}
use Rattle.bounds.proofs.lies_between.Goals as goal

pub returns : goal.returns
returns c =
    let ok = c.requires in
    let at = c.rank-at.ensures.0 ok in
    ap₂ (λ (s t : Bool). s && t) (ap not c.is_nan.ensures)
    (ap₂ (λ (s t : Bool). s && t) (ap₂ leb (c.rank.ensures.0 ok) at) (ap₂ leb at (c.rank-2.ensures.0 ok)))
