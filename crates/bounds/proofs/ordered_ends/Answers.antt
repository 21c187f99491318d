-- `bounds::ordered_ends` meets its contract. Assumes nothing.
use mathlib.Core.Path.{ap, ap₂}
use mathlib.Core.Bool.{Bool, not, ◌&&◌}
use lib.Dec.{leb}
use Rattle.bounds.proofs.ordered_ends.Goals as goal

pub returns : goal.returns
returns c =
    let ok = c.requires in
    ap₂ (λ (s t : Bool). s && t) (ap not c.is_nan.ensures)
    (ap₂ (λ (s t : Bool). s && t) (ap not c.is_nan-2.ensures) (ap₂ leb (c.rank.ensures.0 ok) (c.rank-2.ensures.0 ok)))
