-- `fit::satisfies` meets its contract. Assumes nothing.
use mathlib.Core.Bool.{◌&&◌}
use mathlib.Core.Path.{ap₂}
use Rattle.fit.specs.Fit.{satisfies}
use Rattle.fit.proofs.satisfies.Goals as goal

pub returns : goal.returns
unfolding satisfies
returns c =
    ap₂ ◌&&◌
    (ap₂ ◌&&◌ (ap₂ ◌&&◌ (ap₂ ◌&&◌ c.allowed.ensures c.allowed-2.ensures) c.allowed-3.ensures) c.carries_meet.ensures)
    c.dropped_meet.ensures
