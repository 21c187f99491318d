-- `fit::fits` meets its contract. Assumes nothing.
use mathlib.Core.Bool.{◌&&◌}
use mathlib.Core.Path.{ap₂}
use Rattle.fit.specs.Fit.{fits}
use Rattle.fit.proofs.fits.Goals as goal

pub returns : goal.returns
unfolding fits
returns c = ap₂ ◌&&◌ c.right.ensures c.satisfies.ensures
