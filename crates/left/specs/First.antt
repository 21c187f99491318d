-- Whether a case is left, and where the search for one stands: at the first pair of exponent fields that admits a case of the job without its
-- bounds. Assumes nothing.
use Rattle.std.specs.Prelude.{◌^◌, ◌≤◌, ◌<◌}
use Rattle.job.specs.declared.Job.{Job}
use Rattle.pass.specs.declared.Exponents.{Exponents}
use Rattle.pass.specs.First.{FirstPair}
use Rattle.left.specs.Left.{Left}

-- r is that pair, and a case is left; or it is past them all, and none is
pub record FirstLeft (j : Job) (r : Exponents) : Type 0 where
  pub first : r.a.0 < 2 ^ j.setting.format.w → FirstPair j r
  pub left : r.a.0 < 2 ^ j.setting.format.w → Left j
  pub none : 2 ^ j.setting.format.w ≤ r.a.0 → Left j → ⊥
