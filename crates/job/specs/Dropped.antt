-- What a job wants of the bits that rounding drops (document 02, W-206): "A fifth mask fixes any of the dropped bits and the sticky bit".
-- Assumes nothing.
use Rattle.std.specs.Prelude.{cond, ◌&&◌, ◌+◌, ◌≤◌, eqb, leb}
use Rattle.format.specs.declared.cause.Cause.TheVariants as cause
use Rattle.format.specs.Cause.{Check, unless}
use Rattle.format.specs.Limits.{most_dropped}
use Rattle.mask.specs.Mask.{WellFormed, well_formed, free_mask}
use Rattle.job.specs.declared.Dropped.{Dropped}
use Rattle.job.specs.declared.Job.{Job}

-- "17, g above 8 or this mask malformed": it has a bit for each of the g dropped bits and the sticky bit
unfoldable pub dropped_cause : Dropped → Check
dropped_cause D = unless (leb D.g most_dropped && well_formed (D.g + 1) D.mask) cause.DroppedMask

-- that cause does not stand
pub record ValidDropped (D : Dropped) : Type 0 where
  pub g_most : D.g ≤ most_dropped
  pub mask : WellFormed (D.g + 1) D.mask

-- nothing is wanted of the dropped bits, and no g is carried
abbrev pub free_dropped : Dropped
free_dropped = record { g = 0; mask = free_mask }

-- "a job that fixes none of these bits carries no g: one that a caller gives all the same is tested for 17 and then taken as 0"
unfoldable pub normalised : Dropped → Dropped
normalised D = record { g = cond (eqb D.mask.care 0) 0 D.g; mask = D.mask }

-- the job with something else wanted of the dropped bits
abbrev pub with_dropped : Job → Dropped → Job
with_dropped j D = record { setting = j.setting; a = j.a; b = j.b; c = j.c; carries = j.carries; dropped = D }

-- the job with its g taken so
abbrev pub normalised_job : Job → Job
normalised_job j = with_dropped j (normalised j.dropped)
