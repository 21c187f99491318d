-- The reply to a job, by cases (document 01, "Causes and replies"). Assumes nothing.
use Rattle.whole.specs.declared.Case.{Case}
use Rattle.format.specs.declared.cause.Cause.{Cause}
use Rattle.std.specs.Prelude.{◌≡◌, ◌⊎◌, Result, Ok, Err}
use Rattle.format.specs.declared.cause.Cause.TheVariants as cause
use Rattle.whole.specs.declared.Job.{Job}
use Rattle.format.specs.Cause.{clear}
use Rattle.whole.specs.Job.{job_cause}
use Rattle.whole.specs.Fits.{Left}
use Rattle.whole.specs.Choice.{Chosen}

-- the job is taken and has no case
pub record None (J : Job) : Type 0 where
  pub taken : job_cause J ≡ clear
  pub none : Left J.length J.masks → ⊥

-- a found case is the chosen one of a job that is taken; a refusal is the first cause, or 7 exactly where no case fits
abbrev pub Replied : Job → Result Case Cause → Type 0
Replied J (Ok c) = (job_cause J ≡ clear) × Chosen J.length J.masks J.words c
Replied J (Err k) = (job_cause J ≡ Err k) ⊎ (None J × (k ≡ cause.NoCase))
