-- Whether a case is left (document 01, "Masks and choice"). Assumes nothing.
use Rattle.std.specs.Prelude.{ℕ}
use Rattle.job.specs.declared.Job.{Job}
use Rattle.job.specs.Job.{Valid}
use Rattle.fit.specs.Fit.{Fits}

-- "a case is left": some three words fit
pub record Left (j : Job) : Type 0 where
  pub a : ℕ
  pub b : ℕ
  pub c : ℕ
  pub fits : Fits j a b c

-- and no cause stands against the job
pub record Ready (j : Job) : Type 0 where
  pub valid : Valid j
  pub left : Left j
