-- The promise of the case generator: the reply to a job and two random words, by cases (document 01, "Masks and choice", "Causes and
-- replies"). `Fits` tells a fitting case by sums, and no search stands in it. Assumes nothing.
use Rattle.format.specs.declared.cause.Cause.{Cause}
use Rattle.std.specs.Prelude.{◌≡◌, ◌⊎◌, ℕ, Result, Ok, Err}
use Rattle.format.specs.declared.cause.Cause.TheVariants as cause
use Rattle.format.specs.Cause.{clear}
use Rattle.choice.specs.Choice.{ClosestPair}
use Rattle.job.specs.declared.Job.{Job}
use Rattle.job.specs.Job.{request_cause}
use Rattle.fit.specs.Fit.{result_in, row_in, Fits, Fitting}
use Rattle.generator.specs.declared.Case.{Case}

-- the case of two operands: "c follows from a and b", and so does the row
abbrev pub case_of : Job → ℕ → ℕ → Case
case_of j a b = record { a = a; b = b; c = result_in j.setting a b; row = row_in j.setting a b }

-- x fits and has its row, and every other fitting case has a larger a exclusive-or the first word, or the same a and a larger b
-- exclusive-or the second
pub record Chosen (j : Job) (r1 r2 : ℕ) (x : Case) : Type 0 where
  pub fits : Fits j x.a x.b x.c
  pub row : x.row ≡ row_in j.setting x.a x.b
  pub closest : ClosestPair (Fitting j) r1 r2 x.a x.b

-- no cause stands, and no three words fit
pub record None (j : Job) (r1 r2 : ℕ) : Type 0 where
  pub taken : request_cause j r1 r2 ≡ clear
  pub none : (a b c : ℕ) → Fits j a b c → ⊥

-- a found case is the chosen one of a job that is taken; a refusal is the first cause, or 7 where no case fits
abbrev pub Replied : Job → ℕ → ℕ → Result Case Cause → Type 0
Replied j r1 r2 (Ok x) = (request_cause j r1 r2 ≡ clear) × Chosen j r1 r2 x
Replied j r1 r2 (Err k) = (request_cause j r1 r2 ≡ Err k) ⊎ (None j r1 r2 × (k ≡ cause.NoCase))
