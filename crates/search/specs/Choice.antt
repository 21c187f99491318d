-- The operands that two random words choose (document 01, "Masks and choice": "the smallest a exclusive-or the first word, .. and then the
-- smallest b exclusive-or the second"). Assumes nothing.
use Rattle.search.specs.declared.Pair.{Pair}
use Rattle.std.specs.Prelude.{ℕ, Option, Some, None}
use Rattle.choice.specs.Choice.{ClosestPair}
use Rattle.job.specs.declared.Job.{Job}
use Rattle.fit.specs.Fit.{Fitting}
use Rattle.left.specs.Left.{Ready}

-- the closest operands of a fitting case, or nothing where the job is not valid or no case is left
abbrev pub Chosen : Job → ℕ → ℕ → Option Pair → Type 0
Chosen j r1 r2 (Some p) = Ready j × ClosestPair (Fitting j) r1 r2 p.a p.b
Chosen j r1 r2 None = Ready j → ⊥
