-- `whole::generate` meets its contract: a job that names a cause is refused with it; of the others the walk over the columns tells whether a
-- case is left, and the walks over the bits choose it. Assumes nothing.
use Rattle.std.proofs.Common.{rules, ◌≡◌, refl, sym, ◌∙◌}
use mathlib.Core.Bool.{false≢true}
use mathlib.Core.Logic.{inr}
use Rattle.format.specs.Cause.{clear}
use Rattle.whole.specs.Job.{job_cause}
use Rattle.whole.proofs.Taken.{job_none}
use Rattle.whole.proofs.generate.Goals as goal

pub left-requires : goal.left-requires
left-requires c =
    let t = (job_none c.args.job).0 (search rules) in
    (t.most, t.formed)

pub choose-requires : goal.choose-requires
choose-requires c =
    let t = (job_none c.args.job).0 (search rules) in
    record { least = t.least; most = t.most; formed = t.formed; left = c.left.ensures.0 c.if-left.true }

pub returns : goal.returns
returns c =
    inr (
      record { taken = let none : job_cause c.args.job ≡ clear = search rules in none; none = λ p. false≢true (sym c.if-left.false ∙ c.left.ensures.1 p) },
      refl,
    )
