-- `job::guards::guards` meets its contract. Assumes nothing.
use mathlib.Core.Path.{ap}
use native.Mathlib.Omega.{arith}
use Rattle.job.specs.declared.Dropped.{Dropped}
use Rattle.job.specs.Guards.{guards_of}
use Rattle.job.proofs.guards.guards.Goals as goal

pub returns-then-taken-eq0 : goal.returns-then-taken-eq0
unfolding guards_of
returns-then-taken-eq0 c =
    let g = ap (λ (D : Dropped). D.g) c.normalised-taken.ensures in
    omega (arith, g)

pub returns-else-taken-eq0 : goal.returns-else-taken-eq0
unfolding guards_of
returns-else-taken-eq0 c =
    let g = ap (λ (D : Dropped). D.g) c.normalised-taken.ensures in
    omega (arith, g)
