-- `classes::far_gap` meets its contract. Assumes nothing.
use Rattle.std.proofs.Common.{ℕ, ◌+◌, ap, arith}
use Rattle.job.proofs.GuardLaws.{reach_most}
use Rattle.classes.proofs.far_gap.Goals as goal

pub overflow_add-result : goal.overflow_add-result
overflow_add-result c = omega (arith, c.reach.ensures, reach_most c.args.job)

pub returns : goal.returns
returns c =
    let j = c.args.job in
    (omega (arith, c.reach.ensures, reach_most j), ap (λ (n : ℕ). n + 3) c.reach.ensures)
