-- `whole::job_cause` meets its contract: a length that is refused names 12 before the masks and the words are looked at. Assumes nothing.
use Rattle.std.proofs.Common.{rules, ◌≡◌, true}
use native.Mathlib.Omega.{arith}
use Rattle.format.specs.Limits.{least_length, most_length, within}
use Rattle.format.proofs.Laws.{within_holds}
use Rattle.whole.proofs.job_cause.Goals as goal

pub overflow_add-length : goal.overflow_add-length
overflow_add-length c =
    let w : within least_length most_length c.args.job.length ≡ true = search rules in
    record { fits = omega (arith, ((within_holds least_length most_length c.args.job.length).0 w).1) }
