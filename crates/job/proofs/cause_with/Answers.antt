-- `job::cause_with` meets its contract: where the form of a job is refused the rest does not count. Assumes nothing.
use Rattle.std.proofs.Common.{rules}
use Rattle.job.proofs.Laws.{form_supported}
use Rattle.job.proofs.cause_with.Goals as goal

pub job_ends_cause-requires : goal.job_ends_cause-requires
job_ends_cause-requires c = form_supported c.args.job (search rules)

pub job_bounds_cause-requires : goal.job_bounds_cause-requires
job_bounds_cause-requires c = form_supported c.args.job (search rules)
