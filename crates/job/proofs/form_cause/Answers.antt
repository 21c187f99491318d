-- `job::form_cause` meets its contract: the masks are looked at only in a setting against which no cause stands. Assumes nothing.
use Rattle.std.proofs.Common.{rules}
use Rattle.job.proofs.Laws.{setting_none}
use Rattle.job.proofs.form_cause.Goals as goal

pub job_masks_cause-requires : goal.job_masks_cause-requires
job_masks_cause-requires c = ((setting_none c.args.job.setting).0 (search rules)).format
