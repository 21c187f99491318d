-- `job::words::masked_job` meets its contract. Assumes nothing.
use Rattle.job.proofs.words.masked_job.Goals as goal

pub returns : goal.returns
returns c = cc
