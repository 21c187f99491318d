-- `layout::job_with` meets its contract. Assumes nothing.
use Rattle.layout.proofs.job_with.Goals as goal

pub returns : goal.returns
returns c = cc
