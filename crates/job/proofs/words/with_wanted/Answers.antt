-- `job::words::with_wanted` meets its contract. Assumes nothing.
use Rattle.job.proofs.words.with_wanted.Goals as goal

pub returns-in-A : goal.returns-in-A
returns-in-A c = cc

pub returns-in-B : goal.returns-in-B
returns-in-B c = cc

pub returns-in-C : goal.returns-in-C
returns-in-C c = cc
