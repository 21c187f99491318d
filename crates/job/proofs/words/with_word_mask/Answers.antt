-- `job::words::with_word_mask` meets its contract. Assumes nothing.
use Rattle.job.proofs.words.with_word_mask.Goals as goal

pub returns : goal.returns
returns c = cc
