-- `chain::walk::any` meets its contract. Assumes nothing.
use Rattle.chain.proofs.Sets.{any_flag}
use Rattle.chain.proofs.walk.any.Goals as goal

pub returns : goal.returns
returns c i b e = any_flag i b c.args.at e
