-- `chain::walk::gather` meets its contract: each summand is a digit at its own place. Assumes nothing.
use Rattle.chain.proofs.Sets.{gather_mem}
use Rattle.chain.proofs.walk.gather.Goals as goal

pub returns : goal.returns
returns c i b e =
    gather_mem i b c.args.at c.one.result c.one-2.result c.one-3.result c.one-4.result e
    c.one.ensures.1
    c.one-2.ensures.1
    c.one-3.ensures.1
    c.one-4.ensures.1
