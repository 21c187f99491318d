-- `chain::walk::lead` meets its contract. Assumes nothing.
use Rattle.chain.proofs.Sets.{lead_flag}
use Rattle.chain.proofs.walk.lead.Goals as goal

pub returns : goal.returns
returns c i b e =
    let a = c.args in
    lead_flag i b a.at a.to e
