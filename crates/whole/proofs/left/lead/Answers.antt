-- `whole::left::lead` meets its contract. Assumes nothing.
use Rattle.whole.proofs.Ways.{lead_flag}
use Rattle.whole.proofs.left.lead.Goals as goal

pub returns : goal.returns
returns c i b e =
    let a = c.args in
    lead_flag i b a.set e a.to
