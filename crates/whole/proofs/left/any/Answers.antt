-- `whole::left::any` meets its contract. Assumes nothing.
use Rattle.chain.proofs.Words.{mem_or}
use Rattle.whole.proofs.left.any.Goals as goal

pub returns : goal.returns
returns c i =
    let p = c.args.p in
    mem_or p.zero p.one i
