-- `layout::entry_with` meets its contract. Assumes nothing.
use Rattle.layout.proofs.entry_with.Goals as goal

pub returns : goal.returns
returns c = cc
