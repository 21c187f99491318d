-- `whole::walk::with_mask` meets its contract. Assumes nothing.
use Rattle.whole.proofs.walk.with_mask.Goals as goal

pub returns-in-X : goal.returns-in-X
returns-in-X c = cc

pub returns-in-Y : goal.returns-in-Y
returns-in-Y c = cc

pub returns-in-Z : goal.returns-in-Z
returns-in-Z c = cc
