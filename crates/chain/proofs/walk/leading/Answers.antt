-- `chain::walk::leading` meets its contract. Assumes nothing.
use mathlib.Core.Bool.{true, false}
use Rattle.chain.proofs.walk.leading.Goals as goal

pub returns : goal.returns
returns c i false false = c.meet.ensures i
returns c i true false = c.meet-2.ensures i
returns c i false true = c.meet-3.ensures i
returns c i true true = c.meet-4.ensures i
