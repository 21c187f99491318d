-- `chain::walk::second` meets its contract: a mask that fixes every bit, and one that fixes none. Assumes nothing.
use mathlib.Core.Path.{◌∙◌}
use Rattle.chain.proofs.Link.{second_way}
use Rattle.chain.proofs.walk.second.Goals as goal

pub returns : goal.returns
returns c i cin cout b h = c.adder.ensures i cin cout b h ∙ second_way c.args.z c.args.constant i h cin cout b
