-- `chain::ways::turned` meets its contract: the definition, by the test. Assumes nothing.
use mathlib.Core.Path.{sym, ap}
use mathlib.Core.Bool.{Bool}
use Rattle.chain.specs.Ways.{turned_of}
use Rattle.chain.proofs.ways.turned.Goals as goal

pub returns-then-turn : goal.returns-then-turn
returns-then-turn c = ap (λ (b : Bool). turned_of b c.args.p) (sym c.if-turn.true)

pub returns-else-turn : goal.returns-else-turn
returns-else-turn c = ap (λ (b : Bool). turned_of b c.args.p) (sym c.if-turn.false)
