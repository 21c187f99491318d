-- `chain::ways::turned_ways` meets its contract. Assumes nothing.
use mathlib.Core.Bool.{true, false}
use Rattle.chain.proofs.ways.turned_ways.Goals as goal

pub returns : goal.returns
returns c false false = c.turned.ensures
returns c false true = c.turned-2.ensures
returns c true false = c.turned-3.ensures
returns c true true = c.turned-4.ensures
