-- `chain::ways::open` meets its contract. Assumes nothing.
use borrow.Author.Rules.{rules}
use mathlib.Core.Bool.{true, false}
use Rattle.chain.proofs.Words.{lets_zero, lets_one}
use Rattle.chain.proofs.ways.open.Goals as goal

pub returns : goal.returns
returns c i true h = lets_one c.args.m i h (search rules) (search rules)
returns c i false h = lets_zero c.args.m i h (search rules)
