-- `chain::walk::walk` meets its contract. The loop's invariant: the set in hand stands in column i and is the set that the table leads to
-- after i columns. Where the loop is left early the set is empty, and stays so. Assumes nothing.
use mathlib.Core.Path.{◌≡◌}
use Rattle.chain.specs.Ways.{mem}
use Rattle.chain.specs.Walk.{flags}
use Rattle.chain.proofs.Sets.{reached}
use Rattle.chain.proofs.walk.walk.Given as goal

abbrev pub invariant-loop : goal.invariant-loop
invariant-loop l = l.at ≡ flags (reached l.table (mem l.set) l.counter) l.counter
