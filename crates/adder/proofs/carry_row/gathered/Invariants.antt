-- `adder::carry_row::gathered` meets its contract. The invariant: the row has the carries of the positions passed. Assumes nothing.
use Rattle.std.proofs.Common.{◌≡◌}
use Rattle.adder.specs.Row.{gather, carry_in}
use Rattle.adder.proofs.carry_row.gathered.Given as goal

abbrev pub invariant-loop-i : goal.invariant-loop-i
invariant-loop-i l = l.row ≡ gather l.i (carry_in l.like l.l l.r l.s)
