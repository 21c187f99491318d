-- `rounding::mode::cancelled_sign` meets its contract. Assumes nothing.
use borrow.Author.Tests.{eq-eqb, ne_eqb}
use Rattle.rounding.specs.Rounding.{cancelled_sign}
use Rattle.rounding.proofs.mode.cancelled_sign.Goals as goal

pub returns-then-mode-eq3 : goal.returns-then-mode-eq3
unfolding cancelled_sign
returns-then-mode-eq3 c = rw (eq-eqb _ _ c.if-mode-eq3.true)

pub returns-else-mode-eq3 : goal.returns-else-mode-eq3
unfolding cancelled_sign
returns-else-mode-eq3 c = rw (ne_eqb _ _ c.if-mode-eq3.false)
