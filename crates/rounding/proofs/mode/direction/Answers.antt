-- `rounding::mode::direction` meets its contract: mode 2 + s is the one that is s above 2. Assumes nothing.
use Prim.Native.Nat.{◌+◌}
use native.Mathlib.Omega.{arith}
use borrow.Author.Tests.{eq-eqb, ne_eqb}
use Rattle.rounding.specs.Rounding.{direction}
use Rattle.rounding.proofs.mode.direction.Goals as goal

pub returns-then-mode-eq0 : goal.returns-then-mode-eq0
unfolding direction
returns-then-mode-eq0 c = rw (eq-eqb _ _ c.if-mode-eq0.true)

pub returns-then-mode-eq4 : goal.returns-then-mode-eq4
unfolding direction
returns-then-mode-eq4 c = rw (ne_eqb _ _ c.if-mode-eq0.false, eq-eqb _ _ c.if-mode-eq4.true)

pub returns-then-mode-lt2 : goal.returns-then-mode-lt2
unfolding direction
returns-then-mode-lt2 c =
    let a = c.args in
    rw (ne_eqb _ _ c.if-mode-eq0.false, ne_eqb _ _ c.if-mode-eq4.false, ne_eqb a.mode (2 + a.sign) (λ e. omega (arith, c.if-mode-lt2.true)))

pub returns-then-mode-sign : goal.returns-then-mode-sign
unfolding direction
returns-then-mode-sign c =
    let a = c.args in
    rw (ne_eqb _ _ c.if-mode-eq0.false, ne_eqb _ _ c.if-mode-eq4.false, eq-eqb a.mode (2 + a.sign) (omega (arith, c.if-mode-sign.true, c.if-mode-lt2.false)))

pub returns-else-mode-sign : goal.returns-else-mode-sign
unfolding direction
returns-else-mode-sign c =
    let a = c.args in
    rw (ne_eqb _ _ c.if-mode-eq0.false, ne_eqb _ _ c.if-mode-eq4.false, ne_eqb a.mode (2 + a.sign) (λ e. c.if-mode-sign.false (omega arith)))
