-- `pass::span::after` meets its contract, by `field_answered`. Assumes nothing.
use mathlib.Core.Bool.{◌&&◌, and-eq-true_iff}
use mathlib.Core.Logic.{inl, inr}
use mathlib.Core.Path.{subst}
use Prim.Native.Nat.{ℕ, ◌-◌}
use native.Mathlib.Omega.{arith}
use lib.Dec.{eqb, ltb, leb}
use borrow.Author.Tests.{eqb-true, ltb-true, leb-true}
use Rattle.special.specs.Asked.{field_is, PairFits}
use Rattle.pass.proofs.Spans.{field_answered}
use Rattle.pass.proofs.span.after.Goals as goal

pub returns-then-ea-ones : goal.returns-then-ea-ones
returns-then-ea-ones c =
    let a = c.args in
    let t = (and-eq-true_iff (eqb a.ea.0 (a.pass.past.0 - 1)) (ltb a.eb.0 (a.pass.past.0 - 1))).0 c.if-ea-ones.true in
    let one = eqb-true a.ea.0 (a.pass.past.0 - 1) t.0 in
    let two = ltb-true a.eb.0 (a.pass.past.0 - 1) t.1 in
    (two, λ valid met none d from to. field_answered a.job valid a.ea a.eb d (inr (omega (arith, c.requires.1), omega (arith, c.requires.1))) (inr (omega (arith, c.requires.1), omega (arith, c.requires.1))) met none)

pub returns-then-ea-ones-2 : goal.returns-then-ea-ones-2
returns-then-ea-ones-2 c =
    let a = c.args in
    let near = c.saturating_sub-past_far.result in
    let t = (and-eq-true_iff (ltb a.ea.0 (a.pass.past.0 - 1) && leb 1 a.eb.0) (ltb a.eb.0 near)).0 c.if-ea-ones-2.true in
    let u = (and-eq-true_iff (ltb a.ea.0 (a.pass.past.0 - 1)) (leb 1 a.eb.0)).0 t.0 in
    let finite = ltb-true a.ea.0 (a.pass.past.0 - 1) u.0 in
    let some = leb-true 1 a.eb.0 u.1 in
    let below = ltb-true a.eb.0 near t.1 in
    let is = c.saturating_sub-past_far.ensures in
    let gap = c.far_gap.ensures.1 in
    (below, λ valid met none d from to. field_answered a.job valid a.ea a.eb d (inl (some, omega arith, omega (arith, c.requires.1))) (inl (omega arith, omega arith, omega (arith, c.requires.1))) met none)

pub returns : goal.returns
returns c =
    let a = c.args in
    (omega arith, λ valid met none d from to. subst (λ (n : ℕ). PairFits a.job a.ea (field_is n) → ⊥) (omega arith) none)
