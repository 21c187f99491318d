-- `outcome::subnormal::past_zero` meets its contract. Assumes nothing.
use mathlib.Core.Path.{◌≡◌, ap, ◌∙◌, subst}
use Prim.Native.Nat.{ℕ, ◌+◌, ◌-◌, ◌%◌, ◌^◌}
use native.Mathlib.Omega.{arith}
use borrow.Author.Tests.{not-true, not-false}
use Rattle.mask.specs.declared.Mask.{Mask}
use Rattle.making.proofs.Made.{aligned_lt}
use Rattle.outcome.proofs.BelowNormal.{none_subnormal, found_like, found_fraction, fixed_normal}
use Rattle.outcome.proofs.subnormal.past_zero.Goals as goal

pub overflow_add-place : goal.overflow_add-place
overflow_add-place c = omega (arith, aligned_lt c.args.format.f c.args.aligned c.requires.1)

pub returns-then-place-unit : goal.returns-then-place-unit
returns-then-place-unit c = λ formed x made some met. some

pub overflow_sub-small : goal.overflow_sub-small
overflow_sub-small c = omega (arith, c.if-place-unit.false)

pub overflow_add-result : goal.overflow_add-result
overflow_add-result c = omega (arith, aligned_lt c.args.format.f c.args.aligned c.requires.1)

pub returns-then-target-ne0 : goal.returns-then-target-ne0
returns-then-target-ne0 c =
    let a = c.args in
    λ formed x made some serves. fixed_normal a.format a.mode a.sign a.unit a.aligned a.target (a.format.f + a.aligned.below - a.unit.0) (omega (arith, c.if-place-unit.false)) c.if-target-ne0.true x serves

pub exact-requires : goal.exact-requires
exact-requires c = omega (arith, c.saturating_sub.ensures, aligned_lt c.args.format.f c.args.aligned c.requires.1)

pub returns-then-not-exact : goal.returns-then-not-exact
returns-then-not-exact c = λ formed x made some met. some

pub subnormal-requires : goal.subnormal-requires
subnormal-requires c = (c.requires.0, c.requires.1, omega (arith, c.if-place-unit.false))

pub overflow_add-result-then-not-subnormal : goal.overflow_add-result-then-not-subnormal
overflow_add-result-then-not-subnormal c = omega (arith, aligned_lt c.args.format.f c.args.aligned c.requires.1)

pub returns-then-not-subnormal : goal.returns-then-not-subnormal
returns-then-not-subnormal c =
    let a = c.args in
    let k = c.saturating_sub in
    let exact = c.exact in
    let r = c.subnormal in
    λ formed. none_subnormal a.format c.requires.0.supported a.mode a.sign a.unit a.aligned a.target c.if-target-ne0.false (a.format.f + a.aligned.below - a.unit.0)
    (omega (arith, c.if-place-unit.false))
    (λ x made. subst (λ (j : ℕ). x % 2 ^ j ≡ 0) k.ensures (exact.ensures (not-false exact.result c.if-not-exact.false-raw) a.format.f x made))
    r.result (r.ensures formed) (not-true r.result c.if-not-subnormal.true-raw)

pub returns-then-aligned : goal.returns-then-aligned
returns-then-aligned c =
    let a = c.args in
    let k = c.saturating_sub in
    let exact = c.exact in
    let r = c.subnormal in
    λ formed. found_like a.format c.requires.0.supported a.mode a.sign a.unit a.aligned a.target c.if-target-ne0.false (a.format.f + a.aligned.below - a.unit.0)
    (omega (arith, c.if-place-unit.false))
    (λ x made. subst (λ (j : ℕ). x % 2 ^ j ≡ 0) k.ensures (exact.ensures (not-false exact.result c.if-not-exact.false-raw) a.format.f x made))
    r.result (r.ensures formed) (not-false r.result c.if-not-subnormal.false-raw) c.if-aligned.true

pub returns-then-low-ne0 : goal.returns-then-low-ne0
returns-then-low-ne0 c =
    let a = c.args in
    let k = c.saturating_sub in
    let exact = c.exact in
    let r = c.subnormal in
    λ formed. found_fraction a.format c.requires.0.supported a.mode a.sign a.unit a.aligned a.target c.if-target-ne0.false (a.format.f + a.aligned.below - a.unit.0)
    (omega (arith, c.if-place-unit.false))
    (λ x made. subst (λ (j : ℕ). x % 2 ^ j ≡ 0) k.ensures (exact.ensures (not-false exact.result c.if-not-exact.false-raw) a.format.f x made))
    r.result (r.ensures formed) (not-false r.result c.if-not-subnormal.false-raw)
    (λ z. c.if-low-ne0.true (ap (λ (m : Mask). m.value) c.low.ensures ∙ z))

pub returns : goal.returns
returns c = λ formed x made some met. some
