-- `narrowing::decided` meets its contract. Assumes nothing.
use mathlib.Core.Path.{ap, ◌∙◌}
use mathlib.Core.Logic.{inl, inr}
use Prim.Native.Nat.{ℕ, ◌-◌}
use native.Mathlib.Omega.{arith}
use lib.Count.{count_leading_zeros}
use Rattle.narrowing.proofs.decided.Goals as goal

pub returns-then-within : goal.returns-then-within
returns-then-within c = inl c.if-within.true

pub returns-then-within-extent : goal.returns-then-within-extent
returns-then-within-extent c = inr (inl c.if-within-extent.true)

pub returns-then-extent-within : goal.returns-then-extent-within
returns-then-extent-within c = inr (inr c.if-extent-within.true)

pub returns-then-within-extent-2 : goal.returns-then-within-extent-2
returns-then-within-extent-2 c =
    let a = c.args.extent in
    let small = c.if-within-extent.false in
    let cut = c.if-within-extent-2.true in
    (omega arith, (λ e. omega (arith, small, cut, e)), c.highest-bit.ensures ∙ ap (λ (n : ℕ). 63 - count_leading_zeros 64 n) c.saturating_sub.ensures)

pub returns : goal.returns
returns c =
    let large = c.if-extent-within.false in
    let cut = c.if-within-extent-3.false in
    (omega arith, (λ e. omega (arith, large, cut, e)), c.highest-bit.ensures ∙ ap (λ (n : ℕ). 63 - count_leading_zeros 64 n) c.saturating_sub.ensures)
