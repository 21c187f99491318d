-- `pass::field::far_end` meets its contract: where no signs are left for finite operands by `signs_none`, where all classes are closed by the
-- contract of `all_closed`, else by `only_zero`. Assumes nothing.
use mathlib.Core.Logic.{inl}
use mathlib.Core.Path.{sym, ◌∙◌}
use Prim.Native.Nat.{◌-◌}
use native.Mathlib.Omega.{arith}
use lib.Pow.{pow_pos}
use borrow.Author.Tests.{not-true}
use Rattle.special.specs.Asked.{field_is}
use Rattle.pair.proofs.LikeSigns.{signs_none}
use Rattle.pass.proofs.Spans.{only_far, only_zero}
use Rattle.pass.proofs.field.far_end.Goals as goal

pub overflow_sub-pass : goal.overflow_sub-pass
overflow_sub-pass c = omega (arith, pow_pos c.args.job.setting.format.w, c.requires.1)

pub returns-then-not-pass : goal.returns-then-not-pass
returns-then-not-pass c =
    let a = c.args in
    let over = c.max.ensures in (
      omega arith,
      λ valid is kept d e from to P.
          only_far a.job valid d e (omega (arith, c.requires.1))
          (λ finite. absurd (signs_none a.job valid d e (record { supported = valid.setting.format; a_finite = omega (arith, c.requires.1); b_finite = finite }) (sym is.signs ∙ not-true a.pass.signs c.if-not-pass.true) P)) P,
    )

pub returns-then-ea-gap : goal.returns-then-ea-gap
returns-then-ea-gap c = (omega arith, λ valid is kept d e from to. absurd (omega arith))

pub overflow_sub-gap : goal.overflow_sub-gap
overflow_sub-gap c = omega (arith, c.if-ea-gap.false, c.far_gap-gap.ensures.1)

pub returns-then-all_closed : goal.returns-then-all_closed
returns-then-all_closed c =
    let a = c.args in
    let one = c.saturating_sub.ensures in
    let two = c.max-then-all_closed.ensures in
    let large = c.if-ea-gap.false in
    let gap = c.far_gap-gap.ensures.1 in (
      omega arith,
      λ valid is kept d e from to P.
          let none = c.all_closed.ensures c.if-all_closed.true valid kept a.pass.end is.end in
          only_far a.job valid d e (is.end d d (inl (omega (arith, large))) (omega arith)).1
          (λ l. (omega (arith, large), λ near. none d e (omega (arith, large)) (omega arith) (omega arith) P)) P,
    )

pub returns-then-pass : goal.returns-then-pass
returns-then-pass c = (omega arith, λ valid is kept d e from to. absurd (omega arith))

pub overflow_sub-ea : goal.overflow_sub-ea
overflow_sub-ea c = omega (arith, c.if-ea-gap.false, c.far_gap-gap.ensures.1)

pub near_from-near-requires : goal.near_from-near-requires
near_from-near-requires c = c.requires.0

pub overflow_sub-gap-2 : goal.overflow_sub-gap-2
overflow_sub-gap-2 c = omega (arith, c.if-ea-gap.false, c.far_gap-gap.ensures.1)

pub returns : goal.returns
returns c =
    let a = c.args in
    let near = c.near_from-near in
    let one = c.saturating_sub-2.ensures in
    let two = c.max-2.ensures in
    let large = c.if-ea-gap.false in
    let gap = c.far_gap-gap.ensures.1 in
    let never = c.if-pass.false in (
      omega arith,
      λ valid is kept d e from to P.
          let zero = only_zero a.job valid a.pass.end is.end (field_is (a.ea.0 - c.far_gap-gap.result)) near.result near.ensures.0 (near.ensures.1 valid is) d e (omega (arith, large)) (omega (arith, large)) (omega arith) in
          only_far a.job valid d e (is.end d d (inl (omega (arith, large))) (omega (arith, near.ensures.0))).1 (λ l. (omega (arith, large), λ nearer. is.zero never (zero nearer P))) P,
    )
