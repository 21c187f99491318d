-- `pass::span::sum_from` meets its contract, by `no_sum`. Assumes nothing.
use Prim.Native.Nat.{◌-◌}
use native.Mathlib.Omega.{arith}
use Rattle.special.specs.Asked.{field_is}
use Rattle.pass.proofs.Spans.{no_sum}
use Rattle.pass.proofs.span.sum_from.Goals as goal

pub returns-then-larger-far_gap : goal.returns-then-larger-far_gap
returns-then-larger-far_gap c = (omega arith, λ valid is o E e from to. absurd (omega arith))

pub near_from-near-requires : goal.near_from-near-requires
near_from-near-requires c = c.requires

pub returns : goal.returns
returns c =
    let a = c.args in
    let near = c.near_from-near in
    let over = c.max.ensures in
    let large = c.if-larger-far_gap.false in
    let gap = c.far_gap.ensures.1 in (
      omega arith,
      λ valid is o E e from to.
          no_sum a.job valid a.pass.end is.end (field_is (a.larger.0 - 1)) near.result near.ensures.0 (near.ensures.1 valid is) o E e (omega (arith, large)) (omega (arith, large)) (omega arith),
    )
