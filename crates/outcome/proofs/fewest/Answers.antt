-- `outcome::fewest` meets its contract: the mask of the larger significand refuses that its top bit is 0. Assumes nothing.
use mathlib.Core.Bool.{false}
use Prim.Native.Nat.{◌+◌}
use native.Mathlib.Omega.{arith}
use Rattle.making.proofs.Made.{aligned_lt}
use Rattle.outcome.proofs.Range.{high_tested, refused_none, made_like, made_unlike}
use Rattle.outcome.proofs.fewest.Goals as goal

pub overflow_add-f : goal.overflow_add-f
overflow_add-f c = omega (arith, aligned_lt c.args.f c.args.aligned c.requires)

pub overflow_add-result : goal.overflow_add-result
overflow_add-result c = omega (arith, aligned_lt c.args.f c.args.aligned c.requires)

pub overflow_add-result-then-aligned : goal.overflow_add-result-then-aligned
overflow_add-result-then-aligned c = omega (arith, aligned_lt c.args.f c.args.aligned c.requires)

pub returns-then-aligned : goal.returns-then-aligned
returns-then-aligned c =
    let a = c.args in
    let h = c.high in
    let m = c.meets in
    λ x made. made_like a.f a.aligned x made c.if-aligned.true
    (refused_none (a.f + a.aligned.below) made.H a.aligned.head made.head_meets (high_tested 0 (a.f + a.aligned.below) a.aligned.head h.result m.result false h.ensures m.ensures c.if-meets.false))

pub small-requires : goal.small-requires
small-requires c = (c.requires.some, aligned_lt c.args.f c.args.aligned c.requires)

pub overflow_add-result-then-small : goal.overflow_add-result-then-small
overflow_add-result-then-small c = omega (arith, aligned_lt c.args.f c.args.aligned c.requires)

pub returns-then-small : goal.returns-then-small
returns-then-small c =
    let a = c.args in
    let h = c.high in
    let m = c.meets in
    λ x made. made_unlike a.f a.aligned x made c.requires.some c.if-aligned.false
    (refused_none (a.f + a.aligned.below) made.H a.aligned.head made.head_meets (high_tested 0 (a.f + a.aligned.below) a.aligned.head h.result m.result false h.ensures m.ensures c.if-meets.false))
    (c.small.ensures c.if-small.true made.T made.tail_lt made.tail_meets)
