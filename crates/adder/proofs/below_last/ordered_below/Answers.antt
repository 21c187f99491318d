-- `adder::below_last::ordered_below` meets its contract: the aligned significands hold the exact sum and difference (proofs/AlignedSum).
-- Assumes nothing.
use mathlib.Core.Path.{sym, ◌∙◌}
use Prim.Native.Nat.{◌+◌, ◌-◌}
use native.Mathlib.Omega.{arith}
use Rattle.format.specs.Limits.{most_dropped}
use Rattle.word.specs.Operand.{magnitude}
use Rattle.word.proofs.Canonical.{gap_le}
use Rattle.adder.proofs.AlignedSum.{Aligned, aligned_sum}
use Rattle.adder.proofs.BelowLaws.{below_like, below_unlike}
use Rattle.adder.proofs.below_last.ordered_below.Goals as goal

pub overflow_sub-u : goal.overflow_sub-u
overflow_sub-u c =
    gap_le c.args.format c.args.l c.args.r c.requires.2 c.requires.3 c.requires.4 c.unit_of-u.result c.unit_of-v.result c.unit_of-u.ensures c.unit_of-v.ensures

pub overflow_add-head : goal.overflow_add-head
overflow_add-head c =
    let known : Aligned c.args.format (most_dropped + 2) most_dropped c.args.l
    c.args.r c.unit_of-u.result c.aligned-head.result
    c.aligned-tail.result = aligned_sum c.args.format (most_dropped + 2) most_dropped (omega arith) (omega arith) c.args.l c.args.r c.requires.0 c.requires.2 c.requires.3 c.requires.4
    c.unit_of-u.result c.unit_of-v.result c.unit_of-u.ensures c.unit_of-v.ensures c.aligned-head.result c.aligned-tail.result c.aligned-head.ensures.0 c.aligned-tail.ensures.0 in
    record { fits = (known).sum_fits }

pub held_below-requires : goal.held_below-requires
held_below-requires c =
    let known : Aligned c.args.format (most_dropped + 2) most_dropped c.args.l
    c.args.r c.unit_of-u.result c.aligned-head.result
    c.aligned-tail.result = aligned_sum c.args.format (most_dropped + 2) most_dropped (omega arith) (omega arith) c.args.l c.args.r c.requires.0 c.requires.2 c.requires.3 c.requires.4
    c.unit_of-u.result c.unit_of-v.result c.unit_of-u.ensures c.unit_of-v.ensures c.aligned-head.result c.aligned-tail.result c.aligned-head.ensures.0 c.aligned-tail.ensures.0 in
    (c.requires.0, c.requires.1, (known).unit_lt)

pub overflow_sub-head : goal.overflow_sub-head
overflow_sub-head c =
    let known : Aligned c.args.format (most_dropped + 2) most_dropped c.args.l
    c.args.r c.unit_of-u.result c.aligned-head.result
    c.aligned-tail.result = aligned_sum c.args.format (most_dropped + 2) most_dropped (omega arith) (omega arith) c.args.l c.args.r c.requires.0 c.requires.2 c.requires.3 c.requires.4
    c.unit_of-u.result c.unit_of-v.result c.unit_of-u.ensures c.unit_of-v.ensures c.aligned-head.result c.aligned-tail.result c.aligned-head.ensures.0 c.aligned-tail.ensures.0 in
    (known).tail_le

pub held_below-requires-else-l-r : goal.held_below-requires-else-l-r
held_below-requires-else-l-r c =
    let known : Aligned c.args.format (most_dropped + 2) most_dropped c.args.l
    c.args.r c.unit_of-u.result c.aligned-head.result
    c.aligned-tail.result = aligned_sum c.args.format (most_dropped + 2) most_dropped (omega arith) (omega arith) c.args.l c.args.r c.requires.0 c.requires.2 c.requires.3 c.requires.4
    c.unit_of-u.result c.unit_of-v.result c.unit_of-u.ensures c.unit_of-v.ensures c.aligned-head.result c.aligned-tail.result c.aligned-head.ensures.0 c.aligned-tail.ensures.0 in
    (c.requires.0, c.requires.1, (known).unit_lt)

pub returns-then-l-r : goal.returns-then-l-r
returns-then-l-r c =
    let known : Aligned c.args.format (most_dropped + 2) most_dropped c.args.l
    c.args.r c.unit_of-u.result c.aligned-head.result
    c.aligned-tail.result = aligned_sum c.args.format (most_dropped + 2) most_dropped (omega arith) (omega arith) c.args.l c.args.r c.requires.0 c.requires.2 c.requires.3 c.requires.4
    c.unit_of-u.result c.unit_of-v.result c.unit_of-u.ensures c.unit_of-v.ensures c.aligned-head.result c.aligned-tail.result c.aligned-head.ensures.0 c.aligned-tail.ensures.0 in
    let a = c.args in
    c.held_below.ensures (magnitude a.l + magnitude a.r) (known).sum_held ∙ sym (below_like a.format a.g a.l a.r c.if-l-r.true)

pub returns-else-l-r : goal.returns-else-l-r
returns-else-l-r c =
    let known : Aligned c.args.format (most_dropped + 2) most_dropped c.args.l
    c.args.r c.unit_of-u.result c.aligned-head.result
    c.aligned-tail.result = aligned_sum c.args.format (most_dropped + 2) most_dropped (omega arith) (omega arith) c.args.l c.args.r c.requires.0 c.requires.2 c.requires.3 c.requires.4
    c.unit_of-u.result c.unit_of-v.result c.unit_of-u.ensures c.unit_of-v.ensures c.aligned-head.result c.aligned-tail.result c.aligned-head.ensures.0 c.aligned-tail.ensures.0 in
    let a = c.args in
    c.held_below-else-l-r.ensures (magnitude a.l - magnitude a.r) (known).difference_held
    ∙ sym (below_unlike a.format a.g a.l a.r c.if-l-r.false c.requires.4)
