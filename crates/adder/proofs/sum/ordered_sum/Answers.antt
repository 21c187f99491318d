-- `adder::sum::ordered_sum` meets its contract: the aligned significands hold the exact sum and difference (proofs/AlignedSum), which are
-- then rounded. Assumes nothing.
use mathlib.Core.Path.{◌≡◌, sym, ap, ◌∙◌}
use Prim.Native.Nat.{ℕ, ◌+◌, ◌-◌}
use native.Mathlib.Omega.{arith}
use lib.Pow.{pow_pos}
use Rattle.word.specs.Word.{signed}
use Rattle.word.specs.Operand.{magnitude}
use Rattle.rounding.specs.Sticky.{Roundable}
use Rattle.rounding.specs.Width.{guard_bits}
use Rattle.word.proofs.Canonical.{gap_le}
use Rattle.rounding.proofs.Rounded.{cancelled_lt}
use Rattle.adder.proofs.AlignedSum.{aligned_sum}
use Rattle.adder.proofs.FiniteSum.{sum_like, sum_unlike, sum_cancelled}
use Rattle.adder.proofs.sum.ordered_sum.Goals as goal

pub overflow_sub-u : goal.overflow_sub-u
overflow_sub-u c =
    gap_le c.args.format c.args.l c.args.r c.requires.1 c.requires.2 c.requires.3 c.unit_of-u.result c.unit_of-v.result c.unit_of-u.ensures c.unit_of-v.ensures

pub overflow_add-head : goal.overflow_add-head
overflow_add-head c =
    let F = c.args.format in
    let l = c.args.l in
    let r = c.args.r in
    let A = aligned_sum F guard_bits 1 (omega arith) (omega arith) l r c.requires.0 c.requires.1 c.requires.2 c.requires.3 c.unit_of-u.result c.unit_of-v.result c.unit_of-u.ensures c.unit_of-v.ensures c.aligned-head.result c.aligned-tail.result c.aligned-head.ensures.0 c.aligned-tail.ensures.0 in
    record { fits = A.sum_fits }

pub overflow_sub-head : goal.overflow_sub-head
overflow_sub-head c =
    let F = c.args.format in
    let l = c.args.l in
    let r = c.args.r in
    let A = aligned_sum F guard_bits 1 (omega arith) (omega arith) l r c.requires.0 c.requires.1 c.requires.2 c.requires.3 c.unit_of-u.result c.unit_of-v.result c.unit_of-u.ensures c.unit_of-v.ensures c.aligned-head.result c.aligned-tail.result c.aligned-head.ensures.0 c.aligned-tail.ensures.0 in
    A.tail_le

pub returns-then-l-r : goal.returns-then-l-r
returns-then-l-r c =
    let F = c.args.format in
    let l = c.args.l in
    let r = c.args.r in
    let A = aligned_sum F guard_bits 1 (omega arith) (omega arith) l r c.requires.0 c.requires.1 c.requires.2 c.requires.3 c.unit_of-u.result c.unit_of-v.result c.unit_of-u.ensures c.unit_of-v.ensures c.aligned-head.result c.aligned-tail.result c.aligned-head.ensures.0 c.aligned-tail.ensures.0 in
    let R : Roundable F l.sign (c.aligned-head.result + c.aligned-tail.result) c.unit_of-u.result.0 = record { supported = c.requires.0; sign_lt = c.requires.1.sign_lt; unit_lt = A.unit_lt; held_lt = A.sum_lt } in
    c.rounded.ensures.0 R (magnitude l + magnitude r) A.sum_held ∙ sym (sum_like F c.args.mode l r c.if-l-r.true)

pub returns-then-head-tail : goal.returns-then-head-tail
returns-then-head-tail c =
    let F = c.args.format in
    let l = c.args.l in
    let r = c.args.r in
    let A = aligned_sum F guard_bits 1 (omega arith) (omega arith) l r c.requires.0 c.requires.1 c.requires.2 c.requires.3 c.unit_of-u.result c.unit_of-v.result c.unit_of-u.ensures c.unit_of-v.ensures c.aligned-head.result c.aligned-tail.result c.aligned-head.ensures.0 c.aligned-tail.ensures.0 in
    let zero = c.cancelled_sign in
    c.signed.ensures.0 (record { supported = c.requires.0; sign_lt = rw zero.ensures (cancelled_lt c.args.mode); magnitude_lt = pow_pos (F.w + F.f) })
    ∙ ap (λ (n : ℕ). signed F n 0) zero.ensures
    ∙ sym (sum_cancelled F c.args.mode l r c.if-l-r.false (A.equal.1 c.if-head-tail.true))

pub returns-else-head-tail : goal.returns-else-head-tail
returns-else-head-tail c =
    let F = c.args.format in
    let l = c.args.l in
    let r = c.args.r in
    let A = aligned_sum F guard_bits 1 (omega arith) (omega arith) l r c.requires.0 c.requires.1 c.requires.2 c.requires.3 c.unit_of-u.result c.unit_of-v.result c.unit_of-u.ensures c.unit_of-v.ensures c.aligned-head.result c.aligned-tail.result c.aligned-head.ensures.0 c.aligned-tail.ensures.0 in
    let ne : magnitude l ≡ magnitude r → ⊥ = λ e. c.if-head-tail.false (A.equal.0 e) in
    let R : Roundable F l.sign (c.aligned-head.result - c.aligned-tail.result) c.unit_of-u.result.0 = record { supported = c.requires.0; sign_lt = c.requires.1.sign_lt; unit_lt = A.unit_lt; held_lt = omega (arith, A.sum_lt) } in
    c.rounded-else-head-tail.ensures.0 R (magnitude l - magnitude r) A.difference_held
    ∙ sym (sum_unlike F c.args.mode l r c.if-l-r.false (omega (arith, c.requires.3, ne)))
