-- The proof of the cycle of calls {follow_bits}. The measure is the number of bits still to be chosen: one is, by `follow_bit`, and the rest
-- from the state that it leaves. Assumes nothing.
use native.Mathlib.Omega.{arith}
use Rattle.steps.proofs.Steps.{leads_none, leads_first}
use Rattle.search.specs.declared.walk.State.{State}
use Rattle.search.specs.Walk.{NextState}
use Rattle.search.proofs.Walking.{next_started}
use Rattle.search.proofs.walk.+follow_bits.Goals as goal

pub returns-then-count-eq0 : goal.returns-then-count-eq0
returns-then-count-eq0 t c =
    let a = c.args in
    λ o. leads_none State (NextState a.job a.role a.word) a.count a.state c.if-count-eq0.true

pub follow_bit-next-requires : goal.follow_bit-next-requires
follow_bit-next-requires t c =
    (c.requires.0, omega (arith, c.requires.1, c.if-count-eq0.false))

pub overflow_sub-count : goal.overflow_sub-count
overflow_sub-count t c =
    omega (arith, c.if-count-eq0.false)

pub follow_bits-requires : goal.follow_bits-requires
follow_bits-requires t c = (
  omega (arith, c.if-count-eq0.false),
  (c.requires.0, omega (arith, c.requires.1, c.follow_bit-next.ensures.0)),
)

pub returns : goal.returns
returns t c =
    let a = c.args in
    λ o.
    let next = c.follow_bit-next.ensures.1 o in
    leads_first State (NextState a.job a.role a.word) a.count a.state c.follow_bit-next.result c.follow_bits.result c.if-count-eq0.false next
    (c.follow_bits.ensures (next_started a.job a.role a.state o a.word c.follow_bit-next.result next))
