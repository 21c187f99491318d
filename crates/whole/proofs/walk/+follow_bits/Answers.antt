-- The proof of the cycle of calls {follow_bits}. The measure is the number of bits still to be chosen: one is, by `follow_bit`, and the rest
-- from the state that it leaves. Assumes nothing.
use native.Mathlib.Omega.{arith}
use Rattle.steps.proofs.Steps.{leads_none, leads_first}
use Rattle.whole.specs.declared.walk.State.{State}
use Rattle.whole.specs.Walk.{NextState}
use Rattle.whole.proofs.Walking.{next_open}
use Rattle.whole.proofs.walk.+follow_bits.Goals as goal

pub returns-then-count-eq0 : goal.returns-then-count-eq0
returns-then-count-eq0 t c =
    let a = c.args in
    leads_none State (NextState a.n a.s a.role a.word) a.count a.state c.if-count-eq0.true

pub follow_bit-next-requires : goal.follow_bit-next-requires
follow_bit-next-requires t c =
    (c.requires.0, omega (arith, c.requires.1, c.if-count-eq0.false))

pub overflow_sub-count : goal.overflow_sub-count
overflow_sub-count t c =
    omega (arith, c.if-count-eq0.false)

pub follow_bits-requires : goal.follow_bits-requires
follow_bits-requires t c =
    let a = c.args in
    let step = c.follow_bit-next.ensures in (
      omega (arith, c.if-count-eq0.false),
      (next_open a.n a.s a.role a.word a.state c.follow_bit-next.result c.requires.0 step, omega (arith, c.requires.1, step.one_less)),
    )

pub returns : goal.returns
returns t c =
    let a = c.args in
    leads_first State (NextState a.n a.s a.role a.word) a.count a.state c.follow_bit-next.result c.follow_bits.result c.if-count-eq0.false c.follow_bit-next.ensures c.follow_bits.ensures
