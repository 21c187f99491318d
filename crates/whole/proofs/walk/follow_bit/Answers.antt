-- `whole::walk::follow_bit` meets its contract: the bit is fixed already, follows the word or is the other, by the laws of one step. Assumes nothing.
use mathlib.Core.Path.{sym, ◌∙◌, subst}
use mathlib.Core.Bool.{false≢true}
use Prim.Native.Nat.{◌-◌}
use native.Mathlib.Omega.{arith}
use borrow.Author.Tests.{not-true, not-false}
use Rattle.bits.proofs.Laws.{bit_lt}
use Rattle.choice.proofs.NextBit.{next_fixed, next_word, next_other}
use Rattle.whole.specs.declared.Masks.{Masks}
use Rattle.whole.specs.Fits.{Fits, Left}
use Rattle.whole.specs.Walk.{walk_of, walk_state}
use Rattle.whole.proofs.Walking.{tried_formed}
use Rattle.whole.proofs.walk.follow_bit.Goals as goal

pub returns-then-not-free : goal.returns-then-not-free
returns-then-not-free c =
    let a = c.args in
    next_fixed (walk_of a.n a.s a.role) a.word (walk_state a.state) c.requires.1 c.free.ensures (not-true c.free.result c.if-not-free.true-raw)

pub left-requires : goal.left-requires
left-requires c =
    let a = c.args in
    let v = c.bit_at-v.result in (
      c.requires.0.ready.most,
      tried_formed a.n a.s a.role a.state c.requires.0 c.requires.1 v (omega (arith, c.bit_at-v.ensures, bit_lt a.word (a.state.open_bits - 1))) c.fix-tried.result c.fix-tried.ensures c.with_mask.result c.with_mask.ensures,
    )

pub returns-then-left : goal.returns-then-left
returns-then-left c =
    let a = c.args in
    let left : Left a.n c.with_mask.result = c.left.ensures.0 c.if-left.true in
    next_word (walk_of a.n a.s a.role) a.word (walk_state a.state) c.requires.1 c.free.ensures (not-false c.free.result c.if-not-free.false-raw)
    c.bit_at-v.result c.bit_at-v.ensures c.fix-tried.result c.fix-tried.ensures
    left.case (subst (λ (t : Masks). Fits a.n t left.case) c.with_mask.ensures left.fits) tt tt

pub overflow_sub-v : goal.overflow_sub-v
overflow_sub-v c =
    let a = c.args in
    omega (arith, c.bit_at-v.ensures, bit_lt a.word (a.state.open_bits - 1))

pub returns : goal.returns
returns c =
    let a = c.args in
    let none : Left a.n c.with_mask.result → ⊥ = λ p. false≢true (sym c.if-left.false ∙ c.left.ensures.1 p) in
    next_other (walk_of a.n a.s a.role) a.word (walk_state a.state) c.requires.1 c.free.ensures (not-false c.free.result c.if-not-free.false-raw)
    c.bit_at-v.result c.bit_at-v.ensures c.fix-tried.result c.fix-tried.ensures
    (λ d fits. none (record { case = d; fits = subst (λ (t : Masks). Fits a.n t d) (sym c.with_mask.ensures) fits })) c.fix.result c.fix.ensures
