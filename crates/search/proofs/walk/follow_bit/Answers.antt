-- `search::walk::follow_bit` meets its contract: the bit is fixed already, follows the word or is the other, by the laws of one step. Assumes nothing.
use native.Mathlib.Omega.{arith}
use Prim.Native.Nat.{◌-◌}
use borrow.Author.Tests.{not-true, not-false}
use Rattle.bits.proofs.Laws.{bit_lt}
use Rattle.choice.proofs.NextBit.{next_fixed}
use Rattle.word.proofs.Bounds.{exponents}
use Rattle.search.specs.Walk.{walk_of, walk_state}
use Rattle.search.proofs.Walking.{word_next, other_next}
use Rattle.search.proofs.walk.follow_bit.Goals as goal

pub returns-then-not-free : goal.returns-then-not-free
returns-then-not-free c =
    let a = c.args in (
      omega (arith, c.requires.1),
      λ o. next_fixed (walk_of a.job a.role) a.word (walk_state a.state) c.requires.1 c.free.ensures (not-true c.free.result c.if-not-free.true-raw),
    )

pub returns-then-first-power : goal.returns-then-first-power
returns-then-first-power c =
    let a = c.args in
    let is = exponents a.job.setting.format c.requires.0 c.power.ensures in (
      omega (arith, c.requires.1),
      λ o.
          word_next a.job a.role a.state o c.requires.1 c.free.ensures (not-false c.free.result c.if-not-free.false-raw) a.word c.bit_at-v.result c.bit_at-v.ensures
          c.fix-tried.result c.fix-tried.ensures c.with_word_mask.result c.with_word_mask.ensures c.first_left-first.result c.first_left-first.ensures (omega (arith, is, c.if-first-power.true)),
    )

pub overflow_sub-v : goal.overflow_sub-v
overflow_sub-v c =
    let a = c.args in
    omega (arith, c.bit_at-v.ensures, bit_lt a.word (a.state.open_bits - 1))

pub returns : goal.returns
returns c =
    let a = c.args in
    let is = exponents a.job.setting.format c.requires.0 c.power.ensures in (
      omega (arith, c.requires.1),
      λ o.
          other_next a.job a.role a.state o c.requires.1 c.free.ensures (not-false c.free.result c.if-not-free.false-raw) a.word c.bit_at-v.result c.bit_at-v.ensures
          c.fix-tried.result c.fix-tried.ensures c.with_word_mask.result c.with_word_mask.ensures c.first_left-first.result c.first_left-first.ensures (omega (arith, is, c.if-first-power.false))
          c.fix.result c.fix.ensures,
    )
