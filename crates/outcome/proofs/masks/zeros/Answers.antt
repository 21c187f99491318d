-- `outcome::masks::zeros` meets its contract: a mask whose low part fixes all bits, to 0. Assumes nothing.
use mathlib.Core.Bool.{false≢true}
use Prim.Native.Nat.{◌-◌, ◌*◌, ◌%◌, ◌^◌}
use borrow.Author.Tests.{eqb-true}
use lib.Pow.{pow_pos}
use Rattle.bits.proofs.Laws.{one_shl}
use Rattle.making.proofs.Zeros.{zeros_meets_low}
use Rattle.outcome.proofs.masks.zeros.Goals as goal

pub returns-then-low-ne0 : goal.returns-then-low-ne0
returns-then-low-ne0 c = λ e. absurd (false≢true e)

pub overflow_sub-result : goal.overflow_sub-result
overflow_sub-result c = rw (one_shl c.args.j c.requires) (pow_pos c.args.j)

pub returns : goal.returns
returns c =
    let a = c.args in
    let l = c.low-low in
    λ e. zeros_meets_low a.j a.m l.result l.ensures c.if-low-ne0.false
    (rw (one_shl a.j c.requires) at (eqb-true l.result.care ((1 * 2 ^ a.j) % 2 ^ 64 - 1) e))
