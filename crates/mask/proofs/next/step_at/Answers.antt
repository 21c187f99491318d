-- `mask::next::step_at` meets its contract: the leading zeros tell the highest position at which n breaks the mask, and the trailing zeros of
-- one more than the bits of n and care from there on how far the next 0 of both is above it. Assumes nothing.
use mathlib.Core.Path.{sym, ◌∙◌}
use Prim.Native.Nat.{ℕ, ◌+◌}
use native.Mathlib.Omega.{arith}
use lib.Bits.{bit_or}
use lib.Count.{trailing_le}
use lib.Pow.{shr_le}
use Rattle.mask.specs.declared.Mask.{Mask}
use Rattle.mask.proofs.Stepping.{highest, leading_few, top_highest, either_lt, step_here, step_ones}
use Rattle.mask.proofs.next.step_at.Goals as goal

pub overflow_sub-top : goal.overflow_sub-top
overflow_sub-top c =
    leading_few c.args.m c.args.n c.requires.0 c.requires.1 c.requires.2

pub returns-then-bit_at-eq1 : goal.returns-then-bit_at-eq1
returns-then-bit_at-eq1 c =
    let m : Mask = c.args.m in
    let n : ℕ = c.args.n in (
      omega arith,
      step_here m n (highest m n) c.requires.0.inside (top_highest m n c.requires.0 c.requires.1 c.requires.2) (sym c.bit_at.ensures ∙ c.if-bit_at-eq1.true),
    )

pub overflow_add-result : goal.overflow_add-result
overflow_add-result c =
    let m : Mask = c.args.m in
    let n : ℕ = c.args.n in
    omega (arith, c.high-above.ensures, shr_le (bit_or n m.care) (highest m n), either_lt m n c.requires.0 c.requires.1 c.requires.2)

pub overflow_cast-result : goal.overflow_cast-result
overflow_cast-result c = omega (arith, trailing_le 64 (c.high-above.result + 1))

pub overflow_add-result-2 : goal.overflow_add-result-2
overflow_add-result-2 c = omega (arith, trailing_le 64 (c.high-above.result + 1))

pub returns : goal.returns
returns c =
    step_ones c.args.m c.args.n c.requires.0 c.requires.1 c.requires.2 c.high-above.result c.high-above.ensures
    (λ e. c.if-bit_at-eq1.false (c.bit_at.ensures ∙ e))
