-- `rounding::round::round_off` meets its contract: rounding off is adding a constant and a carry (proofs/AddConstant). Assumes nothing.
use mathlib.Core.Path.{sym, ap₂, ◌∙◌}
use Prim.Native.Nat.{ℕ, ◌+◌, ◌/◌, ◌^◌, ◌<◌}
use native.Mathlib.Omega.{arith}
use lib.Pow.{pow_mono}
use Rattle.bits.proofs.Laws.{bit_lt}
use Rattle.rounding.proofs.AddConstant.{round_off_adds, rounding_constant_lt, rounding_carry_lt}
use Rattle.rounding.proofs.round.round_off.Goals as goal

pub overflow_add-x : goal.overflow_add-x
overflow_add-x c =
    let k = c.args.k in
    omega (arith, c.constant.ensures.0 (omega arith), rounding_constant_lt c.args.direction k, pow_mono {i = k} {j = 62} (omega arith))

pub overflow_add-x-2 : goal.overflow_add-x-2
overflow_add-x-2 c =
    let k = c.args.k in
    let last = c.bit_at-last in
    let b : last.result < 2 = rw last.ensures (bit_lt c.args.x k) in
    omega (arith, c.constant.ensures.0 (omega arith), rounding_constant_lt c.args.direction k, pow_mono {i = k} {j = 62} (omega arith), c.carry.ensures, rounding_carry_lt c.args.direction k last.result b)

pub returns : goal.returns
returns c =
    let d = c.args.direction in
    let x = c.args.x in
    let k = c.args.k in
    let last = c.bit_at-last in
    c.high.ensures
    ∙ ap₂ (λ (m n : ℕ). (x + m + n) / 2 ^ k) (c.constant.ensures.0 (omega arith)) c.carry.ensures
    ∙ sym (round_off_adds d x k last.result (sym last.ensures))
