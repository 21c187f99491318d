-- `pair::finite::side_b` meets its contract: only the last bit of the operation counts. Assumes nothing.
use mathlib.Core.Bool.{false}
use mathlib.Core.Path.{◌≡◌, ap₂}
use Prim.Native.Nat.{ℕ, ◌+◌, ◌%◌}
use native.Mathlib.Omega.{arith}
use Rattle.mask.specs.declared.Mask.{Mask}
use Rattle.pair.specs.declared.Side.{Side}
use Rattle.pair.specs.Pair.{turned}
use Rattle.pair.proofs.finite.side_b.Goals as goal

pub returns : goal.returns
returns c =
    let a = c.args in
    let turn : (a.sign + a.job.setting.operation % 2) % 2 ≡ turned a.job.setting.operation a.sign = omega arith in
    ap₂ of turn c.fraction_mask-fraction.ensures
  where
    of : ℕ → Mask → Side
    of s m = record { lhs = false; sign = s; exponent = c.args.exponent; fraction = m }
