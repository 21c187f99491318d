-- `rounding::round::size` meets its contract: the leading zeros of a word and its digits make 64. Assumes nothing.
use mathlib.Core.Path.{◌≡◌, ◌∙◌}
use Prim.Native.Nat.{ℕ, zero, suc, ◌+◌, ◌-◌, ◌*◌, ◌^◌, ◌≤◌, ◌<◌}
use native.Mathlib.Nat.{le_antisymm, pow-suc}
use native.Mathlib.Omega.{arith}
use lib.Count.{count_leading_zeros, leading_le, leading_length}
use lib.Ieee.{size}
use lib.Ieee.Digits.{size-le}
use Rattle.rounding.proofs.Size.{size_least}
use Rattle.rounding.proofs.round.size.Goals as goal

digits : (x : ℕ) → x < 2 ^ 64 → 64 - count_leading_zeros 64 x ≡ size x
digits x h =
    let l = leading_length 64 x h in
    let e : 64 - count_leading_zeros 64 x ≡ l.0 = omega (arith, l.1) in
    e ∙ le_antisymm (go l.0 l.3) (size-le x l.0 l.2)
  where
    go : (m : ℕ) → 2 ^ m ≤ 2 * x + 1 → m ≤ size x
    go zero b = omega arith
    go (suc n) b = size_least x n (omega (arith, pow-suc 2 n))

pub overflow_sub-result : goal.overflow_sub-result
overflow_sub-result c = leading_le 64 c.args.x

pub returns : goal.returns
returns c = digits c.args.x c.ranges.x.fits
