-- `outcome::masks::digits` meets its contract: its two masks are those of no digit and of some. Assumes nothing.
use mathlib.Core.Path.{refl}
use Prim.Native.Nat.{◌+◌, ◌-◌, ◌<◌}
use native.Mathlib.Omega.{arith}
use lib.Pow.{pow_pos, pow-lt}
use Rattle.bits.proofs.Laws.{one_shl}
use Rattle.outcome.proofs.Topped.{digits_none, digits_of}
use Rattle.outcome.proofs.masks.digits.Goals as goal

pub overflow_sub-result : goal.overflow_sub-result
overflow_sub-result c = rw (one_shl c.args.n (omega arith)) (pow_pos c.args.n)

pub returns-then-count-eq0 : goal.returns-then-count-eq0
returns-then-count-eq0 c = rw (c.if-count-eq0.true, one_shl c.args.n (omega arith)) (digits_none c.args.n)

pub topped-requires : goal.topped-requires
topped-requires c =
    let a = c.args in
    (omega (arith, c.if-count-eq0.false), pow-lt {i = 0} {j = a.n + 1 - a.count} (omega arith), pow_pos (a.count - 1), pow_pos (a.count - 1))

pub returns : goal.returns
returns c =
    let a = c.args in
    let some : 0 < a.count = omega (arith, c.if-count-eq0.false) in
    rw c.topped.ensures
    (digits_of a.n a.count (a.n - a.count) (a.count - 1) (omega arith) (omega arith) (a.n + 1 - a.count) (a.count - 1) (omega arith) refl)
