-- `outcome::small` meets its contract: the quotient is below 4, and the mask refuses 1, 2 and 3. Assumes nothing.
use mathlib.Core.Path.{◌≡◌, subst}
use mathlib.Core.Bool.{false, false≢true}
use Prim.Native.Nat.{ℕ, ◌+◌, ◌-◌, ◌^◌, ◌<◌}
use native.Mathlib.Omega.{arith}
use borrow.Author.Tests.{not-true}
use Rattle.rounding.specs.Width.{aligned_bits}
use Rattle.outcome.proofs.Range.{high_tested, refused_some}
use Rattle.outcome.proofs.small.Goals as goal

-- two bits more
width : (q f : ℕ) → 0 < q → aligned_bits q f ≡ 2 + (f + q - 1)
width q f some = omega arith

pub returns-then-meets : goal.returns-then-meets
returns-then-meets c = λ e. absurd (false≢true e)

pub returns-then-meets-2 : goal.returns-then-meets-2
returns-then-meets-2 c = λ e. absurd (false≢true e)

pub returns : goal.returns
returns c =
    let a = c.args in
    let h = c.high-above in
    λ e n below met. refused_some (a.f + a.below - 1) n a.m met
    (high_tested 1 (a.f + a.below - 1) a.m h.result c.meets.result false h.ensures c.meets.ensures c.if-meets.false)
    (high_tested 2 (a.f + a.below - 1) a.m h.result c.meets-2.result false h.ensures c.meets-2.ensures c.if-meets-2.false)
    (high_tested 3 (a.f + a.below - 1) a.m h.result c.meets-3.result false h.ensures c.meets-3.ensures (not-true c.meets-3.result e))
    (subst (λ (k : ℕ). n < 2 ^ k) (width a.below a.f c.requires.0) below)
