-- `making::masks::both` meets its contract: the two masks are joined; where they clash no number meets both, nor a value outside care.
-- Assumes nothing.
use mathlib.Core.Path.{◌≡◌, sym, ◌∙◌}
use Prim.Native.Nat.{ℕ}
use native.Mathlib.Omega.{arith}
use lib.Bits.{and_zero_r}
use Rattle.mask.proofs.Replies.{join_meets, join_refused}
use Rattle.making.proofs.masks.both.Goals as goal

pub returns-in-Ok : goal.returns-in-Ok
returns-in-Ok c = λ x.
    let a = c.args in
    join_meets a.m a.n c.in-Ok.whole x (sym c.join.ensures ∙ c.in-Ok.is)

pub returns-in-Err : goal.returns-in-Err
returns-in-Err c = λ x.
    let a = c.args in (
      λ met. let e : ◌≡◌ {A = ℕ} 0 1 = sym (and_zero_r x) ∙ met in absurd (omega (arith, e)),
      λ p. absurd (join_refused a.m a.n x c.in-Err.field-0 (sym c.join.ensures ∙ c.in-Err.is) p.0 p.1),
    )
