-- `making::roomy` meets its contract. Assumes nothing.
use mathlib.Core.Bool.{false≢true}
use native.Mathlib.Omega.{arith}
use borrow.Author.Tests.{ltb-true, lt-ltb}
use Rattle.making.proofs.roomy.Goals as goal

pub returns-then-below-eq0 : goal.returns-then-below-eq0
returns-then-below-eq0 c = (λ t. absurd (false≢true t), λ r. absurd (omega (arith, r.some, c.if-below-eq0.true)))

pub returns-then-like : goal.returns-then-like
returns-then-like c =
    let a = c.args in
    let m = c.saturating_sub in (
      (λ t. record {
        some = omega (arith, c.if-below-eq0.false);
        columns = rw c.if-like.true (omega (arith, ltb-true a.f m.result t, m.ensures));
      }),
      λ r. lt-ltb a.f m.result (omega (arith, rw c.if-like.true at r.columns, m.ensures)),
    )

pub returns-else-like : goal.returns-else-like
returns-else-like c =
    let a = c.args in
    let m = c.saturating_sub-else-like in (
      (λ t. record {
        some = omega (arith, c.if-below-eq0.false);
        columns = rw c.if-like.false (omega (arith, ltb-true a.f m.result t, m.ensures));
      }),
      λ r. lt-ltb a.f m.result (omega (arith, rw c.if-like.false at r.columns, m.ensures)),
    )
