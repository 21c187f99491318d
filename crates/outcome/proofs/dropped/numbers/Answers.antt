-- `outcome::dropped::numbers` meets its contract: the masks that a way asks for are joined to that of the digits. Assumes nothing.
use mathlib.Core.Path.{◌≡◌, sym, ap, ◌∙◌, subst}
use Prim.Native.Nat.{ℕ, ◌+◌, ◌-◌}
use native.Mathlib.Omega.{arith}
use Rattle.mask.specs.Mask.{Meets}
use Rattle.outcome.specs.Ways.{upper_of, lower_of}
use Rattle.outcome.proofs.Ways.{free_in_way}
use Rattle.outcome.proofs.dropped.numbers.Goals as goal

pub digits-all-requires : goal.digits-all-requires
digits-all-requires c = (c.requires.0, c.requires.3)

pub returns-then-dropped-eq0 : goal.returns-then-dropped-eq0
returns-then-dropped-eq0 c =
    let a = c.args in
    let x = c.digits-all in record {
      only = λ k lt met. (x.ensures k lt).0 met;
      exact = λ valid k lt. ((λ met. ((x.ensures k lt).0 met, free_in_way a.dropped valid c.if-dropped-eq0.true (a.count - (a.f + 1)) a.way k)), λ p. (x.ensures k lt).1 p.0);
    }

pub overflow_add-f : goal.overflow_add-f
overflow_add-f c = omega (arith, c.requires.1)

pub upper-requires : goal.upper-requires
upper-requires c = (c.requires.2, omega (arith, c.saturating_sub-j.ensures, c.requires.3, c.requires.0))

pub lower-requires : goal.lower-requires
lower-requires c =
    (c.requires.2, omega (arith, c.saturating_sub-j.ensures, c.requires.3, c.requires.0), rw c.saturating_sub-j.ensures (c.requires.4 c.if-dropped-eq0.false))

pub returns : goal.returns
returns c =
    let a = c.args in
    let x = c.digits-all in
    let j = c.saturating_sub-j in
    let inner = c.both in
    let outer = c.both-2 in record {
      only = λ k lt met. (x.ensures k lt).0 ((outer.ensures k).0 met).0;
      exact = λ valid k lt.
          let g = x.ensures k lt in
          let up : c.upper.result ≡ upper_of a.dropped (a.count - (a.f + 1)) = c.upper.ensures valid ∙ ap (upper_of a.dropped) j.ensures in
          let low : c.lower.result ≡ lower_of a.dropped (a.count - (a.f + 1)) a.way = c.lower.ensures ∙ ap (λ (i : ℕ). lower_of a.dropped i a.way) j.ensures in (
            (λ met.
                let p = (outer.ensures k).0 met in
                let w = (inner.ensures k).0 p.1 in
                (g.0 p.0, record { upper = subst (Meets k) up w.0; lower = subst (Meets k) low w.1 })),
            λ p. (outer.ensures k).1 (g.1 p.0, (inner.ensures k).1 (subst (Meets k) (sym up) p.1.upper, subst (Meets k) (sym low) p.1.lower)),
          );
    }
