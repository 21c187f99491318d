-- `pair::finite::finite_fields` meets its contract. Assumes nothing.
use mathlib.Core.Bool.{false≢true}
use Prim.Native.Nat.{◌-◌}
use native.Mathlib.Omega.{arith}
use borrow.Author.Tests.{ltb-true, lt-ltb}
use lib.Pow.{pow_pos}
use Rattle.format.proofs.Laws.{supported_of, unsupported_of}
use Rattle.word.proofs.Bounds.{exponents}
use Rattle.pair.proofs.finite.finite_fields.Goals as goal

pub returns-then-not-supported : goal.returns-then-not-supported
returns-then-not-supported c = ((λ e. absurd (false≢true e)), λ p. absurd (unsupported_of c.supported.ensures c.if-not-supported.true p.supported))

pub overflow_sub-ones : goal.overflow_sub-ones
overflow_sub-ones c =
    let F = c.args.format in
    let ok = supported_of c.supported.ensures c.if-not-supported.false in
    omega (arith, exponents F ok c.power-ones.ensures, pow_pos F.w)

pub returns-then-ones-ea : goal.returns-then-ones-ea
returns-then-ones-ea c =
    let F = c.args.format in
    let p = c.power-ones in
    ((λ e. absurd (false≢true e)), λ q. absurd (omega (arith, c.if-ones-ea.true, exponents F q.supported p.ensures, q.a_finite)))

pub returns : goal.returns
returns c =
    let a = c.args in
    let F = a.format in
    let p = c.power-ones in
    let ok = supported_of c.supported.ensures c.if-not-supported.false in
    let is = exponents F ok p.ensures in (
      (λ e. record { supported = ok; a_finite = omega (arith, c.if-ones-ea.false, is); b_finite = omega (arith, ltb-true a.eb.0 (p.result - 1) e, is) }),
      λ q. lt-ltb a.eb.0 (p.result - 1) (omega (arith, q.b_finite, is)),
    )
