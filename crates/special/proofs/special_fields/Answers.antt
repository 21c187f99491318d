-- `special::special_fields` meets its contract. Assumes nothing.
use mathlib.Core.Path.{◌≡◌, refl, ap, ◌∙◌}
use mathlib.Core.Bool.{false≢true}
use mathlib.Core.Logic.{inl, inr, ⊎_elim}
use Prim.Native.Nat.{ℕ, ◌-◌, ◌%◌, ◌^◌}
use native.Mathlib.Omega.{arith}
use borrow.Author.Tests.{eqb-true, eq-eqb}
use lib.Pow.{pow_pos}
use Rattle.bits.proofs.Laws.{power_exact}
use Rattle.format.specs.declared.Format.{Format}
use Rattle.format.specs.Format.{Supported}
use Rattle.format.proofs.Laws.{supported_of, unsupported_of}
use Rattle.format.proofs.Room.{exponent_room}
use Rattle.special.proofs.special_fields.Goals as goal

-- 2^w is what the code forms
power : (F : Format) → Supported F → (p : ℕ) → p ≡ 2 ^ F.w % 2 ^ 64 → p ≡ 2 ^ F.w
power F ok p e = e ∙ power_exact F.w (omega (arith, exponent_room F ok))

pub returns-then-not-supported : goal.returns-then-not-supported
returns-then-not-supported c = ((λ e. absurd (false≢true e)), λ p. absurd (unsupported_of c.supported.ensures c.if-not-supported.true p.0.supported))

pub overflow_sub-ones : goal.overflow_sub-ones
overflow_sub-ones c =
    let F = c.args.format in
    let ok = supported_of c.supported.ensures c.if-not-supported.false in
    omega (arith, power F ok c.power-ones.result c.power-ones.ensures, pow_pos F.w)

pub returns-then-ones-ea : goal.returns-then-ones-ea
returns-then-ones-ea c =
    let F = c.args.format in
    let p = c.power-ones in
    ((λ e. absurd (false≢true e)), λ q. absurd (omega (arith, c.if-ones-ea.true, power F q.0.supported p.result p.ensures, q.0.a_lt)))

pub returns-then-ones-eb : goal.returns-then-ones-eb
returns-then-ones-eb c =
    let F = c.args.format in
    let p = c.power-ones in
    ((λ e. absurd (false≢true e)), λ q. absurd (omega (arith, c.if-ones-eb.true, power F q.0.supported p.result p.ensures, q.0.b_lt)))

pub returns-then-ea-ones : goal.returns-then-ea-ones
returns-then-ea-ones c =
    let F = c.args.format in
    let p = c.power-ones in
    let ok = supported_of c.supported.ensures c.if-not-supported.false in
    let is = power F ok p.result p.ensures in (
      (λ e. (
        record { supported = ok; a_lt = omega (arith, c.if-ones-ea.false, is, pow_pos F.w); b_lt = omega (arith, c.if-ones-eb.false, is, pow_pos F.w) },
        inl (c.if-ea-ones.true ∙ ap (λ (n : ℕ). n - 1) is),
      )),
      λ q. refl,
    )

pub returns : goal.returns
returns c =
    let F = c.args.format in
    let p = c.power-ones in
    let ok = supported_of c.supported.ensures c.if-not-supported.false in
    let is = power F ok p.result p.ensures in
    let ones = ap (λ (n : ℕ). n - 1) is in (
      (λ e. (
        record { supported = ok; a_lt = omega (arith, c.if-ones-ea.false, is, pow_pos F.w); b_lt = omega (arith, c.if-ones-eb.false, is, pow_pos F.w) },
        inr (eqb-true _ _ e ∙ ones),
      )),
      λ q. ⊎_elim (λ e. absurd (c.if-ea-ones.false (e ∙ mathlib.Core.Path.sym ones))) (λ e. eq-eqb _ _ (e ∙ mathlib.Core.Path.sym ones)) q.1,
    )
