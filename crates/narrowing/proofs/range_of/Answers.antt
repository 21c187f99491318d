-- `narrowing::range_of` meets its contract. Assumes nothing.
use mathlib.Core.Path.{◌≡◌, refl, sym, ap, ap₂, ◌∙◌, subst}
use Prim.Native.Nat.{ℕ, zero, suc, ◌+◌, ◌-◌}
use native.Mathlib.Omega.{arith}
use Rattle.format.specs.declared.Format.{Format}
use Rattle.bounds.specs.declared.Ends.{Ends}
use Rattle.narrowing.specs.declared.Range as interval
use Rattle.narrowing.specs.Range.{range_of}
use Rattle.word.proofs.Bounds.{place_power, sign_place}
use Rattle.narrowing.proofs.range_of.Goals as goal

-- the range of a sign that is not 0
negative : (F : Format) (e : Ends) (s : ℕ) → (s ≡ 0 → ⊥) → range_of F e s ≡ range_of F e 1
negative F e zero ne = absurd (ne refl)
negative F e (suc s) ne = refl

pub returns-then-sign-eq0 : goal.returns-then-sign-eq0
returns-then-sign-eq0 c =
    let z = sign_place c.args.format c.requires c.power-zero.ensures in
    let from = c.rank-from.ensures.0 c.requires in
    let to = c.rank-to.ensures.0 c.requires in
    rw c.if-sign-eq0.true
    (ap₂ (λ (l p : ℕ). record { low = l; past = p }) (c.saturating_sub.ensures ∙ ap₂ (λ (a b : ℕ). a - b) from z)
    (c.saturating_sub-then-sign-eq0-2.ensures ∙ ap₂ (λ (a b : ℕ). a - b) to (c.saturating_sub-then-sign-eq0.ensures ∙ ap (λ (n : ℕ). n - 1) z)))

pub overflow_add-zero : goal.overflow_add-zero
overflow_add-zero c =
    omega (arith, place_power c.args.format c.requires, sign_place c.args.format c.requires c.power-zero.ensures)

pub returns : goal.returns
returns c =
    let z = sign_place c.args.format c.requires c.power-zero.ensures in
    let from = c.rank-from.ensures.0 c.requires in
    let to = c.rank-to.ensures.0 c.requires in
    subst (λ (e : interval.Range). record { low = c.saturating_sub-2.result; past = c.saturating_sub-3.result } ≡ e)
    (sym (negative c.args.format c.args.ends c.args.sign c.if-sign-eq0.false))
    (ap₂ (λ (l p : ℕ). record { low = l; past = p }) (c.saturating_sub-2.ensures ∙ ap₂ (λ (a b : ℕ). a - b) z to)
    (c.saturating_sub-3.ensures ∙ ap₂ (λ (a b : ℕ). a - b) (ap (λ (n : ℕ). n + 1) z) from))
