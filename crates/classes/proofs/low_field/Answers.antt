-- `classes::low_field` meets its contract. Assumes nothing.
use Rattle.std.proofs.Common.{◌≡◌, ℕ, zero, suc, ◌+◌, ◌-◌, refl, ap, ◌∙◌, ap₂, mod-eq_of_lt, arith}
use Rattle.word.specs.declared.Unit as exponent
use Rattle.special.specs.Asked.{field_is}
use Rattle.classes.specs.Class.{far_gap, lower_field}
use Rattle.classes.proofs.low_field.Goals as goal

-- for the field 0, and for another
none : (f gap e : ℕ) → e ≡ 0 → field_is 0 ≡ lower_field f gap e
none f gap zero e = refl
none f gap (suc n) e = absurd (omega arith)

some : (f gap e : ℕ) → (e ≡ 0 → ⊥) → field_is (far_gap f - gap + 1) ≡ lower_field f gap e
some f gap zero ne = absurd (ne refl)
some f gap (suc e) ne = refl

pub returns-then-smaller-eq0 : goal.returns-then-smaller-eq0
returns-then-smaller-eq0 c = λ short. let a = c.args in none a.reach _ a.smaller.0 c.if-smaller-eq0.true

pub returns : goal.returns
returns c = λ short.
    let a = c.args in
    let far = c.wrapping_add_u64.ensures.value ∙ mod-eq_of_lt (omega arith) in
    let gap = c.saturating_sub-gap.ensures ∙ ap₂ (λ (x y : exponent.Unit). x.0 - y.0) c.unit_of.ensures c.unit_of-2.ensures in
    let low = c.saturating_sub.ensures ∙ ap₂ ◌-◌ far gap in
    ap field_is (c.field_of.ensures ∙ mod-eq_of_lt (omega arith) ∙ ap (λ (n : ℕ). n + 1) low) ∙ some a.reach _ a.smaller.0 c.if-smaller-eq0.false
