-- `answers::known::field_at` meets its contract. Assumes nothing.
use mathlib.Core.Path.{◌≡◌, refl, ap, ◌∙◌}
use Prim.Native.Nat.{ℕ, zero, suc, ◌+◌, ◌-◌}
use native.Mathlib.Omega.{arith}
use Rattle.special.specs.Asked.{field_is}
use Rattle.classes.specs.Class.{far_gap, moved_field}
use Rattle.answers.proofs.known.field_at.Goals as goal

-- the field of another sum than 0, and of a zero sum
some : (g u i : ℕ) → (i ≡ 0 → ⊥) → i + u - g ≡ moved_field g u i
some g u zero ne = absurd (ne refl)
some g u (suc i) ne = refl

none : (g u i : ℕ) → i ≡ 0 → 0 ≡ moved_field g u i
none g u zero e = refl
none g u (suc i) e = absurd (omega arith)

pub returns-then-field-eq0 : goal.returns-then-field-eq0
returns-then-field-eq0 c = let a = c.args in ap field_is (none (far_gap a.reach) a.unit.0 a.field.0 c.if-field-eq0.true)

pub returns : goal.returns
returns c = let a = c.args in ap field_is (c.saturating_sub.ensures ∙ some (far_gap a.reach) a.unit.0 a.field.0 c.if-field-eq0.false)
