-- `significand::significand_mask` meets its contract. Assumes nothing.
use Rattle.std.proofs.Common.{◌≡◌, ℕ, zero, suc, sym, refl, ap, ◌∙◌}
use Rattle.mask.specs.Mask.{fix}
use Rattle.significand.specs.Significand.{top_bit, significand_mask}
use Rattle.significand.proofs.significand_mask.Goals as goal

normal : (e : ℕ) → (e ≡ 0 → ⊥) → 1 ≡ top_bit e
normal zero ne = absurd (ne refl)
normal (suc e) ne = refl

pub returns-then-exponent-eq0 : goal.returns-then-exponent-eq0
unfolding significand_mask
returns-then-exponent-eq0 c =
    let a = c.args in
    c.fix.ensures ∙ ap (λ (n : ℕ). fix a.fraction a.f (top_bit n)) (sym c.if-exponent-eq0.true)

pub returns-else-exponent-eq0 : goal.returns-else-exponent-eq0
unfolding significand_mask
returns-else-exponent-eq0 c =
    let a = c.args in
    c.fix-else-exponent-eq0.ensures ∙ ap (fix a.fraction a.f) (normal a.exponent.0 c.if-exponent-eq0.false)
