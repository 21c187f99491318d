-- `word::unpack::significand` meets its contract. Assumes nothing.
use Rattle.std.proofs.Common.{◌≡◌, ℕ, zero, suc, ◌+◌, ◌^◌, sym, refl, ap, ◌∙◌, arith, pow_mono}
use Rattle.bits.proofs.Laws.{power_exact}
use Rattle.word.specs.Word.{significand}
use Rattle.word.proofs.unpack.significand.Goals as goal

normal : (f e t : ℕ) → (e ≡ 0 → ⊥) → significand f e t ≡ 2 ^ f + t
unfolding significand
normal f zero t ne = absurd (ne refl)
normal f (suc e) t ne = refl

pub overflow_add-result : goal.overflow_add-result
overflow_add-result c =
    omega (arith, c.power.ensures ∙ power_exact c.args.f (omega arith), c.requires.1, pow_mono {i = c.args.f} {j = 62} (omega arith))

pub returns-then-exponent-eq0 : goal.returns-then-exponent-eq0
unfolding significand
returns-then-exponent-eq0 c = let a = c.args in sym (ap (λ (n : ℕ). significand a.f n a.fraction) c.if-exponent-eq0.true)

pub returns-else-exponent-eq0 : goal.returns-else-exponent-eq0
returns-else-exponent-eq0 c =
    ap (λ (n : ℕ). n + c.args.fraction) (c.power.ensures ∙ power_exact c.args.f (omega arith)) ∙ sym (normal c.args.f c.args.exponent.0 c.args.fraction c.if-exponent-eq0.false)
