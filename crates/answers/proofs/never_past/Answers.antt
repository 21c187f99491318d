-- `answers::never_past` meets its contract. Assumes nothing.
use mathlib.Core.Bool.{Bool, true, false, not, ◌||◌, false≢true}
use mathlib.Core.Path.{◌≡◌, refl, sym, ap, ap₂, ◌∙◌}
use Prim.Native.Nat.{ℕ, ◌-◌, ◌^◌}
use native.Mathlib.Omega.{arith}
use lib.Pow.{pow_pos}
use Rattle.mask.specs.declared.Mask.{Mask}
use Rattle.mask.specs.Mask.{Meets, meets}
use Rattle.mask.proofs.Checks.{meets_true}
use Rattle.word.specs.Masks.{fraction_mask}
use Rattle.word.proofs.Bounds.{exponent_place}
use Rattle.answers.proofs.never_past.Goals as goal

-- neither of two tests holds
neither : (a b : Bool) → not (a || b) ≡ true → (a ≡ false) × (b ≡ false)
neither true b e = absurd (false≢true e)
neither false true e = absurd (false≢true e)
neither false false e = (refl, refl)

-- a test that fails
fails : (n : ℕ) (m : Mask) {t : Bool} → t ≡ meets n m → t ≡ false → Meets n m → ⊥
fails n m is e met = false≢true (sym e ∙ is ∙ (meets_true n m).1 met)

pub overflow_sub-power : goal.overflow_sub-power
overflow_sub-power c = omega (arith, exponent_place c.args.format c.requires c.power.ensures, pow_pos c.args.format.f)

pub returns : goal.returns
returns c = λ e.
    let F = c.args.format in
    let m = c.fraction_mask-fraction.ensures in
    let p = exponent_place c.args.format c.requires c.power.ensures in
    let n = neither c.meets.result c.meets-2.result e in
    record {
      zeros = fails 0 (fraction_mask F c.args.c) (c.meets.ensures ∙ ap (meets 0) m) n.0;
      ones = fails (2 ^ F.f - 1) (fraction_mask F c.args.c) (c.meets-2.ensures ∙ ap₂ (λ (k : ℕ) (q : Mask). meets (k - 1) q) p m) n.1;
    }
