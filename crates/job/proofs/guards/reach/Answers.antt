-- `job::guards::reach` meets its contract. Assumes nothing.
use mathlib.Core.Path.{◌≡◌, sym, ap, ◌∙◌}
use mathlib.Core.Bool.{Bool, true, cond, ◌&&◌, and-eq-true_iff}
use Prim.Native.Nat.{ℕ, ◌+◌, ◌-◌, ◌≤◌}
use native.Mathlib.Omega.{arith}
use borrow.Author.Tests.{leb-true}
use lib.Dec.{leb}
use Rattle.format.specs.Limits.{most_fraction_bits, most_dropped}
use Rattle.job.specs.Guards.{reach_of, reach}
use Rattle.job.proofs.GuardLaws.{guards_pos}
use Rattle.job.proofs.guards.reach.Goals as goal

-- the test of the code is the definition's
test : (f g G : ℕ) → g ≡ G → leb f most_fraction_bits && leb g most_dropped ≡ leb f most_fraction_bits && leb G most_dropped
test f g G e = ap (λ (n : ℕ). leb f most_fraction_bits && leb n most_dropped) e

within : (f g : ℕ) → leb f most_fraction_bits && leb g most_dropped ≡ true → (f ≤ most_fraction_bits) × (g ≤ most_dropped)
within f g e =
    let b = (and-eq-true_iff (leb f most_fraction_bits) (leb g most_dropped)).0 e in
    (leb-true f most_fraction_bits b.0, leb-true g most_dropped b.1)

pub overflow_add-result : goal.overflow_add-result
overflow_add-result c =
    let h = within c.args.job.setting.format.f c.guards-apart.result c.if-f-apart.true in
    record { fits = omega (arith, h.0, h.1) }

pub overflow_sub-result : goal.overflow_sub-result
overflow_sub-result c = omega (arith, c.guards-apart.ensures, guards_pos c.args.job.dropped)

pub returns-then-f-apart : goal.returns-then-f-apart
unfolding reach
returns-then-f-apart c =
    let j = c.args.job in
    let f = j.setting.format.f in
    ap (λ (n : ℕ). f + n - 1) c.guards-apart.ensures
    ∙ sym (ap (λ (t : Bool). cond t (reach_of j) 0) (sym (test f _ _ c.guards-apart.ensures) ∙ c.if-f-apart.true))

pub returns-else-f-apart : goal.returns-else-f-apart
unfolding reach
returns-else-f-apart c =
    let j = c.args.job in
    sym (ap (λ (t : Bool). cond t (reach_of j) 0) (sym (test j.setting.format.f _ _ c.guards-apart.ensures) ∙ c.if-f-apart.false))
