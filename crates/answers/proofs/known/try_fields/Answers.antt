-- `answers::known::try_fields` meets its contract: no field from n on is let through by c and had by the class. Assumes nothing.
use mathlib.Core.Path.{◌≡◌, ap, subst}
use Prim.Native.Nat.{ℕ, ◌-◌, ◌≤◌, ◌<◌}
use native.Mathlib.Decide.{ℕ_discrete}
use native.Mathlib.Omega.{arith}
use Rattle.job.specs.Guards.{reach}
use Rattle.job.proofs.GuardLaws.{reach_most}
use Rattle.mask.specs.Mask.{Meets}
use Rattle.word.specs.declared.Biased.{Biased}
use Rattle.word.specs.Masks.{exponent_mask}
use Rattle.special.specs.Asked.{field_is}
use Rattle.classes.specs.Class.{field_at}
use Rattle.answers.specs.Kept.{Never}
use Rattle.answers.proofs.known.try_fields.Goals as goal

-- from one less on is from there on, or there
next : (P : Biased → Type 0) (n : ℕ) → 0 < n → ((i : Biased) → n ≤ i.0 → P i) → P (field_is (n - 1)) → (i : Biased) → n - 1 ≤ i.0 → P i
next P n some above here i h = go (ℕ_discrete (n - 1) i.0)
  where
    go : Dec (n - 1 ≡ i.0) → P i
    go (yes e) = subst (λ (k : ℕ). P (field_is k)) e here
    go (no ne) = above i (omega arith)

pub least_field-least-requires : goal.least_field-least-requires
least_field-least-requires c = rw c.reach-reach.ensures (omega (arith, reach_most c.args.job), c.requires.1)

pub overflow_add-n : goal.overflow_add-n
overflow_add-n c = record { fits = omega (arith, c.reach-reach.ensures, reach_most c.args.job) }

pub overflow_step-n : goal.overflow_step-n
overflow_step-n c = record { fits = omega (arith, c.reach-reach.ensures, reach_most c.args.job) }

pub try_field-tried-requires : goal.try_field-tried-requires
try_field-tried-requires c = (c.requires.0, c.requires.2, omega (arith, c.reach-reach.ensures))

pub loop-n-preserved : goal.loop-n-preserved
loop-n-preserved c =
    let a = c.args in
    λ p kept.
    let inv = c.loop-n.invariant p kept in
    let t = c.try_field-tried.ensures p inv.0 in (
      t.0,
      next (λ (i : Biased). Meets (field_at (reach a.job) a.unit i).0 (exponent_mask a.job.setting.format a.job.c.mask) → Never a.job a.class i) c.loop-n.n
          (omega arith) inv.1 (t.1 c.if-tried.false),
    )

pub returns : goal.returns
returns c = λ p kept.
    let inv = c.loop-n.invariant p kept in
    (inv.0, λ e i least met. inv.1 i (omega (arith, ap (λ (e : Biased). e.0) (rw c.reach-reach.ensures at c.least_field-least.ensures))) met)
