-- The next step of settling a job, by the standings of its words one after the other; and what is left where each stands inside its bounds.
-- Assumes nothing.
use Rattle.std.specs.Prelude.{None}
use mathlib.Core.Bool.{Bool, true, false, cond}
use mathlib.Core.Path.{◌≡◌, refl, subst}
use Prim.Native.Nat.{ℕ, suc, ◌<◌}
use native.Mathlib.Decide.{dec_lt}
use native.Mathlib.Omega.{arith}
use lib.Dec.{ltb}
use Rattle.job.specs.declared.Job.{Job}
use Rattle.job.specs.declared.Role.{Role}
use Rattle.job.specs.declared.Role.TheVariants.{A, B, C}
use Rattle.job.specs.Role.{member, wanted, unbounded}
use Rattle.fit.specs.Fit.{Fits}
use Rattle.fit.proofs.Roles.{member_lt, fits_allowed}
use Rattle.narrowing.specs.declared.Standing as relation
use Rattle.narrowing.specs.declared.Standing.TheVariants.{Inside, Outside, Across}
use Rattle.narrowing.specs.Narrowing.{Stands}
use Rattle.left.specs.declared.halving.Step as step
use Rattle.left.specs.declared.halving.Step.TheVariants.{Settled, Nothing, Split}
use Rattle.left.specs.Narrower.{higher, further, turn, Open, StepOf}

turn_injective : (r s : Role) → turn r ≡ turn s → r ≡ s
turn_injective A A e = refl
turn_injective A B e = absurd (omega (arith, e))
turn_injective A C e = absurd (omega (arith, e))
turn_injective B A e = absurd (omega (arith, e))
turn_injective B B e = refl
turn_injective B C e = absurd (omega (arith, e))
turn_injective C A e = absurd (omega (arith, e))
turn_injective C B e = absurd (omega (arith, e))
turn_injective C C e = refl

module _ (j : Job) (role : Role) where
  higher_step : (s : step.Step) (k v : ℕ) → StepOf (turn role) j s → Open j role k v → StepOf (suc (turn role)) j (higher s role k v)
  higher_step Settled k v h o = o
  higher_step Nothing k v h o = h
  higher_step (Split r i u) k v h o = go (ltb i k)
    where
      go : (t : Bool) → StepOf (suc (turn role)) j (cond t (Split role k v) (Split r i u))
      go true = o
      go false = h

  pub further_step : (s : step.Step) (r : relation.Standing) → StepOf (turn role) j s → Stands j.setting.format (wanted role j) r
      → StepOf (suc (turn role)) j (further s role r)
  further_step Settled Inside h t = λ other l. go other (dec_lt (turn other) (turn role)) l
    where
      go : (other : Role) → Dec (turn other < turn role) → turn other < suc (turn role) → Stands j.setting.format (wanted other j) Inside
      go other (yes l) u = h other l
      go other (no n) u = subst (λ (r : Role). Stands j.setting.format (wanted r j) Inside) (turn_injective role other (omega (arith, n, u))) t
  further_step Nothing Inside h t = h
  further_step (Split r i u) Inside h t = h
  further_step s Outside h t = λ l.
      let a = fits_allowed j l.a l.b l.c role l.fits in
      t (member role l.a l.b l.c) (member_lt j l.a l.b l.c role l.fits) a.mask a.within
  further_step s (Across k v) h t = higher_step s k v h t

-- where each word stands inside its bounds, a case of the job without them is one of the job
pub settled_fits : (j : Job) → StepOf 3 j Settled → (a b c : ℕ) → Fits (unbounded j) a b c → Fits j a b c
settled_fits j inside a b c f =
    let r = f.right in
    let s = f.satisfies in
    record {
      right = r;
      satisfies = record {
        a_allowed = record { mask = s.a_allowed.mask; within = inside A (omega arith) a r.a_word s.a_allowed.mask };
        b_allowed = record { mask = s.b_allowed.mask; within = inside B (omega arith) b r.b_word s.b_allowed.mask };
        c_allowed = record { mask = s.c_allowed.mask; within = inside C (omega arith) c r.c_word s.c_allowed.mask };
        row = s.row;
        dropped = s.dropped;
      };
    }

-- a case of the job is one of the job without its bounds
pub fits_unbounded : (j : Job) (a b c : ℕ) → Fits j a b c → Fits (unbounded j) a b c
fits_unbounded j a b c f =
    let s = f.satisfies in
    record {
      right = f.right;
      satisfies = record {
        a_allowed = record { mask = s.a_allowed.mask; within = tt };
        b_allowed = record { mask = s.b_allowed.mask; within = tt };
        c_allowed = record { mask = s.c_allowed.mask; within = tt };
        row = s.row;
        dropped = s.dropped;
      };
    }

-- where no bounds are stated each word stands inside
pub unstated_fits : (j : Job) → j.a.bounds ≡ None → j.b.bounds ≡ None → j.c.bounds ≡ None → (a b c : ℕ) → Fits (unbounded j) a b c → Fits j a b c
unstated_fits j ea eb ec = settled_fits j inside
  where
    inside : (role : Role) → turn role < 3 → Stands j.setting.format (wanted role j) Inside
    inside A l x hx met = rw ea tt
    inside B l x hx met = rw eb tt
    inside C l x hx met = rw ec tt
