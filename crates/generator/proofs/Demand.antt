-- Demand 3, undivided, of every reply that the promise allows. Assumes nothing.
use Rattle.format.specs.Cause.{clear}
use Rattle.format.proofs.Laws.{err_ok}
use Rattle.std.specs.Prelude.{Result, Ok, Err}
use Rattle.format.specs.declared.cause.Cause.{Cause}
use mathlib.Core.Path.{◌≡◌, refl, sym, ap, ap₂, ◌∙◌}
use mathlib.Core.Logic.{◌⊎◌, inl, inr}
use Prim.Native.Nat.{ℕ, ◌<◌}
use lib.Bits.{bit_xor}
use Rattle.format.specs.declared.cause.Cause.TheVariants as cause
use Rattle.choice.specs.Choice.{Farther}
use Rattle.job.specs.declared.Job.{Job}
use Rattle.job.specs.Job.{request_cause, Request}
use Rattle.job.proofs.Laws.{job_none, request_none}
use Rattle.fit.specs.Fit.{result_in, Fits}
use Rattle.generator.specs.declared.Case.{Case}
use Rattle.generator.specs.Promise.{Chosen, Replied}
use Rattle.generator.specs.Demand.{Is, Best, Reachable, Demand3}
use Rattle.generator.proofs.Taken.{fits_request}
use Rattle.generator.proofs.Replies.{reply_unique, none_exactly, every_case}

-- the chosen case is the best one: cases with the same operands have the same c
chosen_best : (j : Job) (r1 r2 : ℕ) (x : Case) → Chosen j r1 r2 x → Best j r1 r2 x
chosen_best j r1 r2 x p = record { fits = p.fits; others = λ a b c f other. go a b c f other (p.closest.least a b (c, f)) }
  where
    go : (a b c : ℕ) → Fits j a b c → (Is x a b c → ⊥) → Farther r1 x.a a ((b ≡ x.b) ⊎ (bit_xor x.b r2 < bit_xor b r2))
        → (bit_xor x.a r1 < bit_xor a r1) ⊎ ((a ≡ x.a) × (bit_xor x.b r2 < bit_xor b r2))
    go a b c f other (inl l) = inl l
    go a b c f other (inr (e, inr l)) = inr (e, l)
    go a b c f other (inr (e, inl d)) =
        absurd (other (sym e, sym d, p.fits.right.sum ∙ ap₂ (result_in j.setting) (sym e) (sym d) ∙ sym f.right.sum))

reached : (j : Job) (r1 r2 : ℕ) → Request j r1 r2 → (a b c : ℕ) → Fits j a b c → Reachable j a b c
reached j r1 r2 h a b c f =
    let q = every_case j a b c ((job_none j).1 h.valid) f in
    record {
      r1 = a;
      r2 = b;
      request = fits_request j a b c r1 r2 h f;
      case = _;
      is = (refl, refl, refl);
      reply = q;
      only = λ p r. reply_unique j a b p (Ok _) r q;
    }

pub demand_3 : (j : Job) (r1 r2 : ℕ) → Request j r1 r2 → (p : Result Case Cause) → Replied j r1 r2 p → Demand3 j r1 r2 p
demand_3 j r1 r2 h p q = record {
  nothing_fits = none_exactly j r1 r2 p taken q;
  otherwise = said p q;
  every_case = reached j r1 r2 h;
}
  where
    taken : request_cause j r1 r2 ≡ clear
    taken = (request_none j r1 r2).1 h

    said : (p : Result Case Cause) → Replied j r1 r2 p → (p ≡ Err cause.NoCase) ⊎ ((x : Case) × (p ≡ Ok x) × Best j r1 r2 x)
    said (Ok x) q = inr (x, refl, chosen_best j r1 r2 x q.1)
    said (Err k) (inl q) = absurd (err_ok (sym q ∙ taken))
    said (Err k) (inr q) = inl (ap Err q.1)
