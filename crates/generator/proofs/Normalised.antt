-- A job that is taken has the replies of the same with g taken as 0 where no dropped bit is fixed (document 02, W-206), and no others: the
-- same cases fit.
-- Assumes nothing.
use Rattle.format.specs.Cause.{clear}
use Rattle.format.proofs.Laws.{err_ok}
use Rattle.std.specs.Prelude.{Result, Ok, Err}
use Rattle.format.specs.declared.cause.Cause.{Cause}
use mathlib.Core.Path.{◌≡◌, refl, ap, ◌∙◌, sym}
use mathlib.Core.Logic.{◌↔◌, inl, inr}
use Prim.Native.Nat.{ℕ}
use Rattle.job.specs.declared.Setting.{Setting}
use Rattle.job.specs.declared.Job.{Job}
use Rattle.job.specs.Dropped.{normalised_job}
use Rattle.job.specs.Job.{request_cause}
use Rattle.job.proofs.Laws.{request_none, normalised_request}
use Rattle.fit.specs.Fit.{Fits, row_in}
use Rattle.fit.proofs.Normalised.{normalised_fits}
use Rattle.generator.specs.declared.Case.{Case}
use Rattle.generator.specs.Promise.{Chosen, Replied}

-- two jobs with one setting that the same cases fit
module _ (j k : Job) (e : j.setting ≡ k.setting) (same : (a b c : ℕ) → Fits j a b c ↔ Fits k a b c) (r1 r2 : ℕ) where
  same_chosen : (x : Case) → Chosen j r1 r2 x → Chosen k r1 r2 x
  same_chosen x h =
      let fits = (same x.a x.b x.c).0 h.fits in
      record {
        fits = fits;
        row = h.row ∙ ap (λ (S : Setting). row_in S x.a x.b) e;
        closest = record { member = (x.c, fits); least = λ a b m. h.closest.least a b (m.0, (same a b m.0).1 m.1) };
      }

  same_replied : request_cause j r1 r2 ≡ clear → request_cause k r1 r2 ≡ clear → (r : Result Case Cause) → Replied j r1 r2 r → Replied k r1 r2 r
  same_replied ok taken (Ok x) p = (taken, same_chosen x p.1)
  same_replied ok taken (Err n) (inl p) = absurd (err_ok (sym p ∙ ok))
  same_replied ok taken (Err n) (inr p) = inr (record { taken = taken; none = λ a b c f. p.0.none a b c ((same a b c).1 f) }, p.1)

pub normalised_replied : (j : Job) (r1 r2 : ℕ) (r : Result Case Cause) → request_cause j r1 r2 ≡ clear → Replied j r1 r2 r ↔ Replied (normalised_job j) r1 r2 r
normalised_replied j r1 r2 r ok =
    let taken = (request_none (normalised_job j) r1 r2).1 (normalised_request j r1 r2 ((request_none j r1 r2).0 ok)) in (
      same_replied j (normalised_job j) refl (normalised_fits j) r1 r2 ok taken r,
      same_replied (normalised_job j) j refl (λ a b c. ((normalised_fits j a b c).1, (normalised_fits j a b c).0)) r1 r2 taken ok r,
    )
