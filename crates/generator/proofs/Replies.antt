-- What the promise amounts to: a job and two random words have one reply; the number 7 stands exactly where no three words fit; and every
-- fitting case is the reply to some two random words. Assumes nothing.
use Rattle.format.specs.Cause.{clear}
use Rattle.format.proofs.Laws.{err_ok, err_same}
use Rattle.std.specs.Prelude.{Result, Ok, Err}
use Rattle.format.specs.declared.cause.Cause.{Cause}
use mathlib.Core.Path.{◌≡◌, refl, sym, ap, ap₂, ◌∙◌}
use mathlib.Core.Logic.{inl, inr, ◌↔◌}
use Prim.Native.Nat.{ℕ}
use native.Mathlib.Omega.{arith}
use Rattle.format.specs.declared.cause.Cause.TheVariants as cause
use Rattle.choice.proofs.Pair.{pair_unique, pair_self}
use Rattle.job.specs.declared.Job.{Job}
use Rattle.job.specs.Job.{job_cause, request_cause}
use Rattle.job.proofs.Laws.{job_none, request_none}
use Rattle.adder.specs.Row.{row_of}
use Rattle.fit.specs.Fit.{Fits, Fitting}
use Rattle.generator.specs.declared.Case.{Case}
use Rattle.generator.specs.Promise.{case_of, Chosen, Replied}
use Rattle.generator.proofs.Taken.{chosen_case}

pub chosen_unique : (j : Job) (r1 r2 : ℕ) (x y : Case) → Chosen j r1 r2 x → Chosen j r1 r2 y → x ≡ y
chosen_unique j r1 r2 x y p q =
    let e = pair_unique (Fitting j) r1 r2 x.a x.b y.a y.b p.closest q.closest in
    chosen_case j r1 r2 x p ∙ ap₂ (case_of j) e.0 e.1 ∙ sym (chosen_case j r1 r2 y q)

-- a job and two random words have one reply
pub reply_unique : (j : Job) (r1 r2 : ℕ) (p q : Result Case Cause) → Replied j r1 r2 p → Replied j r1 r2 q → p ≡ q
reply_unique j r1 r2 (Ok x) (Ok y) p q = ap Ok (chosen_unique j r1 r2 x y p.1 q.1)
reply_unique j r1 r2 (Ok x) (Err k) p (inl q) = absurd (err_ok (sym q ∙ p.0))
reply_unique j r1 r2 (Ok x) (Err k) p (inr q) = absurd (q.0.none x.a x.b x.c p.1.fits)
reply_unique j r1 r2 (Err k) (Ok x) (inl p) q = absurd (err_ok (sym p ∙ q.0))
reply_unique j r1 r2 (Err k) (Ok x) (inr p) q = absurd (p.0.none x.a x.b x.c q.1.fits)
reply_unique j r1 r2 (Err k) (Err l) (inl p) (inl q) = ap Err (err_same (sym p ∙ q))
reply_unique j r1 r2 (Err k) (Err l) (inl p) (inr q) = absurd (err_ok (sym p ∙ q.0.taken))
reply_unique j r1 r2 (Err k) (Err l) (inr p) (inl q) = absurd (err_ok (sym q ∙ p.0.taken))
reply_unique j r1 r2 (Err k) (Err l) (inr p) (inr q) = ap Err (p.1 ∙ sym q.1)

-- of a job that is taken, "none" is the reply exactly where no three words fit
pub none_exactly : (j : Job) (r1 r2 : ℕ) (p : Result Case Cause) → request_cause j r1 r2 ≡ clear → Replied j r1 r2 p
    → (p ≡ Err cause.NoCase) ↔ ((a b c : ℕ) → Fits j a b c → ⊥)
none_exactly j r1 r2 (Ok x) e p = (
  λ q. absurd (let z : ◌≡◌ {A = ℕ} 0 1 = cc in omega arith),
  λ none. absurd (none x.a x.b x.c p.1.fits),
)
none_exactly j r1 r2 (Err k) e (inl p) = absurd (err_ok (sym p ∙ e))
none_exactly j r1 r2 (Err k) e (inr p) = (λ q. p.0.none, λ none. ap Err p.1)

-- every fitting case is the reply to some two random words, its operands
pub every_case : (j : Job) (a b c : ℕ) → job_cause j ≡ clear → Fits j a b c
    → Replied j a b (Ok (record { a = a; b = b; c = c; row = row_of j.setting.format j.setting.operation a b }))
every_case j a b c e f = (
  (request_none j a b).1 (record { valid = (job_none j).0 e; first_word = f.right.a_word; second_word = f.right.b_word }),
  record { fits = f; row = refl; closest = pair_self (Fitting j) a b (c, f) },
)
