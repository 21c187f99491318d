-- What the case of two operands is where no cause stands against the job and the words. Assumes nothing.
use Rattle.std.specs.Prelude.{Option}
use mathlib.Core.Path.{◌≡◌, refl, ap₂, subst}
use Prim.Native.Nat.{ℕ}
use Rattle.choice.specs.Choice.{ClosestPair}
use Rattle.job.specs.declared.Job.{Job}
use Rattle.job.specs.Job.{Request}
use Rattle.adder.proofs.Causes.{Fit}
use Rattle.fit.specs.Fit.{Fits, Fitting}
use Rattle.generator.specs.declared.Case.{Case}
use Rattle.generator.specs.Promise.{case_of, Chosen}

-- two words of a valid job's format stand against no cause of the result and the row
pub request_fit : (j : Job) (a b : ℕ) → Request j a b → Fit j.setting.format j.setting.operation a b
request_fit j a b h = record { supported = h.valid.setting.format; operation_fits = h.valid.setting.operation; a_fits = h.first_word; b_fits = h.second_word }

-- the operands of a fitting case are such words
pub fits_request : (j : Job) (a b c r1 r2 : ℕ) → Request j r1 r2 → Fits j a b c → Request j a b
fits_request j a b c r1 r2 h f = record { valid = h.valid; first_word = f.right.a_word; second_word = f.right.b_word }

-- the closest operands make the chosen case
pub case_chosen : (j : Job) (r1 r2 a b : ℕ) → ClosestPair (Fitting j) r1 r2 a b → Chosen j r1 r2 (case_of j a b)
case_chosen j r1 r2 a b q =
    let f = q.member.1 in
    record { fits = subst (Fits j a b) f.right.sum f; row = refl; closest = q }

-- and the chosen case is the case of its operands
pub chosen_case : (j : Job) (r1 r2 : ℕ) (x : Case) → Chosen j r1 r2 x → x ≡ case_of j x.a x.b
chosen_case j r1 r2 x p = ap₂ (λ (c : ℕ) (r : Option ℕ). record { a = x.a; b = x.b; c = c; row = r }) p.fits.right.sum p.row
