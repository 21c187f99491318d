-- The promise can be kept: every job has a reply to every two random words. Whether two words fit is decidable, and a format has finitely
-- many. With `reply_unique`, the promise is a function. Assumes nothing.
use Rattle.format.specs.Cause.{Check, clear}
use Rattle.generator.specs.declared.Case.{Case}
use Rattle.std.specs.Prelude.{Result, Ok, Err}
use Rattle.format.specs.declared.cause.Cause.{Cause}
use mathlib.Core.Path.{◌≡◌, refl, sym, ◌∙◌, subst}
use mathlib.Core.Bool.{Bool, true, false, false≢true}
use mathlib.Core.Logic.{◌⊎◌, inl, inr, ◌↔◌}
use Prim.Native.Nat.{ℕ, ◌^◌, ◌<◌}
use native.Mathlib.Decide.{dec_lt}
use Rattle.format.specs.declared.cause.Cause.TheVariants as cause
use Rattle.format.specs.Format.{Supported, word_bits}
use Rattle.choice.specs.Choice.{ClosestPair}
use Rattle.choice.proofs.Existence.{pair_or_none}
use Rattle.job.specs.declared.Job.{Job}
use Rattle.job.specs.Job.{request_cause, Request}
use Rattle.job.proofs.Laws.{request_none}
use Rattle.adder.proofs.ResultLaws.{result_lt}
use Rattle.fit.specs.Fit.{result_in, Fits, Fitting, fits}
use Rattle.fit.proofs.Laws.{fits_true}
use Rattle.generator.specs.Promise.{case_of, Replied}
use Rattle.generator.proofs.Taken.{case_chosen}

module _ (j : Job) (ok : Supported j.setting.format) where
  -- whether a and b are the operands of a fitting case
  fitting_decided : (a b : ℕ) → Dec (Fitting j a b)
  fitting_decided a b = go (dec_lt a (2 ^ word_bits j.setting.format)) (dec_lt b (2 ^ word_bits j.setting.format))
    where
      c : ℕ
      c = result_in j.setting a b

      go : Dec (a < 2 ^ word_bits j.setting.format) → Dec (b < 2 ^ word_bits j.setting.format) → Dec (Fitting j a b)
      go (no l) h = no (λ m. l m.1.right.a_word)
      go (yes l) (no h) = no (λ m. h m.1.right.b_word)
      go (yes l) (yes h) = test (fits j a b c) refl
        where
          same : fits j a b c ≡ true ↔ Fits j a b c
          same = fits_true j a b c (record { a_word = l; b_word = h; c_word = result_lt j.setting.format ok j.setting.operation j.setting.mode a b })

          test : (t : Bool) → fits j a b c ≡ t → Dec (Fitting j a b)
          test true e = yes (c, same.0 e)
          test false e = no (λ m. false≢true (sym e ∙ same.1 (subst (Fits j a b) m.1.right.sum m.1)))

pub reply_exists : (j : Job) (r1 r2 : ℕ) → (p : Result Case Cause) × Replied j r1 r2 p
reply_exists j r1 r2 = go (request_cause j r1 r2) refl
  where
    taken : Request j r1 r2 → request_cause j r1 r2 ≡ clear
        → ((a : ℕ) × (b : ℕ) × ClosestPair (Fitting j) r1 r2 a b) ⊎ ((a b : ℕ) → Fitting j a b → ⊥)
        → (p : Result Case Cause) × Replied j r1 r2 p
    taken h e (inl w) = (Ok (case_of j w.0 w.1), (e, case_chosen j r1 r2 w.0 w.1 w.2))
    taken h e (inr none) = (Err cause.NoCase, inr (record { taken = e; none = λ a b c f. none a b (c, f) }, refl))

    go : (k : Check) → request_cause j r1 r2 ≡ k → (p : Result Case Cause) × Replied j r1 r2 p
    go (Ok u) e =
        let h = (request_none j r1 r2).0 e in
        taken h e
        (pair_or_none (Fitting j) (fitting_decided j h.valid.setting.format) (word_bits j.setting.format) (λ a b m. (m.1.right.a_word, m.1.right.b_word)) r1 r2 h.first_word h.second_word)
    go (Err k) e = (Err k, inl e)
