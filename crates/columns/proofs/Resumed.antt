-- A walk over columns cut before any of them, and taken up again from what is left there, ends as the uncut walk does: `sets_append` and
-- `run_append` with the column as a part of what is handed on. Assumes nothing.
use mathlib.Core.Path.{◌≡◌, sym, ap, ◌∙◌, fun_ext}
use Prim.Native.Nat.{ℕ, ◌+◌, ◌/◌, ◌^◌}
use native.Mathlib.Nat.{add_assoc}
use lib.Pow.{shr-shr}
use Rattle.steps.specs.Steps.{Resumes}
use Rattle.steps.proofs.Steps.{function_resumes}
use Rattle.columns.specs.Machine.{run, sets}
use Rattle.columns.specs.Walk.{SetState, RunState, step_from, set_after, run_after}
use Rattle.columns.proofs.Reach.{run_append, sets_append}

module _ (step : ℕ → ℕ → ℕ → ℕ → ℕ) where
  -- m columns after column c
  later : (c m : ℕ) → step_from (step_from step c) m ≡ step_from step (c + m)
  later c m = fun_ext (λ k. ap step (sym (add_assoc c m k)))

  pub sets_resume : (S : ℕ) → Resumes SetState (λ n s t. t ≡ set_after step S n s)
  sets_resume S = function_resumes SetState (set_after step S) (λ m n s i. record {
    column = sym (add_assoc s.column m n) i;
    set = sets_same m n s i;
  })
    where
      sets_same : (m n : ℕ) (s : SetState) → (set_after step S (m + n) s).set ≡ (set_after step S n (set_after step S m s)).set
      sets_same m n s =
          fun_ext (λ t. sets_append (step_from step s.column) S s.set m n t)
          ∙ ap (λ (f : ℕ → ℕ → ℕ → ℕ → ℕ). sets f S (sets (step_from step s.column) S s.set m) n) (later s.column m)

  pub runs_resume : Resumes RunState (λ n s t. t ≡ run_after step n s)
  runs_resume = function_resumes RunState (run_after step) (λ m n s i. record {
    column = sym (add_assoc s.column m n) i;
    state = states_same m n s i;
    left = sym (shr-shr s.left m n) i;
    right = sym (shr-shr s.right m n) i;
  })
    where
      states_same : (m n : ℕ) (s : RunState) → (run_after step (m + n) s).state ≡ (run_after step n (run_after step m s)).state
      states_same m n s =
          run_append (step_from step s.column) s.state m n s.left s.right
          ∙ ap (λ (f : ℕ → ℕ → ℕ → ℕ → ℕ). run f (run (step_from step s.column) s.state m s.left s.right) n (s.left / 2 ^ m) (s.right / 2 ^ m)) (later s.column m)
