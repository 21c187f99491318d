-- What a walk over columns hands on, and where so many columns lead (document 02, W-204). Assumes nothing.
use Rattle.std.specs.Prelude.{Bool, ℕ, ◌+◌, ◌/◌, ◌^◌}
use Rattle.columns.specs.Machine.{run, sets}

-- the column before which a walk stands, and the states that the machine can be in
pub record SetState : Type 0 where
  pub column : ℕ
  pub set : ℕ → Bool

-- the same with one state, and what is left of the two numbers that the machine reads
pub record RunState : Type 0 where
  pub column : ℕ
  pub state : ℕ
  pub left : ℕ
  pub right : ℕ

module _ (step : ℕ → ℕ → ℕ → ℕ → ℕ) where
  -- the machine from column c on
  abbrev pub step_from : ℕ → ℕ → ℕ → ℕ → ℕ → ℕ
  step_from c k = step (c + k)

  -- n columns on, from a set of states, through states below S
  abbrev pub set_after : ℕ → ℕ → SetState → SetState
  set_after S n s = record { column = s.column + n; set = sets (step_from s.column) S s.set n }

  -- n columns on, from one state
  abbrev pub run_after : ℕ → RunState → RunState
  run_after n s = record {
    column = s.column + n;
    state = run (step_from s.column) s.state n s.left s.right;
    left = s.left / 2 ^ n;
    right = s.right / 2 ^ n;
  }
