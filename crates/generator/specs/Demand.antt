-- Demand 3 in one statement, sentence by sentence: of the reply p to a job j and two random words against which no cause stands. That none
-- stands is `Request`: a supported format, either operation, each of the modes, five well-formed masks, that of the dropped bits with a g of
-- 8 at most, bounds that are numbers in order (W-207) or none, and words no wider than the format. Assumes nothing.
use Rattle.format.specs.declared.cause.Cause.{Cause}
use Rattle.std.specs.Prelude.{◌≡◌, ◌⊎◌, ◌↔◌, ℕ, ◌<◌, Result, Ok, Err}
use Rattle.std.specs.Int.Bits.{bit_xor}
use Rattle.format.specs.declared.cause.Cause.TheVariants as cause
use Rattle.job.specs.declared.Job.{Job}
use Rattle.job.specs.Job.{Request}
use Rattle.fit.specs.Fit.{Fits}
use Rattle.generator.specs.declared.Case.{Case}
use Rattle.generator.specs.Promise.{Replied}

-- x is the case (a, b, c)
abbrev pub Is : Case → ℕ → ℕ → ℕ → Type 0
Is x a b c = (x.a ≡ a) × (x.b ≡ b) × (x.c ≡ c)

-- "a case that fits, and every other case that fits has a larger value of a exclusive-or the first random word, or the same a and a
-- larger value of b exclusive-or the second"
pub record Best (j : Job) (r1 r2 : ℕ) (x : Case) : Type 0 where
  pub fits : Fits j x.a x.b x.c
  pub others : (a b c : ℕ) → Fits j a b c → (Is x a b c → ⊥) → (bit_xor x.a r1 < bit_xor a r1) ⊎ ((a ≡ x.a) × (bit_xor x.b r2 < bit_xor b r2))

-- "with all but the random words unchanged", the case (a, b, c) is the reply to some pair of them, and they have no other
pub record Reachable (j : Job) (a b c : ℕ) : Type 0 where
  pub r1 : ℕ
  pub r2 : ℕ
  pub request : Request j r1 r2
  pub case : Case
  pub is : Is case a b c
  pub reply : Replied j r1 r2 (Ok case)
  pub only : (p : Result Case Cause) → Replied j r1 r2 p → p ≡ Ok case

-- "no case" is the cause `NoCase`, whose number is 7
pub record Demand3 (j : Job) (r1 r2 : ℕ) (p : Result Case Cause) : Type 0 where
  -- "'no case' is said exactly when no three words of the format .. fit": W-206, "when c is the rounded result and the case meets everything
  -- that its job states"
  pub nothing_fits : (p ≡ Err cause.NoCase) ↔ ((a b c : ℕ) → Fits j a b c → ⊥)
  -- "Otherwise the reply is a case that fits, and every other .."
  pub otherwise : (p ≡ Err cause.NoCase) ⊎ ((x : Case) × (p ≡ Ok x) × Best j r1 r2 x)
  -- "each case that fits is the reply to some pair of them"
  pub every_case : (a b c : ℕ) → Fits j a b c → Reachable j a b c
