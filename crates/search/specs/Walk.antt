-- What the bit walk asks, hands on and promises (document 01, "each bit of a, from the top, follows the first random word": recursion over
-- the bits still open; document 02, W-204). Nothing here is needed to read the choice. Assumes nothing.
use Rattle.std.specs.Prelude.{ℕ, ◌^◌, ◌≤◌, ◌<◌}
use Rattle.format.specs.Format.{word_bits}
use Rattle.steps.specs.Steps.{Leads}
use Rattle.choice.specs.Walk.{BitWalk, WalkState, FixedFrom, NextBit, EndOfWalk}
use Rattle.job.specs.declared.Job.{Job}
use Rattle.job.specs.declared.Role.{Role}
use Rattle.job.specs.Role.{member, wanted, with_word_mask}
use Rattle.fit.specs.Fit.{Fits}
use Rattle.pass.specs.declared.Exponents.{Exponents}
use Rattle.pass.specs.First.{NoneBefore, FirstPair}
use Rattle.search.specs.declared.walk.State.{State}
use Rattle.left.specs.Left.{Ready}

-- a case is left, and the word's bits from position k on are fixed
pub record OpenBits (j : Job) (role : Role) (k : ℕ) : Type 0 where
  pub ready : Ready j
  pub most : k ≤ word_bits j.setting.format
  pub fixed : FixedFrom (word_bits j.setting.format) (wanted role j).mask k

-- and no case, bounds left out, has exponent fields before p
pub record WalkStart (j : Job) (role : Role) (k : ℕ) (p : Exponents) : Type 0 where
  pub top : OpenBits j role k
  pub none : NoneBefore j p

-- the three words of a case as one, which fit, and of which one is fixed
abbrev pub Triple : Type 0
Triple = ℕ × ℕ × ℕ

abbrev pub TripleFits : Job → Triple → Type 0
TripleFits j p = Fits j p.0 p.1 p.2

abbrev pub member_of : Role → Triple → ℕ
member_of role p = member role p.0 p.1 p.2

-- p is the first pair of exponent fields that admits a case, bounds left out
pub record FoundAt (j : Job) (p : Exponents) : Type 0 where
  pub first : FirstPair j p
  pub within : p.a.0 < 2 ^ j.setting.format.w

-- the walk over the bits of the word, whose search stands at a pair of exponent fields
abbrev pub walk_of : Job → Role → BitWalk
walk_of j role = record {
  Case = Triple;
  number = member_of role;
  Fits = λ m. TripleFits (with_word_mask role j m);
  At = Exponents;
  Found = λ m. FoundAt (with_word_mask role j m);
}

-- the state as the laws of a bit walk have it
abbrev pub walk_state : State → WalkState Exponents
walk_state s = record { mask = s.mask; open_bits = s.open_bits; at = s.at }

-- a walk can start at the state s: with its mask a case is left, the bits above its open ones are fixed, and no case, bounds left out,
-- has exponent fields before its pair
abbrev pub StartState : Job → Role → State → Type 0
StartState j role s = WalkStart (with_word_mask role j s.mask) role s.open_bits s.at

-- t is s with its highest open bit chosen
abbrev pub NextState : Job → Role → ℕ → State → State → Type 0
NextState j role word s t = NextBit (walk_of j role) word (walk_state s) (walk_state t)

-- so many steps lead from s to t, where a walk can start at s
abbrev pub StateRun : Job → Role → ℕ → ℕ → State → State → Type 0
StateRun j role word count s t = StartState j role s → Leads State (NextState j role word) count s t

-- t is j with the word fixed to its closest value, and pairs of exponent fields that admit no case of j, bounds left out, admit none of t
pub record WalkEnd (j : Job) (role : Role) (word : ℕ) (t : Job) : Type 0 where
  pub ready : Ready t
  pub none : (n : Exponents) → NoneBefore j n → NoneBefore t n
  pub ends : EndOfWalk Triple (member_of role) (TripleFits j) word (TripleFits t) (wanted role t).mask.value
