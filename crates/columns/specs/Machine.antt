-- A machine that reads two numbers a column of bits at a time, lowest first, and the sets of states that it can be in.
-- A state is a number below S; a result of S or more is dead. What a state stands for is the user's. Assumes nothing.
-- Internal: no public contract cites this.
use Rattle.std.specs.Prelude.{◌≡◌, Bool, true, false, ◌&&◌, ◌||◌, ℕ, zero, suc, ◌^◌, ◌<◌, eqb}
use Rattle.bits.specs.Bit.{bit}

-- the test passes at some number below n
abbrev pub some : ℕ → (ℕ → Bool) → Bool
some zero f = false
some (suc n) f = some n f || f n

-- step i s l r is the state after column i, from the state s, at the bits l and r of the two numbers
module _ (step : ℕ → ℕ → ℕ → ℕ → ℕ) where
  -- the state after i columns of L and R, from s
  unfoldable pub run : ℕ → ℕ → ℕ → ℕ → ℕ
  run s zero L R = s
  run s (suc i) L R = step i (run s i L R) (bit L i) (bit R i)

  -- column i leads from s to t at some two bits
  unfoldable pub into : ℕ → ℕ → ℕ → Bool
  into i s t = some 2 (λ l. some 2 (λ r. eqb (step i s l r) t))

  -- t is reached after i columns from a state of `init`, through states below S
  unfoldable pub sets : ℕ → (ℕ → Bool) → ℕ → ℕ → Bool
  sets S init zero t = init t
  sets S init (suc i) t = some S (λ s. sets S init i s && into i s t)

-- two numbers of i bits drive the machine to t from a state of `init`
pub record Reached (step : ℕ → ℕ → ℕ → ℕ → ℕ) (S : ℕ) (init : ℕ → Bool) (i t : ℕ) : Type 0 where
  pub from : ℕ
  pub L : ℕ
  pub R : ℕ
  pub from_lt : from < S
  pub from_in : init from ≡ true
  pub L-lt : L < 2 ^ i
  pub R-lt : R < 2 ^ i
  pub ends : run step from i L R ≡ t
