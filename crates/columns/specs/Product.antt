-- Two machines side by side on the same two numbers, as one machine. The first has S states and the second T; the pair (s, t) is the
-- number s + S * t, and a pair with a dead state in it is dead. So a test of the bits of a column (a comparison, a count) runs beside
-- the machine that reads them. Assumes nothing.
-- Internal: no public contract cites this.
use Rattle.std.specs.Prelude.{◌≡◌, Bool, true, cond, ◌&&◌, ℕ, ◌+◌, ◌*◌, ◌/◌, ◌%◌, ◌^◌, ◌<◌, ltb}
use Rattle.columns.specs.Machine.{run}

-- the state of the pair (s, t)
unfoldable pub paired : ℕ → ℕ → ℕ → ℕ → ℕ
paired S T s t = cond (ltb s S && ltb t T) (s + S * t) (S * T)

-- each machine steps from its own state
unfoldable pub product : ℕ → ℕ → (ℕ → ℕ → ℕ → ℕ → ℕ) → (ℕ → ℕ → ℕ → ℕ → ℕ) → ℕ → ℕ → ℕ → ℕ → ℕ
product S T first second i u l r = paired S T (first i (u % S) l r) (second i (u / S) l r)

-- a set of pairs, as one of states
abbrev pub pairs : ℕ → (ℕ → ℕ → Bool) → ℕ → Bool
pairs S init u = init (u % S) (u / S)

-- the same two numbers of i bits drive the first machine to s and the second to t, from a pair of `init`
pub record ReachedBoth (S T : ℕ) (first second : ℕ → ℕ → ℕ → ℕ → ℕ) (init : ℕ → ℕ → Bool) (i s t : ℕ) : Type 0 where
  pub from : ℕ
  pub from' : ℕ
  pub L : ℕ
  pub R : ℕ
  pub from_lt : from < S
  pub from'_lt : from' < T
  pub from_in : init from from' ≡ true
  pub L-lt : L < 2 ^ i
  pub R-lt : R < 2 ^ i
  pub ends : run first from i L R ≡ s
  pub ends' : run second from' i L R ≡ t
