-- `outcome::some_from` meets its contract. The invariant: no number of digits that was passed has an answer. Assumes nothing.
use mathlib.Core.Path.{◌≡◌}
use Prim.Native.Nat.{ℕ, ◌≤◌, ◌<◌}
use lib.Ieee.{size}
use Rattle.job.specs.Dropped.{ValidDropped}
use Rattle.making.specs.Making.{Formed, Making}
use Rattle.outcome.specs.Outcome.{Serves}
use Rattle.outcome.proofs.some_from.Given as goal

abbrev pub invariant-loop-count : goal.invariant-loop-count
invariant-loop-count l =
    (n : ℕ) → n < l.count → l.first ≤ n → Formed l.format.f l.aligned → ValidDropped l.target.dropped → Making l.format.f l.aligned (λ (x : ℕ). (size x ≡ n) × Serves l.format l.mode l.sign l.unit l.aligned l.target x) → ⊥
