-- `outcome::digits::some_way` meets its contract. The invariant: no way that was passed has an answer. Assumes nothing.
use mathlib.Core.Path.{◌≡◌}
use Prim.Native.Nat.{ℕ, ◌/◌, ◌%◌, ◌^◌, ◌<◌}
use Rattle.format.specs.declared.Format.{Format}
use Rattle.mask.specs.declared.Mask.{Mask}
use Rattle.mask.specs.Mask.{Meets}
use Rattle.job.specs.Dropped.{ValidDropped}
use Rattle.word.specs.declared.Unit as exponent
use Rattle.rounding.specs.declared.Direction.{Direction}
use Rattle.rounding.specs.Outcome.{kept_of}
use Rattle.making.specs.declared.Aligned as pair
use Rattle.making.specs.Making.{Formed, Making}
use Rattle.outcome.proofs.Counted.{InOne}
use Rattle.outcome.proofs.digits.some_way.Given as goal

-- the kept part is as it is asked for
abbrev pub Keeps : Format → Direction → exponent.Unit → pair.Aligned → ℕ → Mask → ℕ → Type 0
Keeps F d u A quotient fraction n = (kept_of A.below F.f d n u / 2 ^ F.f ≡ quotient) × Meets (kept_of A.below F.f d n u % 2 ^ F.f) fraction

abbrev pub invariant-loop-way : goal.invariant-loop-way
invariant-loop-way l =
    (t : ℕ) → t < l.way → Formed l.format.f l.aligned → (valid : ValidDropped l.dropped) (some : 0 < l.count)
    → Making l.format.f l.aligned (InOne l.format l.aligned.below l.unit l.dropped valid l.count some (Keeps l.format l.direction l.unit l.aligned l.quotient l.fraction) t) → ⊥
