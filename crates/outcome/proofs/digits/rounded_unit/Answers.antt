-- `outcome::digits::rounded_unit` meets its contract. Assumes nothing.
use mathlib.Core.Path.{ap}
use Prim.Native.Nat.{ℕ}
use Rattle.word.specs.declared.Unit as exponent
use Rattle.outcome.proofs.digits.rounded_unit.Goals as goal

of : ℕ → exponent.Unit
of n = record { 0 = n }

pub returns : goal.returns
unfolding of
returns c = ap of c.saturating_sub.ensures
