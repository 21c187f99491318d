-- `mask::high` meets its contract. Assumes nothing.
use mathlib.Core.Path.{ap₂}
use Prim.Native.Nat.{ℕ}
use Rattle.mask.proofs.high.Goals as goal

pub returns : goal.returns
returns c = ap₂ (λ (u v : ℕ). record { care = u; value = v }) c.high.ensures c.high-2.ensures
