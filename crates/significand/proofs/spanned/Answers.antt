-- `significand::spanned` meets its contract. Assumes nothing.
use Rattle.std.proofs.Common.{ℕ, ap}
use Rattle.significand.proofs.spanned.Goals as goal

pub returns : goal.returns
returns c = ap (λ (n : ℕ). record { care = n; value = c.args.l }) c.complement.ensures
