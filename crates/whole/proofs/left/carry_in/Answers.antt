-- `whole::left::carry_in` meets its contract. Assumes nothing.
use mathlib.Core.Path.{ap, ◌∙◌}
use mathlib.Core.Bool.{Bool}
use Rattle.chain.specs.Walk.{flag}
use Rattle.chain.proofs.Words.{byte_digit}
use Rattle.whole.proofs.left.carry_in.Goals as goal

pub returns : goal.returns
returns c = byte_digit c.allows.result ∙ ap (λ (v : Bool). flag v 0) c.allows.ensures
