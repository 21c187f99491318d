-- `chain::walk::meet` meets its contract. Assumes nothing.
use mathlib.Core.Path.{ap₂, ◌∙◌}
use mathlib.Core.Bool.{Bool, ◌||◌}
use lib.Bits.{bit_and}
use Rattle.chain.proofs.Words.{mem_and, mem_or}
use Rattle.chain.proofs.walk.meet.Goals as goal

pub returns : goal.returns
returns c i =
    let a = c.args in
    mem_or (bit_and a.a.zero a.b.zero) (bit_and a.a.one a.b.one) i
    ∙ ap₂ (λ (p q : Bool). p || q) (mem_and a.a.zero a.b.zero i) (mem_and a.a.one a.b.one i)
