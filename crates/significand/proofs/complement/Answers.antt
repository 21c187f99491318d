-- `significand::complement` meets its contract. Assumes nothing.
use Rattle.std.proofs.Common.{◌∙◌, arith, pow_pos}
use Rattle.std.proofs.lemmas.Grind.{common_steps}
use Rattle.bits.proofs.Laws.{power_exact}
use Rattle.significand.proofs.complement.Goals as goal

pub overflow_sub-power : goal.overflow_sub-power
overflow_sub-power c = let k = c.args.k in omega (arith, c.power.ensures ∙ power_exact k c.requires, pow_pos k)

pub returns : goal.returns
returns c = grind (arith, common_steps, c.power.ensures ∙ power_exact c.args.k c.requires, c.saturating_sub.ensures)
