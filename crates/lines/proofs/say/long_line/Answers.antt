-- `lines::say::long_line` meets its contract. Assumes nothing.
use native.Mathlib.Omega.{arith}
use Rattle.lines.proofs.Texts.{says_grown}
use Rattle.lines.proofs.say.long_line.Goals as goal

pub returns : goal.returns
returns c = says_grown c.empty.ensures c.with_text.ensures (omega arith)
