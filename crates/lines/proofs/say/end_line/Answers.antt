-- `lines::say::end_line` meets its contract. Assumes nothing.
use native.Mathlib.Omega.{arith}
use Rattle.lines.specs.Text.{end_line}
use Rattle.lines.proofs.Texts.{grown_then, says_grown}
use Rattle.lines.proofs.say.end_line.Goals as goal

pub returns : goal.returns
unfolding end_line
returns c =
    let all = grown_then c.with_text-end.ensures (grown_then c.with_decimal.ensures.0 c.with_text.ensures) in
    says_grown c.empty.ensures all (omega (arith, all.len, c.empty.ensures.len, c.with_text-end.ensures.len, c.with_text.ensures.len, c.with_decimal.ensures.1))
