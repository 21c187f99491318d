-- `lines::text::with_text` meets its contract: after i turns the line has grown by the first i bytes. Assumes nothing.
use Rattle.std.proofs.Common.{take}
use Rattle.lines.specs.Text.{Grown}
use Rattle.lines.proofs.text.with_text.Given as goal

abbrev pub invariant-loop-b : goal.invariant-loop-b
invariant-loop-b l = Grown l.initial.next l.next (take l.b-index l.text)
