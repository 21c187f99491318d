-- `lines::answered` meets its contract. Assumes nothing.
use Rattle.std.specs.Prelude.{Some}
use mathlib.Core.Path.{ap}
use mathlib.Core.Bool.{Bool}
use Rattle.lines.proofs.answered.Goals as goal

pub returns : goal.returns
returns c =
    let a = c.args in
    record {
      reply = c.generate-reply.result;
      replied = c.generate-reply.ensures;
      says = c.reply_line-line.ensures;
      then = ap (λ (t : Bool). Some (record { at = a.next; lines = a.n; stopped = t })) c.stops-stopped.ensures;
    }
