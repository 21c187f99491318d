-- `bounds::ends_cause` meets its contract. Assumes nothing.
use native.Mathlib.Omega.{arith}
use Rattle.format.proofs.Laws.{supported_of, unsupported_of}
use Rattle.format.proofs.Room.{word_room}
use Rattle.bounds.specs.Bounds.{ends_cause}
use Rattle.bounds.proofs.ends_cause.Goals as goal

pub returns-then-not-supported : goal.returns-then-not-supported
unfolding ends_cause
returns-then-not-supported c = λ ok. absurd (unsupported_of c.supported.ensures c.if-not-supported.true ok)

pub overflow_add-width : goal.overflow_add-width
overflow_add-width c = omega (arith, word_room c.args.format (supported_of c.supported.ensures c.if-not-supported.false))

pub overflow_add-width-2 : goal.overflow_add-width-2
overflow_add-width-2 c = omega (arith, word_room c.args.format (supported_of c.supported.ensures c.if-not-supported.false))
