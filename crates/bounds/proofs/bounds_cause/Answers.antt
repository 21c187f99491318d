-- `bounds::bounds_cause` meets its contract. Assumes nothing.
use Rattle.format.proofs.Laws.{supported_of, unsupported_of}
use Rattle.bounds.specs.Bounds.{bounds_cause}
use Rattle.bounds.proofs.bounds_cause.Goals as goal

pub returns-then-not-supported : goal.returns-then-not-supported
unfolding bounds_cause
returns-then-not-supported c = λ ok. absurd (unsupported_of c.supported.ensures c.if-not-supported.true ok)

pub ordered_ends-requires : goal.ordered_ends-requires
ordered_ends-requires c = supported_of c.supported.ensures c.if-not-supported.false
