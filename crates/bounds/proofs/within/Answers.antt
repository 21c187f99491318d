-- `bounds::within` meets its contract. Assumes nothing.
use Rattle.format.proofs.Laws.{supported_of, unsupported_of}
use Rattle.bounds.proofs.within.Goals as goal

pub returns-then-not-supported : goal.returns-then-not-supported
returns-then-not-supported c = λ ok. absurd (unsupported_of c.supported.ensures c.if-not-supported.true ok)

pub lies_between-requires : goal.lies_between-requires
lies_between-requires c = supported_of c.supported.ensures c.if-not-supported.false
