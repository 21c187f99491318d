-- `pass::first_pair` meets its contract. Assumes nothing.
use Rattle.format.proofs.Laws.{supported_of, unsupported_of}
use Rattle.pass.proofs.first_pair.Goals as goal

pub returns-then-not-supported : goal.returns-then-not-supported
returns-then-not-supported c = λ valid. absurd (unsupported_of c.supported.ensures c.if-not-supported.true valid.setting.format)

pub first_from-requires : goal.first_from-requires
first_from-requires c = supported_of c.supported.ensures c.if-not-supported.false

pub returns : goal.returns
returns c = c.first_from.ensures
