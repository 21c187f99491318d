-- `answers::known::askable` meets its contract. Assumes nothing.
use mathlib.Core.Bool.{false≢true}
use borrow.Author.Tests.{ltb-true, lt-ltb}
use Rattle.format.proofs.Laws.{supported_of, unsupported_of}
use Rattle.answers.proofs.known.askable.Goals as goal

pub returns-then-not-supported : goal.returns-then-not-supported
returns-then-not-supported c = (λ e. absurd (false≢true e), λ p. absurd (unsupported_of c.supported.ensures c.if-not-supported.true p.0))

pub returns : goal.returns
returns c = (λ e. (supported_of c.supported.ensures c.if-not-supported.false, ltb-true _ _ e), λ p. lt-ltb _ _ p.1)
