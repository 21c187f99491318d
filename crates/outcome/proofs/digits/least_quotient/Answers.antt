-- `outcome::digits::least_quotient` meets its contract. Assumes nothing.
use borrow.Author.Tests.{lt-ltb, le-ltb}
use Rattle.outcome.proofs.digits.least_quotient.Goals as goal

pub returns-then-count-unit : goal.returns-then-count-unit
returns-then-count-unit c = rw (lt-ltb _ _ c.if-count-unit.true)

pub returns-else-count-unit : goal.returns-else-count-unit
returns-else-count-unit c = rw (le-ltb _ _ c.if-count-unit.false)
