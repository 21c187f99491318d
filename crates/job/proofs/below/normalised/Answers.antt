-- `job::below::normalised` meets its contract. Assumes nothing.
use Rattle.job.specs.Dropped.{normalised}
use borrow.Author.Tests.{eq-eqb, ne_eqb}
use Rattle.job.proofs.below.normalised.Goals as goal

pub returns-then-dropped-eq0 : goal.returns-then-dropped-eq0
unfolding normalised
returns-then-dropped-eq0 c = rw (eq-eqb c.args.dropped.mask.care 0 c.if-dropped-eq0.true)

pub returns-else-dropped-eq0 : goal.returns-else-dropped-eq0
unfolding normalised
returns-else-dropped-eq0 c = rw (ne_eqb c.args.dropped.mask.care 0 c.if-dropped-eq0.false)
