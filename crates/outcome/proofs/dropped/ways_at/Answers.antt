-- `outcome::dropped::ways_at` meets its contract: the tests are those of `ways_at`. Assumes nothing.
use mathlib.Core.Path.{ap, ◌∙◌}
use native.Mathlib.Omega.{arith}
use borrow.Author.Tests.{lt-ltb, le-ltb, eq-eqb, ne_eqb}
use Rattle.outcome.specs.Ways.{ways_of, ways_at}
use Rattle.outcome.proofs.dropped.ways_at.Goals as goal

pub returns-then-dropped-eq0 : goal.returns-then-dropped-eq0
unfolding ways_at
returns-then-dropped-eq0 c = rw (eq-eqb _ _ c.if-dropped-eq0.true)

pub overflow_add-count : goal.overflow_add-count
overflow_add-count c = omega (arith, c.requires.2, c.requires.3)

pub overflow_add-below : goal.overflow_add-below
overflow_add-below c = omega (arith, c.requires.0)

pub overflow_add-f : goal.overflow_add-f
overflow_add-f c = omega (arith, c.requires.0)

pub returns-then-count-unit : goal.returns-then-count-unit
unfolding ways_at
returns-then-count-unit c = rw (ne_eqb _ _ c.if-dropped-eq0.false, lt-ltb _ _ c.if-count-unit.true)

pub overflow_add-f-2 : goal.overflow_add-f-2
overflow_add-f-2 c = omega (arith, c.requires.0)

pub ways-requires : goal.ways-requires
ways-requires c = (c.requires.1, omega (arith, c.saturating_sub.ensures, c.requires.3))

pub returns : goal.returns
unfolding ways_at
returns c = rw (ne_eqb _ _ c.if-dropped-eq0.false, le-ltb _ _ c.if-count-unit.false) (c.ways.ensures ∙ ap (ways_of c.args.dropped) c.saturating_sub.ensures)
