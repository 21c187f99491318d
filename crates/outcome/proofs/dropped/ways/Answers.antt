-- `outcome::dropped::ways` meets its contract: the tests are those of `ways_of`. Assumes nothing.
use mathlib.Core.Path.{sym, ◌∙◌}
use native.Mathlib.Omega.{arith}
use Rattle.outcome.proofs.Ways.{ways_near, ways_none, ways_some, ways_one}
use Rattle.outcome.proofs.dropped.ways.Goals as goal

pub overflow_add-dropped : goal.overflow_add-dropped
overflow_add-dropped c = omega (arith, c.requires.0)

pub overflow_add-dropped-then-j-dropped : goal.overflow_add-dropped-then-j-dropped
overflow_add-dropped-then-j-dropped c = omega (arith, c.requires.0)

pub overflow_sub-dropped : goal.overflow_sub-dropped
overflow_sub-dropped c = omega (arith, c.if-j-dropped.true)

pub returns-then-low-eq0 : goal.returns-then-low-eq0
returns-then-low-eq0 c = sym (ways_near c.args.dropped c.args.j c.if-j-dropped.true (sym c.low.ensures ∙ c.if-low-eq0.true))

pub returns-then-j-dropped : goal.returns-then-j-dropped
returns-then-j-dropped c = sym (ways_none c.args.dropped c.args.j c.if-j-dropped.true (λ e. c.if-low-eq0.false (c.low.ensures ∙ e)))

pub overflow_sub-result : goal.overflow_sub-result
overflow_sub-result c = omega (arith, c.if-j-dropped.false)

pub returns-then-low-eq1 : goal.returns-then-low-eq1
returns-then-low-eq1 c = sym (ways_some c.args.dropped c.args.j c.if-j-dropped.false (sym c.low-2.ensures ∙ c.if-low-eq1.true))

pub returns : goal.returns
returns c = sym (ways_one c.args.dropped c.args.j c.if-j-dropped.false (λ e. c.if-low-eq1.false (c.low-2.ensures ∙ e)))
