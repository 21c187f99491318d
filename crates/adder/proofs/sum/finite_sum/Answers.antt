-- `adder::sum::finite_sum` meets its contract: the sum does not depend on the order. Assumes nothing.
use mathlib.Core.Path.{sym, ◌∙◌}
use native.Mathlib.Nat.{le_of_lt}
use borrow.Author.Tests.{ltb-true, ltb-false}
use Rattle.word.specs.Operand.{magnitude}
use Rattle.adder.proofs.FiniteSum.{finite_sum_comm}
use Rattle.adder.proofs.sum.finite_sum.Goals as goal

pub ordered_sum-requires : goal.ordered_sum-requires
ordered_sum-requires c =
    (c.requires.0, c.requires.2, c.requires.1, le_of_lt (ltb-true (magnitude c.args.x) (magnitude c.args.y) (sym c.smaller.ensures ∙ c.if-smaller.true)))

pub ordered_sum-requires-else-smaller : goal.ordered_sum-requires-else-smaller
ordered_sum-requires-else-smaller c =
    (c.requires.0, c.requires.1, c.requires.2, ltb-false (magnitude c.args.x) (magnitude c.args.y) (sym c.smaller.ensures ∙ c.if-smaller.false))

pub returns-then-smaller : goal.returns-then-smaller
returns-then-smaller c =
    c.ordered_sum.ensures ∙ finite_sum_comm c.args.format c.args.mode c.args.y c.args.x
