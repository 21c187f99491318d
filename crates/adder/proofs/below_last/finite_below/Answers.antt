-- `adder::below_last::finite_below` meets its contract: the bits do not depend on the order. Assumes nothing.
use mathlib.Core.Path.{sym, ◌∙◌}
use native.Mathlib.Nat.{le_of_lt}
use borrow.Author.Tests.{ltb-true, ltb-false}
use Rattle.word.specs.Operand.{magnitude}
use Rattle.adder.proofs.BelowLaws.{below_comm}
use Rattle.adder.proofs.below_last.finite_below.Goals as goal

pub ordered_below-requires : goal.ordered_below-requires
ordered_below-requires c =
    (c.requires.0, c.requires.1, c.requires.3, c.requires.2, le_of_lt (ltb-true (magnitude c.args.x) (magnitude c.args.y) (sym c.smaller.ensures ∙ c.if-smaller.true)))

pub ordered_below-requires-else-smaller : goal.ordered_below-requires-else-smaller
ordered_below-requires-else-smaller c =
    (c.requires.0, c.requires.1, c.requires.2, c.requires.3, ltb-false (magnitude c.args.x) (magnitude c.args.y) (sym c.smaller.ensures ∙ c.if-smaller.false))

pub returns-then-smaller : goal.returns-then-smaller
returns-then-smaller c =
    c.ordered_below.ensures ∙ below_comm c.args.format c.args.g c.args.y c.args.x
