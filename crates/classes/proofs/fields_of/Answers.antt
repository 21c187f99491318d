-- `classes::fields_of` meets its contract. Assumes nothing.
use Rattle.std.proofs.Common.{le-leb}
use borrow.Author.Tests.{lt-leb}
use Rattle.classes.specs.Class.{fields_of}
use Rattle.classes.proofs.fields_of.Goals as goal

pub returns-then-eb-ea : goal.returns-then-eb-ea
unfolding fields_of
returns-then-eb-ea c = let a = c.args in rw (le-leb a.eb.0 a.ea.0 c.if-eb-ea.true)

pub returns-else-eb-ea : goal.returns-else-eb-ea
unfolding fields_of
returns-else-eb-ea c = let a = c.args in rw (lt-leb a.eb.0 a.ea.0 c.if-eb-ea.false)
