-- `adder::carry_row::carry_row` meets its contract. Assumes nothing.
use Rattle.std.proofs.Common.{rules, ◌≡◌, ◌∙◌, ap, ap₂}
use Rattle.std.specs.Prelude.{Ok}
use Rattle.format.specs.Cause.{clear}
use Rattle.word.specs.Word.{effective}
use Rattle.word.proofs.Canonical.{operand_sound}
use Rattle.adder.specs.Row.{kind_row, row_of, row_cause}
use Rattle.adder.proofs.Causes.{row_none}
use Rattle.adder.proofs.carry_row.carry_row.Goals as goal

pub kind_row-requires : goal.kind_row-requires
kind_row-requires c =
    let a = c.args in
    let fit = (row_none a.format a.operation a.a a.b).0 (search rules) in
    let both = c.operands-pair.ensures.0 fit.supported in
    (fit.supported, rw both.0 (operand_sound a.format a.a), rw both.1 (operand_sound a.format (effective a.format a.operation a.b)))

pub returns : goal.returns
unfolding row_of
returns c =
    let a = c.args in
    let none : row_cause a.format a.operation a.a a.b ≡ clear = search rules in
    let both = c.operands-pair.ensures.0 ((row_none a.format a.operation a.a a.b).0 none).supported in
    rw none (ap Ok (c.kind_row.ensures ∙ ap₂ (kind_row a.format) both.0 both.1))
