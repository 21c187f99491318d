-- `generator::row_of` meets its contract: two words of a valid job's format have a row or none. Assumes nothing.
use Rattle.std.proofs.Common.{◌∙◌}
use Rattle.adder.proofs.Causes.{row_row}
use Rattle.generator.proofs.Taken.{request_fit}
use Rattle.generator.proofs.row_of.Goals as goal

pub returns : goal.returns
returns c =
    let a = c.args in
    let j = a.job in
    let r = row_row j.setting.format j.setting.operation a.a a.b (request_fit j a.a a.b c.requires) in
    (rw (c.carry_row.ensures ∙ r) at c.unwrap_or.ensures)
