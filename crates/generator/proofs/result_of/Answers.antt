-- `generator::result_of` meets its contract: two words of a valid job's format have a result. Assumes nothing.
use Rattle.std.proofs.Common.{◌∙◌}
use Rattle.adder.proofs.Causes.{result_word}
use Rattle.generator.proofs.Taken.{request_fit}
use Rattle.generator.proofs.result_of.Goals as goal

pub returns : goal.returns
returns c =
    let a = c.args in
    let j = a.job in
    let r = result_word j.setting.format j.setting.operation j.setting.mode a.a a.b (request_fit j a.a a.b c.requires) c.requires.valid.setting.mode in
    (rw (c.rounded_result.ensures ∙ r) at c.unwrap_or.ensures)
