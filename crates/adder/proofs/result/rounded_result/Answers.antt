-- `adder::result::rounded_result` meets its contract. Assumes nothing.
use Rattle.std.proofs.Common.{rules, ◌≡◌, ◌∙◌, ap, ap₂}
use Rattle.std.specs.Prelude.{Ok}
use Rattle.format.specs.Cause.{clear}
use Rattle.word.specs.Word.{effective}
use Rattle.word.proofs.Canonical.{operand_sound}
use Rattle.adder.specs.Result.{kind_sum, result_of, result_cause}
use Rattle.adder.proofs.Causes.{result_none}
use Rattle.adder.proofs.result.rounded_result.Goals as goal

pub kind_sum-requires : goal.kind_sum-requires
kind_sum-requires c =
    let a = c.args in
    let fit = ((result_none a.format a.operation a.mode a.a a.b).0 (search rules)).0 in
    let both = c.operands-pair.ensures.0 fit.supported in
    (fit.supported, rw both.0 (operand_sound a.format a.a), rw both.1 (operand_sound a.format (effective a.format a.operation a.b)))

pub returns : goal.returns
unfolding result_of
returns c =
    let a = c.args in
    let none : result_cause a.format a.operation a.mode a.a a.b ≡ clear = search rules in
    let both = c.operands-pair.ensures.0 ((result_none a.format a.operation a.mode a.a a.b).0 none).0.supported in
    rw none (ap Ok (c.kind_sum.ensures ∙ ap₂ (kind_sum a.format a.mode) both.0 both.1))
