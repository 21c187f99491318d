-- `adder::result::result_cause` meets its contract: the words are looked at only where the format is supported. Assumes nothing.
use Rattle.std.proofs.Common.{rules}
use Rattle.format.proofs.Laws.{first_none, format_none}
use Rattle.format.specs.Format.{format_cause, operation_cause}
use Rattle.adder.proofs.result.result_cause.Goals as goal

pub words_cause-requires : goal.words_cause-requires
words_cause-requires c =
    let a = c.args in
    (format_none a.format).0 ((first_none (format_cause a.format) (operation_cause a.operation)).0 (search rules)).0
