-- `format::supported` meets its contract. Assumes nothing.
use Rattle.std.proofs.Common.{sym, ap, ◌∙◌}
use Rattle.std.specs.Prelude.{is_ok}
use Rattle.format.proofs.Laws.{format_none, ok_clear}
use Rattle.format.proofs.supported.Goals as goal

pub returns : goal.returns
returns c = (
  λ e. (format_none c.args.format).0 (sym c.format_cause.ensures ∙ ok_clear (sym c.is_ok.ensures.value ∙ e)),
  λ s. c.is_ok.ensures.value ∙ ap is_ok (c.format_cause.ensures ∙ (format_none c.args.format).1 s),
)
