-- `special::special_admits` meets its contract: there is no row and no bit below the last, so a fixed one refuses; else the representatives
-- settle it.
-- Assumes nothing.
use mathlib.Core.Path.{sym, ◌∙◌}
use mathlib.Core.Bool.{false≢true}
use borrow.Author.Tests.{not-true, not-false}
use Rattle.special.proofs.Laws.{fields_in_range, admitted_sound, admitted_complete, special_unfixed}
use Rattle.special.proofs.special_admits.Goals as goal

pub returns-then-not-special_fields : goal.returns-then-not-special_fields
returns-then-not-special_fields c =
    let a = c.args in
    let no = not-true c.special_fields.result c.if-not-special_fields.true-raw in record {
      special = (λ e. absurd (false≢true e));
      exact = λ valid special. (
        (λ e. absurd (false≢true e)),
        λ p. absurd (false≢true (sym no ∙ c.special_fields.ensures.1 (fields_in_range a.job valid a.ea a.eb p, special))),
      );
    }

pub returns-then-job-ne0 : goal.returns-then-job-ne0
returns-then-job-ne0 c =
    let a = c.args in record {
      special = (λ e. absurd (false≢true e));
      exact = λ valid special. ((λ e. absurd (false≢true e)), λ p. absurd (c.if-job-ne0.true (special_unfixed a.job valid a.ea a.eb special p).carries));
    }

pub returns-then-job-ne0-2 : goal.returns-then-job-ne0-2
returns-then-job-ne0-2 c =
    let a = c.args in record {
      special = (λ e. absurd (false≢true e));
      exact = λ valid special. ((λ e. absurd (false≢true e)), λ p. absurd (c.if-job-ne0-2.true (special_unfixed a.job valid a.ea a.eb special p).dropped));
    }

pub returns : goal.returns
returns c =
    let a = c.args in
    let fields = c.special_fields.ensures.0 (not-false c.special_fields.result c.if-not-special_fields.false-raw) in
    let range = fields.0 in record {
      special = (λ e. fields);
      exact = λ valid special.
          let is = c.admitted.ensures valid range.a_lt range.b_lt in (
            (λ e. admitted_sound a.job valid a.ea a.eb range special (record { carries = c.if-job-ne0.false; dropped = c.if-job-ne0-2.false }) (sym is ∙ e)),
            λ p. is ∙ admitted_complete a.job valid a.ea a.eb special p,
          );
    }
