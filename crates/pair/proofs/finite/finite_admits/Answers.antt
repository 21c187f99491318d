-- `pair::finite::finite_admits` meets its contract. Assumes nothing.
use mathlib.Core.Bool.{false≢true}
use mathlib.Core.Path.{sym, ◌∙◌}
use borrow.Author.Tests.{not-true, not-false}
use Rattle.pair.proofs.finite.finite_admits.Goals as goal

pub returns-then-not-finite_fields : goal.returns-then-not-finite_fields
returns-then-not-finite_fields c = record {
  finite = (λ e. absurd (false≢true e));
  exact = λ valid fin. absurd (false≢true (sym (not-true c.finite_fields.result c.if-not-finite_fields.true-raw) ∙ c.finite_fields.ensures.1 fin));
}

pub some_signs-requires : goal.some_signs-requires
some_signs-requires c = c.finite_fields.ensures.0 (not-false c.finite_fields.result c.if-not-finite_fields.false-raw)

pub returns : goal.returns
returns c = record {
  finite = (λ e. some_signs-requires c.before);
  exact = λ valid fin. c.some_signs.ensures valid;
}
