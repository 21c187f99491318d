-- `answers::admits` meets its contract. Assumes nothing.
use mathlib.Core.Bool.{false≢true}
use mathlib.Core.Path.{sym, subst}
use borrow.Author.Tests.{not-true}
use Rattle.special.specs.Asked.{PairFits}
use Rattle.classes.specs.declared.Fields.{Fields}
use Rattle.classes.specs.Class.{Ordered, InOrder}
use Rattle.classes.proofs.Order.{fields_ordered, in_order}
use Rattle.answers.proofs.admits.Goals as goal

pub may_admit-requires : goal.may_admit-requires
may_admit-requires c =
    let ordered_at : Ordered c.fields_of-fields.result = let a = c.args in subst Ordered (sym c.fields_of-fields.ensures) (fields_ordered a.ea a.eb) in
    ordered_at

pub returns-then-not-may_admit : goal.returns-then-not-may_admit
returns-then-not-may_admit c =
    let a = c.args in record {
      in_range = λ e. absurd (false≢true e);
      exact = λ asked end kept.
          let m = c.may_admit.ensures asked.valid end kept in (
            m.0,
            (
              λ e. absurd (false≢true e),
              λ p. absurd (m.1 (not-true c.may_admit.result c.if-not-may_admit.true-raw) (subst (λ (q : Fields). InOrder (PairFits a.job) q.order q.larger q.smaller) (sym c.fields_of-fields.ensures) ((in_order a.ea a.eb (PairFits a.job)).1 p))),
            ),
          );
    }

pub returns : goal.returns
returns c = record {
  in_range = λ e. c.pair_admits.ensures.in_range e;
  exact = λ asked end kept. ((c.may_admit.ensures asked.valid end kept).0, c.pair_admits.ensures.exact asked.valid);
}
