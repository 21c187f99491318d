-- `generator::generate` meets its contract: what names a cause is refused with it; of the rest the search chooses the operands, or tells
-- that no case is left, and the result and the row follow from the operands. Assumes nothing.
use mathlib.Core.Path.{refl, sym, ◌∙◌, subst}
use mathlib.Core.Logic.{inr}
use Rattle.search.specs.Choice.{Chosen}
use Rattle.generator.specs.Promise as promise
use Rattle.job.proofs.Laws.{request_none}
use Rattle.generator.proofs.Taken.{fits_request, case_chosen}
use Rattle.generator.proofs.generate.Goals as goal

pub case_of-requires : goal.case_of-requires
case_of-requires c =
    let a = c.args in
    let taken = (request_none a.job a.r1 a.r2).0 (sym c.request_cause.ensures ∙ c.in_ok-request_cause.was) in
    let m = (subst (Chosen a.job _ _) c.in-Some.is (c.choose.ensures.chosen taken.valid)).1.member in
    fits_request a.job c.in-Some.pair.a c.in-Some.pair.b m.0 a.r1 a.r2 taken m.1

pub returns-in-Some : goal.returns-in-Some
returns-in-Some c =
    let a = c.args in
    let e = sym c.request_cause.ensures ∙ c.in_ok-request_cause.was in
    let valid = ((request_none a.job a.r1 a.r2).0 e).valid in
    let closest = (subst (Chosen a.job a.r1 a.r2) c.in-Some.is (c.choose.ensures.chosen valid)).1 in (
      e,
      subst (promise.Chosen a.job a.r1 a.r2) (sym c.case_of.ensures) (case_chosen a.job a.r1 a.r2 c.in-Some.pair.a c.in-Some.pair.b closest),
    )

pub returns-in-None : goal.returns-in-None
returns-in-None c =
    let a = c.args in
    let e = sym c.request_cause.ensures ∙ c.in_ok-request_cause.was in
    let valid = ((request_none a.job a.r1 a.r2).0 e).valid in
    let none = subst (Chosen a.job a.r1 a.r2) c.in-None.is (c.choose.ensures.chosen valid) in
    inr (record { taken = e; none = λ x y z f. none (record { valid = valid; left = record { a = x; b = y; c = z; fits = f } }) }, refl)
