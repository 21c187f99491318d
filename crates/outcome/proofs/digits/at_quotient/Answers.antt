-- `outcome::digits::at_quotient` meets its contract: the unit of the rounded number and the quotient make the exponent field, and
-- the question is put in a direction that keeps the same part. Assumes nothing.
use native.Mathlib.Omega.{arith}
use Rattle.making.proofs.Made.{most_digits_bounds, aligned_lt}
use Rattle.outcome.specs.Question.{Sized}
use Rattle.outcome.proofs.Room.{unit_short, field_formed}
use Rattle.outcome.proofs.Exact.{alike_asked}
use Rattle.outcome.proofs.Counted.{quotient_asked, quotient_refused}
use Rattle.outcome.proofs.digits.at_quotient.Goals as goal

pub rounded_unit-requires : goal.rounded_unit-requires
rounded_unit-requires c =
    let a = c.args in
    (aligned_lt a.format.f a.aligned c.requires.1, unit_short a.format a.sign a.unit c.requires.0, omega (arith, c.requires.3, (most_digits_bounds a.aligned.below a.format.f a.aligned.like).1))

pub rounds_as-requires : goal.rounds_as-requires
rounds_as-requires c =
    let a = c.args in
    (c.requires.1, unit_short a.format a.sign a.unit c.requires.0, c.requires.2, c.requires.3, c.requires.4, c.in-Some.ensures.care_lt, c.in-Some.ensures.value_lt, c.requires.6, c.requires.7)

pub returns-in-None : goal.returns-in-None
returns-in-None c =
    let a = c.args in
    let e = c.field_of-exponent in
    let k = c.rounded_unit in
    λ formed valid. quotient_refused a.format a.direction a.sign a.unit a.aligned a.target.c a.count a.quotient (Sized a.format a.aligned.below a.unit a.target.dropped a.count) (λ n p. p.0) e.result
    (field_formed a.format a.sign a.unit c.requires.0 a.aligned.below a.count a.quotient (omega (arith, c.requires.3, c.requires.1.columns)) c.requires.4 k.result e.result k.ensures e.ensures)
    c.in-None.ensures

pub returns-in-Some : goal.returns-in-Some
returns-in-Some c =
    let a = c.args in
    let fraction = c.in-Some.fraction in
    let e = c.field_of-exponent in
    let k = c.rounded_unit in
    λ formed valid. quotient_asked a.format a.direction a.sign a.unit a.aligned a.target.c a.count a.quotient (Sized a.format a.aligned.below a.unit a.target.dropped a.count) (λ n p. p.0) e.result
    (field_formed a.format a.sign a.unit c.requires.0 a.aligned.below a.count a.quotient (omega (arith, c.requires.3, c.requires.1.columns)) c.requires.4 k.result e.result k.ensures e.ensures)
    fraction c.rounds_as.result c.in-Some.ensures
    (alike_asked a.format.f a.asked a.direction a.unit a.aligned a.count (c.requires.5 formed) (Sized a.format a.aligned.below a.unit a.target.dropped a.count) (λ n p. p.0)
    a.quotient fraction c.rounds_as.result (c.rounds_as.ensures formed valid))
