-- `pass::span::asked_from` meets its contract: by that of `open_from`, or by that of `sum_from` where b's field is the larger one. Assumes
-- nothing.
use mathlib.Core.Bool.{and-eq-true_iff}
use native.Mathlib.Omega.{arith}
use lib.Dec.{eqb, ltb}
use borrow.Author.Tests.{ltb-true}
use Rattle.pass.proofs.span.asked_from.Goals as goal

pub sum_from-requires : goal.sum_from-requires
sum_from-requires c = c.requires

pub returns-then-open-eb : goal.returns-then-open-eb
returns-then-open-eb c =
    let a = c.args in
    let below = c.saturating_sub in
    let above = ltb-true a.ea.0 below.result ((and-eq-true_iff (eqb c.open_from-open.result.0 a.eb.0) (ltb a.ea.0 below.result)).0 c.if-open-eb.true).1 in
    (c.sum_from.ensures.0, λ valid is kept d from to. c.sum_from.ensures.1 valid is 1 d a.ea from to (omega (arith, below.ensures)))

pub returns : goal.returns
returns c =
    let passed = c.open_from-open in
    (passed.ensures.0, λ valid is kept. passed.ensures.1 valid is.end kept)
