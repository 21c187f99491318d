-- `outcome::digits::may_carry` meets its contract: where it replies false, the direction is toward zero, or a number of more digits is not
-- made. Assumes nothing.
use mathlib.Core.Path.{◌∙◌}
use borrow.Author.Tests.{not-false, eqb-true}
use lib.Dec.{eqb}
use Rattle.outcome.proofs.Carried.{never_toward_zero, never_longest}
use native.Mathlib.Omega.{arith}
use Rattle.making.proofs.Made.{most_digits_bounds}
use Rattle.outcome.proofs.digits.may_carry.Goals as goal

pub returns-in-TowardZero : goal.returns-in-TowardZero
returns-in-TowardZero c =
    let a = c.args in
    λ r formed unit. never_toward_zero a.f a.direction unit a.aligned a.count c.requires.1
    (omega (arith, c.requires.2, (most_digits_bounds a.aligned.below a.f a.aligned.like).1)) c.in-TowardZero.is

pub returns-in-NearestEven : goal.returns-in-NearestEven
returns-in-NearestEven c =
    let a = c.args in
    let m = c.columns in
    λ r formed unit. never_longest a.f a.direction unit a.aligned a.count c.requires.1
    (eqb-true a.count m.result (not-false (eqb a.count m.result) r) ∙ m.ensures formed.room) formed
