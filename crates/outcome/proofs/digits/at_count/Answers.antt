-- `outcome::digits::at_count` meets its contract: above the fraction stands one of two neighbours, and each that may stand there is asked.
-- Assumes nothing.
use Prim.Native.Nat.{ℕ, ◌≤◌}
use native.Mathlib.Omega.{arith}
use borrow.Author.Tests.{not-true}
use Rattle.mask.specs.Mask.{Meets}
use Rattle.word.specs.Word.{signed}
use Rattle.rounding.specs.Width.{sum_bits}
use Rattle.rounding.specs.Outcome.{bounded_held}
use Rattle.making.specs.declared.Aligned as pair
use Rattle.making.specs.Making.{columns_of}
use Rattle.making.proofs.Made.{most_digits_bounds, aligned_lt}
use Rattle.outcome.specs.Question.{Sized}
use Rattle.outcome.proofs.Room.{unit_short}
use Rattle.outcome.proofs.Kept.{least_le}
use Rattle.outcome.proofs.Exact.{never_alike}
use Rattle.outcome.proofs.Counted.{first_quotient, second_quotient, only_quotient}
use Rattle.outcome.proofs.digits.at_count.Goals as goal

-- no more digits than a sum has
most : (f : ℕ) (A : pair.Aligned) (count : ℕ) → count ≤ columns_of f A → count ≤ sum_bits A.below f
most f A count h = omega (arith, (most_digits_bounds A.below f A.like).1)

pub least_quotient-h-requires : goal.least_quotient-h-requires
least_quotient-h-requires c =
    let a = c.args in
    (aligned_lt a.format.f a.aligned c.requires.1, unit_short a.format a.sign a.unit c.requires.0, most a.format.f a.aligned a.count c.requires.3)

pub asked_direction-by-requires : goal.asked_direction-by-requires
asked_direction-by-requires c =
    let a = c.args in
    (c.requires.1, unit_short a.format a.sign a.unit c.requires.0, c.requires.2, c.requires.3)

pub at_quotient-requires : goal.at_quotient-requires
at_quotient-requires c =
    let a = c.args in
    let q = c.least_quotient-h in
    (c.requires.0, c.requires.1, c.requires.2, c.requires.3, omega (arith, least_le a.aligned.below a.format.f a.count a.unit, q.ensures), c.asked_direction-by.ensures.alike, c.asked_direction-by.ensures.reversed, c.requires.4)

pub returns-then-at_quotient : goal.returns-then-at_quotient
returns-then-at_quotient c =
    let a = c.args in
    let q = c.least_quotient-h in
    λ formed valid. first_quotient a.format.f a.direction a.unit q.result a.aligned a.count (Sized a.format a.aligned.below a.unit a.target.dropped a.count) (λ n p. p.0) (λ (n : ℕ). Meets (signed a.format a.sign (bounded_held a.aligned.below a.format a.direction n a.unit)) a.target.c)
    c.requires.2 (most a.format.f a.aligned a.count c.requires.3) q.ensures c.at_quotient.result (c.at_quotient.ensures formed valid) c.if-at_quotient.true

pub may_carry-requires : goal.may_carry-requires
may_carry-requires c = (c.requires.1, c.requires.2, c.requires.3)

pub returns-then-not-may_carry : goal.returns-then-not-may_carry
returns-then-not-may_carry c =
    let a = c.args in
    let q = c.least_quotient-h in
    let asked = c.asked_direction-by in
    let m = c.may_carry in
    λ formed valid. only_quotient a.format.f a.direction a.unit q.result a.aligned a.count (Sized a.format a.aligned.below a.unit a.target.dropped a.count) (λ n p. p.0) (λ (n : ℕ). Meets (signed a.format a.sign (bounded_held a.aligned.below a.format a.direction n a.unit)) a.target.c)
    c.requires.2 (most a.format.f a.aligned a.count c.requires.3) q.ensures c.at_quotient.result (c.at_quotient.ensures formed valid) c.if-at_quotient.false
    (never_alike a.format.f asked.result a.direction a.unit a.aligned a.count (asked.ensures.alike formed) (m.ensures (not-true m.result c.if-not-may_carry.true-raw) formed a.unit))

pub overflow_add-next : goal.overflow_add-next
overflow_add-next c =
    let a = c.args in
    let q = c.least_quotient-h in
    omega (arith, least_le a.aligned.below a.format.f a.count a.unit, q.ensures)

pub at_quotient-requires-2 : goal.at_quotient-requires-2
at_quotient-requires-2 c =
    let a = c.args in
    let q = c.least_quotient-h in
    let asked = c.asked_direction-by in
    (c.requires.0, c.requires.1, c.requires.2, c.requires.3, omega (arith, least_le a.aligned.below a.format.f a.count a.unit, q.ensures), asked.ensures.alike, asked.ensures.reversed, c.requires.4)

pub returns : goal.returns
returns c =
    let a = c.args in
    let q = c.least_quotient-h in
    λ formed valid. second_quotient a.format.f a.direction a.unit q.result a.aligned a.count (Sized a.format a.aligned.below a.unit a.target.dropped a.count) (λ n p. p.0) (λ (n : ℕ). Meets (signed a.format a.sign (bounded_held a.aligned.below a.format a.direction n a.unit)) a.target.c)
    c.requires.2 (most a.format.f a.aligned a.count c.requires.3) q.ensures c.at_quotient.result (c.at_quotient.ensures formed valid) c.if-at_quotient.false
    c.at_quotient-2.result (c.at_quotient-2.ensures formed valid)
