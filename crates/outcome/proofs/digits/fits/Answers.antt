-- `outcome::digits::fits` meets its contract: where no word of so many digits is left, none serves. Assumes nothing.
use native.Mathlib.Omega.{arith}
use borrow.Author.Tests.{not-true}
use Rattle.making.proofs.Made.{most_digits_bounds, aligned_lt}
use Rattle.outcome.proofs.Counted.{none_left, sized_serves}
use Rattle.outcome.proofs.digits.fits.Goals as goal

pub at_zero-requires : goal.at_zero-requires
at_zero-requires c = (c.requires.0.supported, c.requires.0.sign_lt, c.requires.1)

pub returns-then-count-eq0 : goal.returns-then-count-eq0
returns-then-count-eq0 c =
    let a = c.args in
    rw c.if-count-eq0.true (λ formed valid. c.at_zero.ensures formed a.unit)

pub word_left-requires : goal.word_left-requires
word_left-requires c =
    let a = c.args in (
      c.requires.0,
      aligned_lt a.format.f a.aligned c.requires.1,
      omega (arith, c.if-count-eq0.false),
      omega (arith, c.requires.3, (most_digits_bounds a.aligned.below a.format.f a.aligned.like).1),
      omega (arith, c.requires.3, c.requires.1.columns),
    )

pub returns-then-not-word_left : goal.returns-then-not-word_left
returns-then-not-word_left c =
    let a = c.args in
    let d = c.direction-direction in
    let left = c.word_left in
    λ formed valid. none_left a.format a.mode a.sign a.unit a.aligned a.target a.count (omega (arith, c.if-count-eq0.false)) d.result d.ensures
    (left.ensures (not-true left.result c.if-not-word_left.true-raw))

pub at_count-requires : goal.at_count-requires
at_count-requires c = (c.requires.0, c.requires.1, omega (arith, c.if-count-eq0.false), c.requires.3, c.requires.2)

pub returns : goal.returns
returns c =
    let a = c.args in
    let d = c.direction-direction in
    λ formed valid. sized_serves a.format a.mode a.sign a.unit a.aligned a.target a.count (omega (arith, c.if-count-eq0.false)) d.result d.ensures
    c.at_count.result (c.at_count.ensures formed valid)
