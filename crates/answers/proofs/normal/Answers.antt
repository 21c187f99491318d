-- `answers::normal` meets its contract. Assumes nothing.
use mathlib.Core.Bool.{false≢true}
use mathlib.Core.Logic.{inl, inr}
use native.Mathlib.Omega.{arith}
use borrow.Author.Tests.{leb-true}
use Rattle.answers.proofs.normal.Goals as goal

pub returns-then-reach-saturating_sub : goal.returns-then-reach-saturating_sub
returns-then-reach-saturating_sub c = λ t. inl (omega (arith, c.saturating_sub.ensures, c.if-reach-saturating_sub.true))

pub returns-then-fields-eq0 : goal.returns-then-fields-eq0
returns-then-fields-eq0 c = λ t. absurd (false≢true t)

pub returns : goal.returns
returns c = λ t. inr (omega (arith, c.if-fields-eq0.false), omega (arith, c.saturating_sub-2.ensures, leb-true 2 c.saturating_sub-2.result t))
