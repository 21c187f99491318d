-- `outcome::digits::exact` meets its contract: both significands have the bits 0. Assumes nothing.
use mathlib.Core.Bool.{false≢true}
use borrow.Author.Tests.{not-false}
use Rattle.outcome.proofs.Exact.{made_zeros}
use Rattle.outcome.proofs.digits.exact.Goals as goal

pub returns-then-not-zeros : goal.returns-then-not-zeros
returns-then-not-zeros c = λ e. absurd (false≢true e)

pub returns : goal.returns
returns c =
    let a = c.args in
    let h = c.zeros in
    λ e. made_zeros a.aligned a.j (h.ensures (not-false h.result c.if-not-zeros.false-raw)) (c.zeros-2.ensures e)
