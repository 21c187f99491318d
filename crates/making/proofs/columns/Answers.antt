-- `making::columns` meets its contract. Assumes nothing.
use mathlib.Core.Path.{sym, ◌∙◌}
use mathlib.Core.Bool.{false≢true}
use native.Mathlib.Omega.{arith}
use borrow.Author.Tests.{not-true, not-false}
use Rattle.making.proofs.columns.Goals as goal

pub returns-then-not-roomy : goal.returns-then-not-roomy
returns-then-not-roomy c = λ room. absurd (false≢true (sym (not-true c.roomy.result c.if-not-roomy.true-raw) ∙ c.roomy.ensures.1 room))

pub overflow_add-result : goal.overflow_add-result
overflow_add-result c =
    let r = c.roomy in
    omega (arith, rw c.if-like.true at (r.ensures.0 (not-false r.result c.if-not-roomy.false-raw)).columns)

pub overflow_add-result-then-like : goal.overflow_add-result-then-like
overflow_add-result-then-like c =
    let r = c.roomy in
    omega (arith, rw c.if-like.true at (r.ensures.0 (not-false r.result c.if-not-roomy.false-raw)).columns)

pub overflow_add-result-else-like : goal.overflow_add-result-else-like
overflow_add-result-else-like c =
    let r = c.roomy in
    omega (arith, rw c.if-like.false at (r.ensures.0 (not-false r.result c.if-not-roomy.false-raw)).columns)

pub overflow_add-result-else-like-2 : goal.overflow_add-result-else-like-2
overflow_add-result-else-like-2 c =
    let r = c.roomy in
    omega (arith, rw c.if-like.false at (r.ensures.0 (not-false r.result c.if-not-roomy.false-raw)).columns)

pub returns-then-like : goal.returns-then-like
returns-then-like c = λ room. rw c.if-like.true

pub returns-else-like : goal.returns-else-like
returns-else-like c = λ room. rw c.if-like.false
