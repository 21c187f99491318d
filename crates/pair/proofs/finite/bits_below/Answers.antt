-- `pair::finite::bits_below` meets its contract: no job that is valid tells more bits apart. Assumes nothing.
use mathlib.Core.Path.{ap}
use Prim.Native.Nat.{ℕ, ◌+◌}
use native.Mathlib.Omega.{arith}
use Rattle.job.proofs.GuardLaws.{guards_most}
use Rattle.pair.proofs.finite.bits_below.Goals as goal

pub returns-then-apart-gt-MOST_DROPPED : goal.returns-then-apart-gt-MOST_DROPPED
returns-then-apart-gt-MOST_DROPPED c = λ valid. absurd (omega (arith, c.if-apart-gt-MOST_DROPPED.true, c.guards-apart.ensures, guards_most c.args.dropped valid))

pub overflow_add-result : goal.overflow_add-result
overflow_add-result c = omega (arith, c.if-apart-gt-MOST_DROPPED.false)

pub overflow_add-result-else-like : goal.overflow_add-result-else-like
overflow_add-result-else-like c = omega (arith, c.if-apart-gt-MOST_DROPPED.false)

pub returns-then-like : goal.returns-then-like
returns-then-like c = λ valid. rw c.if-like.true (ap (λ (n : ℕ). n + 1) c.guards-apart.ensures)

pub returns-else-like : goal.returns-else-like
returns-else-like c = λ valid. rw c.if-like.false (ap (λ (n : ℕ). n + 2) c.guards-apart.ensures)
