-- `rounding::mode::zero_sign` meets its contract. Assumes nothing.
use Rattle.rounding.proofs.mode.zero_sign.Goals as goal

pub returns-then-like : goal.returns-then-like
returns-then-like c = rw c.if-like.true

pub returns-else-like : goal.returns-else-like
returns-else-like c = rw c.if-like.false c.cancelled_sign.ensures
