-- `significand::roomy` meets its contract. Assumes nothing.
use Rattle.std.proofs.Common.{sym, le-ltb, lt-ltb}
use Rattle.significand.specs.Tail.{roomy}
use Rattle.significand.proofs.roomy.Goals as goal

pub returns-then-below-ge-MASK_BITS : goal.returns-then-below-ge-MASK_BITS
unfolding roomy
returns-then-below-ge-MASK_BITS c = sym (simp (le-ltb _ _ c.if-below-ge-MASK_BITS.true))

pub returns : goal.returns
unfolding roomy
returns c = sym (simp (lt-ltb _ _ c.if-below-ge-MASK_BITS.false))
