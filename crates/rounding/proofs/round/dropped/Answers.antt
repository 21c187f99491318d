-- `rounding::round::dropped` meets its contract. Assumes nothing.
use native.Mathlib.Omega.{arith}
use lib.Ieee.Digits.{size-le}
use Rattle.word.proofs.Bounds.{exponents_le}
use Rattle.rounding.proofs.round.dropped.Goals as goal

pub overflow_add-top : goal.overflow_add-top
overflow_add-top c =
    let a = c.args in
    omega (arith, c.size.ensures, size-le a.x 64 c.ranges.x.fits, exponents_le a.format c.requires.0)
