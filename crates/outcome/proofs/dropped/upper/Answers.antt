-- `outcome::dropped::upper` meets its contract: the mask is moved by as many places as the bits are fewer or more. Assumes nothing.
use mathlib.Core.Path.{sym, ap, ◌∙◌}
use Prim.Native.Nat.{◌-◌}
use native.Mathlib.Omega.{arith}
use Rattle.mask.specs.Mask.{raised}
use Rattle.mask.proofs.ByBits.{value_below}
use Rattle.mask.proofs.ByParts.{high_formed}
use Rattle.outcome.proofs.Ways.{upper_near, upper_far}
use Rattle.outcome.proofs.dropped.upper.Goals as goal

pub overflow_add-dropped : goal.overflow_add-dropped
overflow_add-dropped c = omega (arith, c.requires.0)

pub overflow_add-dropped-then-j-dropped : goal.overflow_add-dropped-then-j-dropped
overflow_add-dropped-then-j-dropped c = omega (arith, c.requires.0)

pub overflow_sub-dropped : goal.overflow_sub-dropped
overflow_sub-dropped c = omega (arith, c.if-j-dropped.true)

pub returns-then-j-dropped : goal.returns-then-j-dropped
returns-then-j-dropped c = λ valid. c.high.ensures ∙ sym (upper_near c.args.dropped c.args.j c.if-j-dropped.true)

pub overflow_sub-j : goal.overflow_sub-j
overflow_sub-j c = omega (arith, c.if-j-dropped.false)

pub returns : goal.returns
returns c =
    let D = c.args.dropped in
    let h = c.high-2 in
    λ valid.
    let w = high_formed D.g 1 D.mask valid.mask in
    c.raised.ensures D.g (omega (arith, c.requires.1, c.if-j-dropped.false)) (rw h.ensures w.below) (rw h.ensures (value_below D.g _ w))
    ∙ ap (raised (c.args.j - D.g)) h.ensures ∙ sym (upper_far D c.args.j c.if-j-dropped.false)
