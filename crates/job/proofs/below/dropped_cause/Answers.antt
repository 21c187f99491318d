-- `job::below::dropped_cause` meets its contract: with a g above its limit the mask does not count. Assumes nothing.
use mathlib.Core.Path.{sym, ap, ◌∙◌}
use mathlib.Core.Bool.{Bool, ◌&&◌}
use Prim.Native.Nat.{◌+◌}
use native.Mathlib.Omega.{arith}
use borrow.Author.Tests.{le-leb, lt-leb}
use Rattle.format.specs.declared.cause.Cause.TheVariants as cause
use Rattle.format.specs.Cause.{unless}
use Rattle.format.specs.Limits.{most_dropped}
use Rattle.mask.specs.Mask.{well_formed}
use Rattle.job.specs.Dropped.{dropped_cause}
use Rattle.job.proofs.below.dropped_cause.Goals as goal

pub returns-then-dropped-gt-MOST_DROPPED : goal.returns-then-dropped-gt-MOST_DROPPED
unfolding dropped_cause
returns-then-dropped-gt-MOST_DROPPED c = rw (lt-leb c.args.dropped.g most_dropped c.if-dropped-gt-MOST_DROPPED.true)

pub returns : goal.returns
unfolding dropped_cause
returns c =
    let D = c.args.dropped in
    c.unless.ensures
    ∙ ap (λ (t : Bool). unless t cause.DroppedMask)
    (c.well_formed-2.ensures ∙ sym (ap (λ (t : Bool). t && well_formed (D.g + 1) D.mask) (le-leb D.g most_dropped (omega arith))))
