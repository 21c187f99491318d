-- `pass::span::partner_from` meets its contract: fields that do not meet b's mask are passed over by `partners_met`, those that closed
-- classes or c's mask rule out by `asked_from`. Assumes nothing.
use mathlib.Core.Path.{◌≡◌}
use Prim.Native.Nat.{◌-◌, ◌^◌, ◌≤◌, ◌<◌}
use Rattle.mask.specs.Mask.{Meets}
use Rattle.job.specs.Job.{Valid}
use Rattle.word.specs.Masks.{exponent_mask}
use Rattle.answers.specs.Kept.{Kept, NoPartner}
use Rattle.pass.specs.Steps.{PassOf}
use Rattle.pass.proofs.span.partner_from.Given as goal

abbrev pub invariant-loop-eb : goal.invariant-loop-eb
invariant-loop-eb l =
    (l.w ≡ l.job.setting.format.w) × (l.initial.eb.0 ≤ l.eb.0)
    × (Valid l.job → PassOf l.job l.pass → Kept l.job l.table → (l.eb.0 < 2 ^ l.job.setting.format.w → Meets l.eb.0 (exponent_mask l.job.setting.format l.job.b.mask)) × NoPartner l.job l.ea l.initial.eb l.eb)

abbrev pub decreases-loop-eb : goal.decreases-loop-eb
decreases-loop-eb l = l.end.0 - l.eb.0
