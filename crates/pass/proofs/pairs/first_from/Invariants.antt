-- `pass::pairs::first_from` meets its contract: no pair before (ea, eb) admits a case, and the table has answers. The measures are the exponent
-- fields still to come. Assumes nothing.
use Prim.Native.Nat.{◌-◌, ◌^◌, ◌≤◌, ◌<◌}
use Rattle.mask.specs.Mask.{Meets}
use Rattle.job.specs.Job.{Valid}
use Rattle.word.specs.Masks.{exponent_mask}
use Rattle.answers.specs.Kept.{Kept, NoPartner}
use Rattle.pass.specs.First.{NoneBefore}
use Rattle.pass.proofs.pairs.first_from.Given as goal

abbrev pub invariant-loop-eb : goal.invariant-loop-eb
invariant-loop-eb l =
    (l.initial.eb.0 ≤ l.eb.0) × (Valid l.job → Kept l.job l.table × (l.eb.0 < 2 ^ l.job.setting.format.w → Meets l.eb.0 (exponent_mask l.job.setting.format l.job.b.mask)) × NoPartner l.job l.ea l.initial.eb l.eb)

abbrev pub decreases-loop-eb : goal.decreases-loop-eb
decreases-loop-eb l = l.span.end.0 - l.eb.0

abbrev pub invariant-pairs : goal.invariant-pairs
invariant-pairs l =
    (Valid l.job → Kept l.job l.table) × (Valid l.job → NoneBefore l.job (record { a = l.initial.ea; b = l.initial.eb }) → NoneBefore l.job (record { a = l.ea; b = l.eb }))

abbrev pub decreases-pairs : goal.decreases-pairs
decreases-pairs l = l.past - l.ea.0
