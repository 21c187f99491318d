-- `answers::known::try_fields` meets its contract: no field from n on is let through by c and had by the class. Assumes nothing.
use Prim.Native.Nat.{◌≤◌}
use Rattle.job.specs.Guards.{reach}
use Rattle.mask.specs.Mask.{Meets}
use Rattle.word.specs.declared.Biased.{Biased}
use Rattle.word.specs.Masks.{exponent_mask}
use Rattle.classes.specs.Class.{field_at, ClassFor}
use Rattle.answers.specs.Kept.{Refuses, Never}
use Rattle.answers.proofs.known.try_fields.Given as goal

abbrev pub invariant-loop-n : goal.invariant-loop-n
invariant-loop-n l =
    ClassFor l.job l.class → Refuses l.job l.class l.known
    → (Refuses l.job l.class l.refused) × ((i : Biased) → l.n ≤ i.0 → Meets (field_at (reach l.job) l.unit i).0 (exponent_mask l.job.setting.format l.job.c.mask) → Never l.job l.class i)
