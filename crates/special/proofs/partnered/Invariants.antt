-- `special::partnered` meets its contract. The loop's invariant: no representative before k goes together with a. Assumes nothing.
use mathlib.Core.Path.{◌≡◌}
use mathlib.Core.Bool.{Bool, false}
use Prim.Native.Nat.{ℕ, ◌^◌, ◌<◌}
use Rattle.format.specs.Format.{word_bits}
use Rattle.columns.specs.Machine.{some}
use Rattle.job.specs.declared.Job.{Job}
use Rattle.job.specs.Job.{Valid}
use Rattle.word.specs.declared.Biased.{Biased}
use Rattle.special.specs.Special.{representative, together}
use Rattle.special.proofs.partnered.Given as goal

-- what is asked of each representative
abbrev pub tried : Job → ℕ → Biased → ℕ → Bool
tried j a eb k = together j a (representative j.setting.format j.b.mask eb k)

abbrev pub invariant-loop-k : goal.invariant-loop-k
invariant-loop-k l =
    Valid l.job → l.a < 2 ^ word_bits l.job.setting.format → l.eb.0 < 2 ^ l.job.setting.format.w → some l.k (tried l.job l.a l.eb) ≡ false
