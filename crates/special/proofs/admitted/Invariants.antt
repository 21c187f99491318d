-- `special::admitted` meets its contract. The loop's invariant: no representative of a before k has a partner. Assumes nothing.
use mathlib.Core.Path.{◌≡◌}
use mathlib.Core.Bool.{Bool, false}
use Prim.Native.Nat.{ℕ, ◌^◌, ◌<◌}
use Rattle.columns.specs.Machine.{some}
use Rattle.job.specs.declared.Job.{Job}
use Rattle.job.specs.Job.{Valid}
use Rattle.word.specs.declared.Biased.{Biased}
use Rattle.special.specs.Special.{representative, partnered}
use Rattle.special.proofs.admitted.Given as goal

-- what is asked of each representative
abbrev pub tried : Job → Biased → Biased → ℕ → Bool
tried j ea eb k = partnered j (representative j.setting.format j.a.mask ea k) eb

abbrev pub invariant-loop-k : goal.invariant-loop-k
invariant-loop-k l =
    Valid l.job → l.ea.0 < 2 ^ l.job.setting.format.w → l.eb.0 < 2 ^ l.job.setting.format.w → some l.k (tried l.job l.ea l.eb) ≡ false
