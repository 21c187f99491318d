-- A job and the same with g taken as 0 where no dropped bit is fixed (document 02, W-206) are met by the same cases: a mask that fixes no
-- bit does not tell apart how many bits it stands for. Assumes nothing.
use Rattle.std.specs.Prelude.{Option}
use mathlib.Core.Path.{◌≡◌, sym, ap, ◌∙◌}
use mathlib.Core.Logic.{◌↔◌}
use Prim.Native.Nat.{ℕ}
use native.Mathlib.Decide.{ℕ_discrete}
use lib.Bits.{bit_and, and_zero_r}
use Rattle.mask.specs.declared.Mask.{Mask}
use Rattle.job.specs.declared.Dropped.{Dropped}
use Rattle.job.specs.declared.Setting.{Setting}
use Rattle.job.specs.declared.Job.{Job}
use Rattle.job.specs.Dropped.{normalised, normalised_job}
use Rattle.job.proofs.DroppedLaws.{normalised_some, normalised_mask}
use Rattle.adder.proofs.BelowLaws.{below_any}
use Rattle.fit.specs.Fit.{below_in, PartMeets, Satisfies, Fits}

-- with a mask that fixes no bit g plays no part
below_free : (m : Mask) → m.care ≡ 0 → (S : Setting) (g k a b : ℕ) → PartMeets (below_in S g a b) m → PartMeets (below_in S k a b) m
below_free m none S g k a b h =
    below_any (λ (r : Option ℕ). PartMeets r m)
    (λ r s e. ap (bit_and s) none ∙ and_zero_r s ∙ sym (and_zero_r r) ∙ sym (ap (bit_and r) none) ∙ e) S.format S.operation g k a b h

-- the dropped bits of two words are as wanted
abbrev DroppedMeets : Setting → Dropped → ℕ → ℕ → Type 0
DroppedMeets S D a b = PartMeets (below_in S D.g a b) D.mask

normalised_meets : (S : Setting) (D : Dropped) (a b : ℕ) → DroppedMeets S D a b ↔ DroppedMeets S (normalised D) a b
normalised_meets S D a b = (there (ℕ_discrete D.mask.care 0), back (ℕ_discrete D.mask.care 0))
  where
    there : Dec (D.mask.care ≡ 0) → DroppedMeets S D a b → DroppedMeets S (normalised D) a b
    there (yes e) h = rw (normalised_mask D) (below_free D.mask e S D.g (normalised D).g a b h)
    there (no e) h = rw (normalised_some D e) h

    back : Dec (D.mask.care ≡ 0) → DroppedMeets S (normalised D) a b → DroppedMeets S D a b
    back (yes e) h = below_free D.mask e S (normalised D).g D.g a b (rw (normalised_mask D) at h)
    back (no e) h = rw (normalised_some D e) at h

-- so it fits the job exactly where it fits the job taken so
pub normalised_fits : (j : Job) (a b c : ℕ) → Fits j a b c ↔ Fits (normalised_job j) a b c
normalised_fits j a b c = (
  λ f. record { right = f.right; satisfies = with ((normalised_meets j.setting j.dropped a b).0 f.satisfies.dropped) f.satisfies },
  λ f. record { right = f.right; satisfies = without ((normalised_meets j.setting j.dropped a b).1 f.satisfies.dropped) f.satisfies },
)
  where
    with : DroppedMeets j.setting (normalised j.dropped) a b → Satisfies j a b c → Satisfies (normalised_job j) a b c
    with d s = record { a_allowed = s.a_allowed; b_allowed = s.b_allowed; c_allowed = s.c_allowed; row = s.row; dropped = d }

    without : DroppedMeets j.setting j.dropped a b → Satisfies (normalised_job j) a b c → Satisfies j a b c
    without d s = record { a_allowed = s.a_allowed; b_allowed = s.b_allowed; c_allowed = s.c_allowed; row = s.row; dropped = d }
