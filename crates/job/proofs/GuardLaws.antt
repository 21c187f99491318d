-- How many bits below the last one a question tells apart: one or more, and no fewer than the g of a job that fixes one. Assumes nothing.
use mathlib.Core.Path.{◌≡◌, refl, ap}
use mathlib.Core.Bool.{Bool, true, false, cond, ◌&&◌, and-eq-true_iff}
use Prim.Native.Nat.{◌≤◌, ◌<◌}
use native.Mathlib.Omega.{arith}
use borrow.Author.Tests.{le-leb, leb-true}
use lib.Dec.{leb}
use Rattle.format.specs.Limits.{most_fraction_bits, most_dropped}
use Rattle.job.specs.declared.Dropped.{Dropped}
use Rattle.job.specs.declared.Job.{Job}
use Rattle.job.specs.Dropped.{ValidDropped}
use Rattle.job.specs.Job.{Valid}
use Rattle.job.specs.Guards.{guards_of, reach_of, reach}
use Rattle.job.proofs.DroppedLaws.{normalised_some, normalised_valid}

pub guards_pos : (D : Dropped) → 1 ≤ guards_of D
unfolding guards_of
guards_pos D = omega arith

pub guards_most : (D : Dropped) → ValidDropped D → guards_of D ≤ most_dropped
unfolding guards_of
guards_most D v = let n = (normalised_valid D v).g_most in omega arith

-- where a bit is fixed
pub guards_cover : (D : Dropped) → (D.mask.care ≡ 0 → ⊥) → D.g ≤ guards_of D
unfolding guards_of
guards_cover D ne = let e = ap (λ (E : Dropped). E.g) (normalised_some D ne) in omega (arith, e)

-- a valid job is within the limits
pub reach_valid : (j : Job) → Valid j → reach j ≡ reach_of j
unfolding reach
reach_valid j v =
    rw ((and-eq-true_iff (leb j.setting.format.f most_fraction_bits) (leb (guards_of j.dropped) most_dropped)).1
    (le-leb j.setting.format.f most_fraction_bits v.setting.format.f_most, le-leb (guards_of j.dropped) most_dropped (guards_most j.dropped v.dropped)))

-- it is small for any job
pub reach_most : (j : Job) → reach j < 60
unfolding reach
reach_most j = go (leb j.setting.format.f most_fraction_bits) (leb (guards_of j.dropped) most_dropped) refl refl
  where
    go : (s t : Bool) → leb j.setting.format.f most_fraction_bits ≡ s → leb (guards_of j.dropped) most_dropped ≡ t → cond (s && t) (reach_of j) 0 < 60
    go true true es et = omega (arith, leb-true j.setting.format.f most_fraction_bits es, leb-true (guards_of j.dropped) most_dropped et)
    go true false es et = omega arith
    go false t es et = omega arith
