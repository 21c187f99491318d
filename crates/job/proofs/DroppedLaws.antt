-- What is wanted of the dropped bits: when no cause stands against it, and what taking g as 0 where no bit is fixed keeps. Assumes nothing.
use mathlib.Core.Path.{◌≡◌, refl, sym, ap}
use mathlib.Core.Bool.{Bool, true, false, cond, ◌&&◌, and-eq-true_iff}
use mathlib.Core.Logic.{◌↔◌}
use Prim.Native.Nat.{ℕ, ◌+◌}
use native.Mathlib.Omega.{arith}
use borrow.Author.Tests.{leb-true, le-leb, eqb-true, eq-eqb, ne_eqb}
use lib.Dec.{eqb, leb}
use Rattle.format.specs.declared.cause.Cause.TheVariants as cause
use Rattle.format.specs.Cause.{clear}
use Rattle.format.specs.Limits.{most_dropped}
use Rattle.format.proofs.Laws.{unless_none}
use Rattle.mask.specs.Mask.{well_formed}
use Rattle.mask.proofs.Checks.{well_formed_true}
use Rattle.job.specs.declared.Dropped.{Dropped}
use Rattle.job.specs.Dropped.{dropped_cause, ValidDropped, normalised}

pub dropped_none : (D : Dropped) → (dropped_cause D ≡ clear) ↔ ValidDropped D
unfolding dropped_cause
dropped_none D =
    let none = unless_none (leb D.g most_dropped && well_formed (D.g + 1) D.mask) cause.DroppedMask in
    let both = and-eq-true_iff (leb D.g most_dropped) (well_formed (D.g + 1) D.mask) in
    let formed = well_formed_true (D.g + 1) D.mask in (
      (λ e. let b = both.0 (none.0 e) in record { g_most = leb-true D.g most_dropped b.0; mask = formed.0 b.1 }),
      λ v. none.1 (both.1 (le-leb D.g most_dropped v.g_most, formed.1 v.mask)),
    )

-- the g that is taken, where no bit is fixed and where one is; the mask stays
pub normalised_none : (D : Dropped) → D.mask.care ≡ 0 → (normalised D).g ≡ 0
unfolding normalised
normalised_none D e = rw (eq-eqb D.mask.care 0 e)

pub normalised_some : (D : Dropped) → (D.mask.care ≡ 0 → ⊥) → normalised D ≡ D
unfolding normalised
normalised_some D ne = rw (ne_eqb D.mask.care 0 ne)

-- so what carries no g where no bit is fixed stays
pub normalised_same : (D : Dropped) → (D.mask.care ≡ 0 → D.g ≡ 0) → normalised D ≡ D
unfolding normalised
normalised_same D h = go (eqb D.mask.care 0) refl
  where
    go : (t : Bool) → eqb D.mask.care 0 ≡ t → ◌≡◌ {A = Dropped} (record { g = cond t 0 D.g; mask = D.mask }) D
    go true e = ap (λ (n : ℕ). record { g = n; mask = D.mask }) (sym (h (eqb-true D.mask.care 0 e)))
    go false e = refl

pub normalised_mask : (D : Dropped) → (normalised D).mask ≡ D.mask
unfolding normalised
normalised_mask D = refl

pub normalised_again : (D : Dropped) → normalised (normalised D) ≡ normalised D
unfolding normalised
normalised_again D = go (eqb D.mask.care 0)
  where
    go : (t : Bool) → ◌≡◌ {A = Dropped} (record { g = cond t 0 (cond t 0 D.g); mask = D.mask }) (record { g = cond t 0 D.g; mask = D.mask })
    go true = refl
    go false = refl

pub normalised_valid : (D : Dropped) → ValidDropped D → ValidDropped (normalised D)
unfolding normalised
normalised_valid D v = go (eqb D.mask.care 0) refl
  where
    go : (t : Bool) → eqb D.mask.care 0 ≡ t → ValidDropped (record { g = cond t 0 D.g; mask = D.mask })
    go true e =
        let none = eqb-true D.mask.care 0 e in
        record { g_most = omega arith; mask = record { below = omega (arith, none); inside = v.mask.inside } }
    go false e = v
