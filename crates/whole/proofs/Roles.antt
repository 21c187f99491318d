-- The three numbers alike: what a case and its masks say of the number of a role. Assumes nothing.
use mathlib.Core.Path.{◌≡◌, refl}
use Prim.Native.Nat.{ℕ, ◌^◌, ◌<◌}
use Rattle.mask.specs.declared.Mask.{Mask}
use Rattle.mask.specs.Mask.{WellFormed, Meets}
use Rattle.whole.specs.declared.Masks.{Masks}
use Rattle.whole.specs.declared.Case.{Case}
use Rattle.whole.specs.declared.Role.{Role}
use Rattle.whole.specs.declared.Role.TheVariants.{X, Y, Z}
use Rattle.whole.specs.Role.{number, mask_of, with_mask}
use Rattle.whole.specs.Job.{Formed}
use Rattle.whole.specs.Fits.{Fits}

pub mask_with : (role : Role) (s : Masks) (m : Mask) → mask_of role (with_mask role s m) ≡ m
mask_with X s m = refl
mask_with Y s m = refl
mask_with Z s m = refl

-- the number's own mask, and one put in place of another
pub with_own : (role : Role) (s : Masks) → with_mask role s (mask_of role s) ≡ s
with_own X s = refl
with_own Y s = refl
with_own Z s = refl

pub with_same : (role : Role) (s : Masks) (m m' : Mask) → with_mask role (with_mask role s m) m' ≡ with_mask role s m'
with_same X s m m' = refl
with_same Y s m m' = refl
with_same Z s m m' = refl

module _ (n : ℕ) (s : Masks) where
  pub formed_own : (role : Role) → Formed n s → WellFormed n (mask_of role s)
  formed_own X f = f.x
  formed_own Y f = f.y
  formed_own Z f = f.z

  pub formed_with : (role : Role) (m : Mask) → Formed n s → WellFormed n m → Formed n (with_mask role s m)
  formed_with X m f w = record { x = w; y = f.y; z = f.z; carries = f.carries }
  formed_with Y m f w = record { x = f.x; y = w; z = f.z; carries = f.carries }
  formed_with Z m f w = record { x = f.x; y = f.y; z = w; carries = f.carries }

  module _ (c : Case) where
    pub number_lt : (role : Role) → Fits n s c → number role c < 2 ^ n
    number_lt X f = f.adds.x_lt
    number_lt Y f = f.adds.y_lt
    number_lt Z f = f.adds.z_lt

    pub fits_own : (role : Role) → Fits n s c → Meets (number role c) (mask_of role s)
    fits_own X f = f.x_meets
    fits_own Y f = f.y_meets
    fits_own Z f = f.z_meets

    pub fits_with : (role : Role) (m : Mask) → Fits n s c → Meets (number role c) m → Fits n (with_mask role s m) c
    fits_with X m f e = record { adds = f.adds; x_meets = e; y_meets = f.y_meets; z_meets = f.z_meets; carries_meets = f.carries_meets }
    fits_with Y m f e = record { adds = f.adds; x_meets = f.x_meets; y_meets = e; z_meets = f.z_meets; carries_meets = f.carries_meets }
    fits_with Z m f e = record { adds = f.adds; x_meets = f.x_meets; y_meets = f.y_meets; z_meets = e; carries_meets = f.carries_meets }
