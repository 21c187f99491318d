-- The three numbers of a case, one definition for each use of "x, y, z" (document 01, "Masks and choice", whole numbers).
-- Assumes nothing.
use Rattle.std.specs.Prelude.{ℕ}
use Rattle.mask.specs.declared.Mask.{Mask}
use Rattle.whole.specs.declared.Masks.{Masks}
use Rattle.whole.specs.declared.Case.{Case}
use Rattle.whole.specs.declared.Role.{Role}
use Rattle.whole.specs.declared.Role.TheVariants.{X, Y, Z}

-- a number of a case
abbrev pub number : Role → Case → ℕ
number X c = c.x
number Y c = c.y
number Z c = c.z

-- its mask
abbrev pub mask_of : Role → Masks → Mask
mask_of X s = s.x
mask_of Y s = s.y
mask_of Z s = s.z

-- the masks with that one replaced
abbrev pub with_mask : Role → Masks → Mask → Masks
with_mask X s m = record { x = m; y = s.y; z = s.z; carries = s.carries }
with_mask Y s m = record { x = s.x; y = m; z = s.z; carries = s.carries }
with_mask Z s m = record { x = s.x; y = s.y; z = m; carries = s.carries }
