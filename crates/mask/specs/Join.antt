-- Joining two masks (document 01, "Masks and choice"; "Causes and replies": 5, value outside care only, then 13; W-203: 5 for either mask).
-- Joining knows no width. Assumes nothing.
use Rattle.std.specs.Prelude.{◌≡◌, Bool, ◌&&◌, eqb, Result, Ok}
use Rattle.std.specs.Int.Bits.{bit_and, bit_or}
use Rattle.format.specs.declared.cause.Cause.TheVariants as cause
use Rattle.format.specs.declared.cause.Cause.{Cause}
use Rattle.format.specs.Cause.{unless, first}
use Rattle.mask.specs.declared.Mask.{Mask}
use Rattle.mask.specs.Mask.{inside}

-- no bit is fixed unlike: on the bits that both fix the values are alike
abbrev pub Agree : Mask → Mask → Type 0
Agree m n = bit_and m.value (bit_and m.care n.care) ≡ bit_and n.value (bit_and m.care n.care)

abbrev pub agree : Mask → Mask → Bool
agree m n = eqb (bit_and m.value (bit_and m.care n.care)) (bit_and n.value (bit_and m.care n.care))

-- "Joining two masks fixes what either fixes"
abbrev pub joined : Mask → Mask → Mask
joined m n = record { care = bit_or m.care n.care; value = bit_or m.value n.value }

-- the reply: the joined mask, or 5 for a value outside care in either, then 13 for a clash
unfoldable pub join : Mask → Mask → Result Mask Cause
join m n = first (unless (inside m && inside n) cause.Mask) (first (unless (agree m n) cause.Clash) (Ok (joined m n)))
