-- The mask that a cause names (document 02, W-203), for the law that the cause of four masks names the first malformed one. Assumes nothing.
-- Internal: no public contract cites this.
use Rattle.std.specs.Prelude.{ℕ, Err}
use Rattle.format.specs.declared.cause.Cause.TheVariants as cause
use Rattle.format.specs.Cause.{Check, clear}
use Rattle.mask.specs.declared.Mask.{Mask}
use Rattle.mask.specs.Mask.{WellFormed}

-- of the masks of a, b, c and the carries, or of x, y, z and the carries: the one with this cause is malformed, and those before it are well
-- formed; a clear check names none
pub data Named (width positions : ℕ) (a b c carries : Mask) : Check → Type 0 where
  first : (WellFormed width a → ⊥) → Named width positions a b c carries (Err cause.Mask)
  second : WellFormed width a → (WellFormed width b → ⊥) → Named width positions a b c carries (Err cause.SecondMask)
  third : WellFormed width a → WellFormed width b → (WellFormed width c → ⊥) → Named width positions a b c carries (Err cause.ThirdMask)
  carry : WellFormed width a → WellFormed width b → WellFormed width c → (WellFormed positions carries → ⊥) → Named width positions a b c carries (Err cause.CarryMask)
  none : WellFormed width a → WellFormed width b → WellFormed width c → WellFormed positions carries → Named width positions a b c carries clear
