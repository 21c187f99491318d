-- How the words that meet a mask stand to bounds, and masks narrowed by bounds (document 02, W-207: "Masks and bounds apply jointly").
-- No definition of the promise cites this file. Assumes nothing.
use Rattle.std.specs.Prelude.{◌≡◌, ℕ, ◌^◌, ◌≤◌, ◌<◌}
use Rattle.bits.specs.Bit.{bit}
use Rattle.format.specs.declared.Format.{Format}
use Rattle.format.specs.Format.{word_bits}
use Rattle.mask.specs.declared.Mask.{Mask}
use Rattle.mask.specs.Mask.{WellFormed, Meets}
use Rattle.bounds.specs.Bounds.{Within}
use Rattle.job.specs.declared.Wanted.{Wanted}
use Rattle.narrowing.specs.declared.Standing as relation
use Rattle.narrowing.specs.declared.Standing.TheVariants.{Inside, Outside, Across}

-- every word that meets the mask lies within the bounds, or none does; else a free bit of the mask is named, and a value for it
abbrev pub Stands : Format → Wanted → relation.Standing → Type 0
Stands F W Inside = (x : ℕ) → x < 2 ^ word_bits F → Meets x W.mask → Within F x W.bounds
Stands F W Outside = (x : ℕ) → x < 2 ^ word_bits F → Meets x W.mask → Within F x W.bounds → ⊥
Stands F W (Across k v) = (k < word_bits F) × (bit W.mask.care k ≡ 0) × (v < 2)

-- m fixes no less than the mask, and is met by every word that meets the mask and lies within the bounds
pub record Narrows (F : Format) (W : Wanted) (m : Mask) : Type 0 where
  pub formed : WellFormed (word_bits F) m
  pub more : W.mask.care ≤ m.care
  pub less : (x : ℕ) → Meets x m → Meets x W.mask
  pub kept : (x : ℕ) → x < 2 ^ word_bits F → Meets x W.mask → Within F x W.bounds → Meets x m
