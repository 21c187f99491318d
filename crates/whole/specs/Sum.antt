-- The job of a plain sum (document 01, "Cases, in hexadecimal", case 11): x, y and the carry in fixed, z and the other carries free.
-- Assumes nothing.
use Rattle.std.specs.Prelude.{ℕ, ◌-◌, ◌^◌}
use Rattle.mask.specs.declared.Mask.{Mask}
use Rattle.whole.specs.declared.Masks.{Masks}

-- the low k bits fixed to those of v
abbrev pub all_fixed : ℕ → ℕ → Mask
all_fixed k v = record { care = 2 ^ k - 1; value = v }

-- x and y of n bits, and the carry in c
abbrev pub addends : ℕ → ℕ → ℕ → ℕ → Masks
addends n x y c = record { x = all_fixed n x; y = all_fixed n y; z = all_fixed 0 0; carries = all_fixed 1 c }
