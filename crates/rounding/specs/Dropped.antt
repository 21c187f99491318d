-- The bits that rounding drops (document 02, W-206): "a leading 1, then f fraction bits, then g dropped bits .., then a sticky bit that is 1
-- exactly when something nonzero lies further down". Assumes nothing.
use Rattle.std.specs.Prelude.{cond, ℕ, ◌+◌, ◌*◌, ◌/◌, ◌%◌, ◌^◌, eqb}
use Rattle.format.specs.declared.Format.{Format}
use Rattle.rounding.specs.Rounding.{dropped}

-- 0 for 0, else 1: the sticky bit of what lies further down
abbrev pub sticky : ℕ → ℕ
sticky ρ = cond (eqb ρ 0) 0 1

-- Z without its low u bits, and then the sticky bit of these
unfoldable pub with_sticky : ℕ → ℕ → ℕ
with_sticky Z u = Z / 2 ^ u * 2 + sticky (Z % 2 ^ u)

-- the g dropped bits of the magnitude X and their sticky bit: "bit 0 is the sticky bit and bit g the first dropped bit"
unfoldable pub dropped_word : Format → ℕ → ℕ → ℕ
dropped_word F g X = with_sticky (2 ^ g * X) (dropped F X) % 2 ^ (g + 1)
