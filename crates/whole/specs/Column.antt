-- How the search reads one column: the machine whose state is the carry. What it decides is told in Fits, and nothing here is needed to
-- read the reply. Assumes nothing.
-- Internal: no public contract cites this.
use Rattle.std.specs.Prelude.{Bool, ◌&&◌, cond, ℕ, ◌+◌, ◌/◌, ◌%◌, ltb}
use Rattle.columns.specs.Column.{allows}
use Rattle.mask.specs.declared.Mask.{Mask}
use Rattle.whole.specs.declared.Masks.{Masks}

-- a mask lets bit i be b
abbrev pub at : Mask → ℕ → ℕ → Bool
at m i b = allows m.care m.value i b

-- every mask is met in column i, at the bits l and r and the carry c into it
unfoldable pub column : Masks → ℕ → ℕ → ℕ → ℕ → Bool
column s i c l r = (at s.x i l && at s.y i r) && (at s.z i ((l + r + c) % 2) && at s.carries (i + 1) ((l + r + c) / 2))

-- the carry out of column i, or 2, which is dead
unfoldable pub step : Masks → ℕ → ℕ → ℕ → ℕ → ℕ
step s i c l r = cond (ltb c 2 && column s i c l r) ((l + r + c) / 2) 2
