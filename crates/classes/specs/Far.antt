-- Exponent fields far below another one, and what c's mask lets through near it: which pairs need no question of their own. Assumes nothing.
-- Internal: no public contract cites this.
use Rattle.std.specs.Prelude.{◌≡◌, ℕ, ◌+◌, ◌^◌, ◌<◌, ◌≤◌, ◌⊎◌}
use Rattle.format.specs.declared.Format.{Format}
use Rattle.mask.specs.Mask.{Meets}
use Rattle.job.specs.declared.Job.{Job}
use Rattle.word.specs.declared.Biased.{Biased}
use Rattle.word.specs.Word.{all_ones}
use Rattle.word.specs.Masks.{exponent_mask, fraction_mask}
use Rattle.classes.specs.Class.{far_gap}

-- e is far below E, where r is the reach: both are fields of finite numbers, e of a normal one, with the far gap between them; or E is all
-- ones and e is not
abbrev pub FarBelow : Format → ℕ → Biased → Biased → Type 0
FarBelow F r E e = ((1 ≤ e.0) × (e.0 + far_gap r ≤ E.0) × (E.0 < all_ones F)) ⊎ ((E.0 ≡ all_ones F) × (e.0 < all_ones F))

-- c's mask lets through an exponent field from so many below E to 2 above it, as a sum that is not 0 has one where E is the larger field
pub record LetsNear (j : Job) (below : ℕ) (E : Biased) : Type 0 where
  pub field : ℕ
  pub within : field < 2 ^ j.setting.format.w
  pub meets : Meets field (exponent_mask j.setting.format j.c.mask)
  pub least : E.0 ≤ field + below
  pub most : field ≤ E.0 + 2

-- it lets through a zero, which has no dropped bits, so none is fixed (W-206)
pub record LetsZero (j : Job) : Type 0 where
  pub exponent : Meets 0 (exponent_mask j.setting.format j.c.mask)
  pub fraction : Meets 0 (fraction_mask j.setting.format j.c.mask)
  pub unfixed : j.dropped.mask.care ≡ 0
