-- The choice among fitting cases (document 01, "Masks and choice", whole numbers: the smallest x exclusive-or the first word, then y with
-- the second, then z with the third). Assumes nothing.
use Rattle.std.specs.Prelude.{◌≡◌, ℕ}
use Rattle.choice.specs.Choice.{Farther}
use Rattle.whole.specs.declared.Masks.{Masks}
use Rattle.whole.specs.declared.Words.{Words}
use Rattle.whole.specs.declared.Case.{Case}
use Rattle.whole.specs.Fits.{Fits}

-- c fits, and every other fitting case has a number farther from its word, the first number that differs deciding
pub record Chosen (n : ℕ) (s : Masks) (w : Words) (c : Case) : Type 0 where
  pub fits : Fits n s c
  pub least : (d : Case) → Fits n s d
      → Farther w.x c.x d.x (Farther w.y c.y d.y (Farther w.z c.z d.z (d ≡ c)))
