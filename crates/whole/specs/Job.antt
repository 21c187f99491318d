-- The checks of a job of the whole-number generator (document 01, "Causes and replies": it checks 12, 5, 6, 7; W-203: 14, 15
-- and 16 after 5). Assumes nothing.
use Rattle.std.specs.Prelude.{ℕ, ◌+◌}
use Rattle.format.specs.declared.cause.Cause.TheVariants as cause
use Rattle.format.specs.Cause.{Check, unless, first}
use Rattle.format.specs.Limits.{least_length, most_length, within}
use Rattle.format.specs.Format.{word_cause}
use Rattle.mask.specs.Mask.{WellFormed, masks_cause}
use Rattle.whole.specs.declared.Masks.{Masks}
use Rattle.whole.specs.declared.Words.{Words}
use Rattle.whole.specs.declared.Job.{Job}

-- the masks are well formed: N bits wide for x, y and z, and N + 1 for the carries
pub record Formed (n : ℕ) (s : Masks) : Type 0 where
  pub x : WellFormed n s.x
  pub y : WellFormed n s.y
  pub z : WellFormed n s.z
  pub carries : WellFormed (n + 1) s.carries

-- 6: a random word above N bits
unfoldable pub words_cause : ℕ → Words → Check
words_cause n w = first (word_cause n w.x) (first (word_cause n w.y) (word_cause n w.z))

-- 12 for a length outside 1 to 32, then 5, 14, 15 or 16 for a mask that is not well formed, then 6
unfoldable pub job_cause : Job → Check
job_cause J =
    let n = J.length in
    let s = J.masks in
    first (unless (within least_length most_length n) cause.WholeLength)
    (first (masks_cause n (n + 1) s.x s.y s.z s.carries) (words_cause n J.words))
