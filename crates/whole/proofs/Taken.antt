-- What it means that a job names no cause: its length is within the limits, its masks are well formed and its words are short enough.
-- Assumes nothing.
use mathlib.Core.Path.{◌≡◌}
use mathlib.Core.Logic.{◌↔◌}
use Prim.Native.Nat.{ℕ, ◌+◌, ◌^◌, ◌≤◌, ◌<◌}
use Rattle.format.specs.declared.cause.Cause.TheVariants as cause
use Rattle.format.specs.Cause.{clear}
use Rattle.format.specs.Limits.{least_length, most_length, within}
use Rattle.format.proofs.Laws.{both_none, unless_none, within_holds, word_none}
use Rattle.mask.proofs.Checks.{masks_none}
use Rattle.whole.specs.declared.Words.{Words}
use Rattle.whole.specs.declared.Job.{Job}
use Rattle.whole.specs.Job.{Formed, words_cause, job_cause}

words_none : (n : ℕ) (w : Words) → (words_cause n w ≡ clear) ↔ ((w.x < 2 ^ n) × ((w.y < 2 ^ n) × (w.z < 2 ^ n)))
unfolding words_cause
words_none n w = both_none _ _ (word_none n w.x) (both_none _ _ (word_none n w.y) (word_none n w.z))

-- a job that is taken
pub record Taken (J : Job) : Type 0 where
  pub least : least_length ≤ J.length
  pub most : J.length ≤ most_length
  pub formed : Formed J.length J.masks
  pub words : (J.words.x < 2 ^ J.length) × (J.words.y < 2 ^ J.length) × (J.words.z < 2 ^ J.length)

pub job_none : (J : Job) → (job_cause J ≡ clear) ↔ Taken J
unfolding job_cause
job_none J =
    let n = J.length in
    let s = J.masks in
    let limits = within_holds least_length most_length n in
    let masks = masks_none n (n + 1) s.x s.y s.z s.carries in
    let law = both_none _ _ (unless_none (within least_length most_length n) cause.WholeLength) (both_none _ _ masks (words_none n J.words)) in (
      λ e.
          let h = law.0 e in
          let l = limits.0 h.0 in
          let m = h.1.0 in
          let w = h.1.1 in
          record {
            least = l.0;
            most = l.1;
            formed = record { x = m.0; y = m.1.0; z = m.1.1.0; carries = m.1.1.1 };
            words = (w.0, w.1.0, w.1.1);
          },
      λ t.
          let f = t.formed in
          let w = t.words in
          law.1 (limits.1 (t.least, t.most), ((f.x, (f.y, (f.z, f.carries))), (w.0, (w.1, w.2)))),
    )
