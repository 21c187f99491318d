-- What the contracts amount to: what a function returns and what it leaves are one alone, and a refusal returns no 0. Assumes nothing.
use mathlib.Core.Path.{◌≡◌, sym, ap, ◌∙◌}
use mathlib.Core.List.{List}
use Prim.Native.Nat.{ℕ, ◌<◌}
use Rattle.std.specs.Prelude.{Some, None, Ok, Err}
use Rattle.format.specs.declared.cause.Cause.{Cause}
use Rattle.format.proofs.Laws.{number_positive}
use Rattle.records.specs.Record.{First}
use Rattle.generator.proofs.Replies as generator-law
use Rattle.whole.specs.declared.Job as whole-job
use Rattle.whole.proofs.Replies as whole-law
use Rattle.delivery.specs.Answer.{Delivered}
use Rattle.delivery.proofs.Bytes.{delivered_as, delivered_unique}
use Rattle.replies.specs.Replies.{Answer, of_case, of_whole, OfRecord, Generated, WholeGenerated}

-- ---- one job, one buffer
pub whole_unique : {s t u : List ℕ} {m n : ℕ} (j : whole-job.Job) → WholeGenerated j s t m → WholeGenerated j s u n → (m ≡ n) × (t ≡ u)
whole_unique j p q =
    delivered_unique (delivered_as (ap of_whole (whole-law.reply_unique j p.reply q.reply p.replied q.replied)) p.delivered) q.delivered

pub answer_unique : (r : First) (x y : Answer) → OfRecord r x → OfRecord r y → x ≡ y
answer_unique (Ok None) x y p q = p ∙ sym q
answer_unique (Ok (Some (e, n))) x y p q =
    p.is ∙ ap of_case (generator-law.reply_unique e.job e.r1 e.r2 p.reply q.reply p.replied q.replied) ∙ sym q.is
answer_unique (Err k) x y p q = p ∙ sym q

pub generated_unique : (r : First) (s t u : List ℕ) (m n : ℕ) → Generated r s t m → Generated r s u n → (m ≡ n) × (t ≡ u)
generated_unique r s t u m n p q =
    delivered_unique (delivered_as (answer_unique r p.answer q.answer p.is q.is) p.delivered) q.delivered

-- ---- no refusal is 0

-- whichever function's answer it is
pub refusal_positive : {k : Cause} {s t : List ℕ} {n : ℕ} → Delivered (Err k) s t n → 0 < n
refusal_positive {k = k} d = rw d.number (number_positive k)
