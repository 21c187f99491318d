-- Each exported function's answer, numbers or a refusal, from the reply of the function that it exports (document 01, "Causes and replies"). Where a job
-- is wanted it is given as a job record; bytes after the record play no part, and no bytes at all are a record cut short. Assumes nothing.
use Rattle.generator.specs.declared.Case.{Case}
use Rattle.format.specs.declared.cause.Cause.{Cause}
use Rattle.std.specs.Prelude.{◌≡◌, ℕ, List, [], ◌∷◌, Option, Some, None, Result, Ok, Err, Bool, true, false}
use Rattle.format.specs.declared.cause.Cause.TheVariants as cause
use Rattle.format.specs.declared.Format.{Format}
use Rattle.mask.specs.declared.Mask.{Mask}
use Rattle.fit.specs.Fit.{confirmed_reply}
use Rattle.layout.specs.declared.Entry.{Entry}
use Rattle.records.specs.Record.{First}
use Rattle.generator.specs.Promise as generator
use Rattle.whole.specs.declared.Masks.{Masks}
use Rattle.whole.specs.declared.Words.{Words}
use Rattle.whole.specs.declared.Case as whole-case
use Rattle.whole.specs.declared.Job as whole-job
use Rattle.whole.specs.Reply as whole-generator
use Rattle.delivery.specs.Answer.{Delivered}

-- the format and the mask of two numbers each
abbrev pub format_of : ℕ → ℕ → Format
format_of w f = record { w = w; f = f }

abbrev pub mask_from : ℕ → ℕ → Mask
mask_from care value = record { care = care; value = value }

-- a job of the whole-number generator
abbrev pub masks_of : Mask → Mask → Mask → Mask → Masks
masks_of x y z carries = record { x = x; y = y; z = z; carries = carries }

abbrev pub words_of : ℕ → ℕ → ℕ → Words
words_of x y z = record { x = x; y = y; z = z }

abbrev pub whole_job : ℕ → Masks → Words → whole-job.Job
whole_job length masks words = record { length = length; masks = masks; words = words }

-- an answer is numbers, or a refusal
abbrev pub Answer : Type 0
Answer = Result (List ℕ) Cause

-- the rounded result: c
abbrev pub of_result : Result ℕ Cause → Answer
of_result (Ok c) = Ok (c ∷ [])
of_result (Err k) = Err k

-- whether there is a row, 1 or 0, and the row, 0 where there is none
abbrev pub row_numbers : Option ℕ → List ℕ
row_numbers (Some r) = 1 ∷ r ∷ []
row_numbers None = 0 ∷ 0 ∷ []

-- the carry row
abbrev pub of_row : Result (Option ℕ) Cause → Answer
of_row (Ok r) = Ok (row_numbers r)
of_row (Err k) = Err k

-- joining: care, then value
abbrev pub of_joined : Result Mask Cause → Answer
of_joined (Ok m) = Ok (m.care ∷ m.value ∷ [])
of_joined (Err k) = Err k

-- reading: the length of the record that stands first, 0 where no byte is left
abbrev pub of_first : First → Answer
of_first (Ok None) = Ok (0 ∷ [])
of_first (Ok (Some (e, n))) = Ok (n ∷ [])
of_first (Err k) = Err k

-- confirmation: 1 for yes, 0 for no
abbrev pub of_confirmed : Result Bool Cause → Answer
of_confirmed (Ok true) = Ok (1 ∷ [])
of_confirmed (Ok false) = Ok (0 ∷ [])
of_confirmed (Err k) = Err k

-- confirmation of a case for the job of a record
abbrev pub confirmation : First → ℕ → ℕ → ℕ → Answer
confirmation (Ok None) a b c = Err cause.Cut
confirmation (Ok (Some (e, n))) a b c = of_confirmed (confirmed_reply e.job a b c)
confirmation (Err k) a b c = Err k

-- a case: a, b, c, whether there is a row, and the row
abbrev pub of_case : Result Case Cause → Answer
of_case (Ok x) = Ok (x.a ∷ x.b ∷ x.c ∷ row_numbers x.row)
of_case (Err k) = Err k

-- the generator's answer to a job and its random words: that of a reply that the promise allows, which is one alone
pub record OfEntry (e : Entry) (x : Answer) : Type 0 where
  pub reply : Result Case Cause
  pub replied : generator.Replied e.job e.r1 e.r2 reply
  pub is : x ≡ of_case reply

-- the same to a record
abbrev pub OfRecord : First → Answer → Type 0
OfRecord (Ok None) x = x ≡ Err cause.Cut
OfRecord (Ok (Some (e, n))) x = OfEntry e x
OfRecord (Err k) x = x ≡ Err k

-- the generator's function on a record
pub record Generated (r : First) (before after : List ℕ) (n : ℕ) : Type 0 where
  pub answer : Answer
  pub is : OfRecord r answer
  pub delivered : Delivered answer before after n

-- a whole-number case: x, y, z, carries
abbrev pub of_whole : Result whole-case.Case Cause → Answer
of_whole (Ok c) = Ok (c.x ∷ c.y ∷ c.z ∷ c.carries ∷ [])
of_whole (Err k) = Err k

-- the whole-number generator's function
pub record WholeGenerated (j : whole-job.Job) (before after : List ℕ) (n : ℕ) : Type 0 where
  pub reply : Result whole-case.Case Cause
  pub replied : whole-generator.Replied j reply
  pub delivered : Delivered (of_whole reply) before after n
