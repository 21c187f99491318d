-- A case fits a job (document 01, "Masks and choice"; document 02, W-206, W-207): it is right in the job's setting, and it meets what the job
-- states. Beside that the reply about a proposed case ("Causes and replies"). Each statement comes twice: as a record, which laws and
-- contracts read, and as a Bool, which confirmation computes; `proofs/Laws.antt` has that they say the same. Neither runs a search.
-- Assumes nothing.
use Rattle.format.specs.declared.cause.Cause.{Cause}
use Rattle.std.specs.Prelude.{◌≡◌, Bool, ◌&&◌, ℕ, ◌^◌, ◌<◌, eqb, Option, Some, None, Result, Ok}
use Rattle.format.specs.declared.Format.{Format}
use Rattle.format.specs.Cause.{Check, first}
use Rattle.format.specs.Format.{word_bits, word_cause}
use Rattle.mask.specs.declared.Mask.{Mask}
use Rattle.mask.specs.Mask.{Meets, meets}
use Rattle.job.specs.declared.Setting.{Setting}
use Rattle.job.specs.declared.Wanted.{Wanted}
use Rattle.job.specs.declared.Job.{Job}
use Rattle.bounds.specs.Bounds.{Within, within}
use Rattle.job.specs.Job.{cause_with}
use Rattle.adder.specs.Result.{result_of}
use Rattle.adder.specs.Row.{row_of}
use Rattle.adder.specs.Below.{below_of}

-- ---- right

-- c of a and b in a setting
abbrev pub result_in : Setting → ℕ → ℕ → ℕ
result_in S a b = result_of S.format S.operation S.mode a b

-- the row of a and b in a setting
abbrev pub row_in : Setting → ℕ → ℕ → Option ℕ
row_in S a b = row_of S.format S.operation a b

-- the bits of their exact result below the last one in a setting, g of them and the sticky bit
abbrev pub below_in : Setting → ℕ → ℕ → ℕ → Option ℕ
below_in S g a b = below_of S.format S.operation g a b

-- three words of the format, and "c is the rounded result"
pub record Right (S : Setting) (a b c : ℕ) : Type 0 where
  pub a_word : a < 2 ^ word_bits S.format
  pub b_word : b < 2 ^ word_bits S.format
  pub c_word : c < 2 ^ word_bits S.format
  pub sum : c ≡ result_in S a b

-- ---- what a job states

-- a word of the format is as wanted: it agrees with every fixed bit, and lies within the bounds (W-207: "Masks and bounds apply jointly")
pub record Allowed (F : Format) (x : ℕ) (W : Wanted) : Type 0 where
  pub mask : Meets x W.mask
  pub within : Within F x W.bounds

abbrev pub allowed : Format → ℕ → Wanted → Bool
allowed F x W = meets x W.mask && within F x W.bounds

-- what a case may lack, its row or its dropped bits with their sticky bit, agrees with every fixed bit; where it is lacking, only a mask that
-- fixes no bit is met ("The carry row": the carry mask; document 02, W-206: "Other results meet only a mask that fixes nothing")
abbrev pub PartMeets : Option ℕ → Mask → Type 0
PartMeets (Some r) m = Meets r m
PartMeets None m = m.care ≡ 0

abbrev pub part_meets : Option ℕ → Mask → Bool
part_meets (Some r) m = meets r m
part_meets None m = eqb m.care 0

-- "its words and its row agree with every fixed bit", and from W-206 on "the case meets everything that its job states"
pub record Satisfies (j : Job) (a b c : ℕ) : Type 0 where
  pub a_allowed : Allowed j.setting.format a j.a
  pub b_allowed : Allowed j.setting.format b j.b
  pub c_allowed : Allowed j.setting.format c j.c
  pub row : PartMeets (row_in j.setting a b) j.carries
  pub dropped : PartMeets (below_in j.setting j.dropped.g a b) j.dropped.mask

-- the same as a test
unfoldable pub satisfies : Job → ℕ → ℕ → ℕ → Bool
satisfies j a b c =
    allowed j.setting.format a j.a && allowed j.setting.format b j.b && allowed j.setting.format c j.c
    && part_meets (row_in j.setting a b) j.carries && part_meets (below_in j.setting j.dropped.g a b) j.dropped.mask

-- ---- fits

-- W-206: "a case fits when c is the rounded result and the case meets everything that its job states"
pub record Fits (j : Job) (a b c : ℕ) : Type 0 where
  pub right : Right j.setting a b c
  pub satisfies : Satisfies j a b c

-- a and b are the operands of a fitting case
abbrev pub Fitting : Job → ℕ → ℕ → Type 0
Fitting j a b = (c : ℕ) × Fits j a b c

-- the same of three words of the format, as a test
unfoldable pub fits : Job → ℕ → ℕ → ℕ → Bool
fits j a b c = eqb (result_in j.setting a b) c && satisfies j a b c

-- ---- the reply

-- what stands against the job and three proposed words
unfoldable pub case_cause : Job → ℕ → ℕ → ℕ → Check
case_cause j a b c =
    cause_with j
    (first (word_cause (word_bits j.setting.format) a)
    (first (word_cause (word_bits j.setting.format) b) (word_cause (word_bits j.setting.format) c)))

-- "A confirmed case is a yes, one that doesn't fit a no"
abbrev pub confirmed_reply : Job → ℕ → ℕ → ℕ → Result Bool Cause
confirmed_reply j a b c = first (case_cause j a b c) (Ok (fits j a b c))
