-- A job: a setting (format, operation, mode), and what is wanted of the words a, b, c, each by a mask and bounds (document 01, "Masks and
-- choice", "Causes and replies"; document 02, W-207), of the carry row and of the dropped bits (W-206). `job_cause` is the first cause against
-- it, clear for none, and `request_cause` that against it and two random words; `Valid` and `Request` say as facts that there is none.
-- Assumes nothing.
use Rattle.std.specs.Prelude.{Option, ℕ, ◌^◌, ◌≤◌, ◌<◌}
use Rattle.format.specs.declared.Format.{Format}
use Rattle.format.specs.Cause.{Check, clear, first}
use Rattle.format.specs.Limits.{most_operation, most_mode}
use Rattle.format.specs.Format.{word_bits, precision, Supported, format_cause, operation_cause, mode_cause, word_cause}
use Rattle.mask.specs.Mask.{WellFormed, masks_cause}
use Rattle.bounds.specs.declared.Ends.{Ends}
use Rattle.bounds.specs.Bounds.{ends_cause, bounds_cause, ValidBounds}
use Rattle.job.specs.declared.Setting.{Setting}
use Rattle.job.specs.declared.Wanted.{Wanted}
use Rattle.job.specs.declared.Job.{Job}
use Rattle.job.specs.Dropped.{dropped_cause, ValidDropped}

-- "Order": 1 and 2, 3, 4
unfoldable pub setting_cause : Setting → Check
setting_cause S = first (format_cause S.format) (first (operation_cause S.operation) (mode_cause S.mode))

-- W-203: 5, 14 and 15 for the masks of a, b and c, whose width is the word's, and 16 for that of the carries, whose width is p; then W-206:
-- "17 .. after 16"
abbrev pub job_masks_cause : Job → Check
job_masks_cause j =
    first (masks_cause (word_bits j.setting.format) (precision j.setting.format) j.a.mask j.b.mask j.c.mask j.carries)
    (dropped_cause j.dropped)

-- the first cause that a test finds against the bounds of a, of b and of c
abbrev pub against_bounds : (Format → Option Ends → Check) → Job → Check
against_bounds cause j =
    first (cause j.setting.format j.a.bounds) (first (cause j.setting.format j.b.bounds) (cause j.setting.format j.c.bounds))

-- W-207: "A bound too wide gets 6"
abbrev pub job_ends_cause : Job → Check
job_ends_cause j = against_bounds ends_cause j

-- and 18 is for bounds that are a NaN or out of order
abbrev pub job_bounds_cause : Job → Check
job_bounds_cause j = against_bounds bounds_cause j

-- "Order: 1 to 7, each where it applies": 1 to 4, then the masks
unfoldable pub form_cause : Job → Check
form_cause j = first (setting_cause j.setting) (job_masks_cause j)

-- then 6, for the bounds and for the words that come with the job, whose cause is given, and W-207: 18 "after 6"
unfoldable pub cause_with : Job → Check → Check
cause_with j words = first (form_cause j) (first (job_ends_cause j) (first words (job_bounds_cause j)))

-- what stands against the job alone
abbrev pub job_cause : Job → Check
job_cause j = cause_with j clear

-- no cause stands against a setting
pub record ValidSetting (S : Setting) : Type 0 where
  pub format : Supported S.format
  pub operation : S.operation ≤ most_operation
  pub mode : S.mode ≤ most_mode

-- no cause stands against what is wanted of a word of the format
pub record ValidWanted (F : Format) (W : Wanted) : Type 0 where
  pub mask : WellFormed (word_bits F) W.mask
  pub bounds : ValidBounds F W.bounds

-- no cause stands against the job
pub record Valid (j : Job) : Type 0 where
  pub setting : ValidSetting j.setting
  pub a : ValidWanted j.setting.format j.a
  pub b : ValidWanted j.setting.format j.b
  pub c : ValidWanted j.setting.format j.c
  pub carries : WellFormed (precision j.setting.format) j.carries
  pub dropped : ValidDropped j.dropped

-- what stands against the job and its two random words
unfoldable pub request_cause : Job → ℕ → ℕ → Check
request_cause j r1 r2 = cause_with j (first (word_cause (word_bits j.setting.format) r1) (word_cause (word_bits j.setting.format) r2))

-- none of these stands: the job is valid and the words are words of its format
pub record Request (j : Job) (r1 r2 : ℕ) : Type 0 where
  pub valid : Valid j
  pub first_word : r1 < 2 ^ word_bits j.setting.format
  pub second_word : r2 < 2 ^ word_bits j.setting.format
