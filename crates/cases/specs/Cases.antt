-- The cases that document 01 marks with ● ("Cases, in hexadecimal"), and those of document 02, as rows of one table about the definitions.
-- A `Claim` is a statement of one of the kinds that document 01 makes there, `Holds` is what it says, and `cases` is the table.
-- Assumes nothing.
use Rattle.format.specs.declared.cause.Cause.{Cause}
use Rattle.std.specs.Prelude.{◌≡◌, ◌↔◌, ℕ, ◌^◌, ◌<◌, Option, Some, None, Result, Ok, Err}
use mathlib.Core.List.{List, [], ◌∷◌, ◌++◌, Memᴰ}
use Rattle.format.specs.declared.Format.{Format}
use Rattle.format.specs.Format.{word_bits}
use Rattle.format.specs.Cause.{number, clear}
use Rattle.mask.specs.declared.Mask.{Mask}
use Rattle.mask.specs.Mask.{free_mask}
use Rattle.job.specs.declared.Job.{Job}
use Rattle.job.specs.Dropped.{with_dropped}
use Rattle.job.specs.Job.{job_cause}
use Rattle.job.specs.Role.{wanted, with_wanted, masked_job}
use Rattle.job.specs.declared.Role.{Role}
use Rattle.job.specs.declared.Role.TheVariants.{A, B, C}
use Rattle.adder.specs.Result.{result_reply}
use Rattle.adder.specs.Row.{row_reply}
use Rattle.adder.specs.Below.{below_of}
use Rattle.fit.specs.Fit.{Fits}
use Rattle.generator.specs.Promise as generator
use Rattle.whole.specs.declared.Words.{Words}
use Rattle.whole.specs.Sum.{addends}
use Rattle.whole.specs.Reply as whole

-- what a case says of the carry row: that it is a word, that there is none, or nothing
pub data Carried : Type 0 where
  row : ℕ → Carried
  no_row : Carried
  unsaid : Carried

pub data Claim : Type 0 where
  -- of a format, an operation, a mode, a and b: c, and the carry row
  sum : Format → ℕ → ℕ → ℕ → ℕ → ℕ → Carried → Claim
  -- of a format, an operation, g, a and b: the g dropped bits with the sticky bit, or that there are none
  below : Format → ℕ → ℕ → ℕ → ℕ → Option ℕ → Claim
  -- of a job: the cases (a, b, c) that fit, and no other does
  exactly : Job → List (ℕ × ℕ × ℕ) → Claim
  -- of a job and two random words: the reply is the case a, b, c with its carry row
  found : Job → ℕ → ℕ → ℕ → ℕ → ℕ → ℕ → Claim
  -- of a job: the reply is the refusal of this number, whatever the random words
  refused : Job → ℕ → Claim
  -- of whole numbers of a length, x, y and the carry in: z and the carries, whatever the random words
  whole_sum : ℕ → ℕ → ℕ → ℕ → ℕ → ℕ → Claim

abbrev pub CarriedIs : Carried → Result (Option ℕ) Cause → Type 0
CarriedIs (row n) r = r ≡ Ok (Some n)
CarriedIs no_row r = r ≡ Ok None
CarriedIs unsaid r = Unit {0}

-- what a claim says
abbrev pub Holds : Claim → Type 0
Holds (sum F operation mode a b c carried) = (result_reply F operation mode a b ≡ Ok c) × CarriedIs carried (row_reply F operation a b)
Holds (below F operation g a b bits) = below_of F operation g a b ≡ bits
Holds (exactly j fitting) = (job_cause j ≡ clear) × ((a b c : ℕ) → Fits j a b c ↔ Memᴰ (a, b, c) fitting)
Holds (found j r1 r2 a b c carries) = generator.Replied j r1 r2 (Ok (record { a = a; b = b; c = c; row = Some carries }))
Holds (refused j k) = (r1 r2 : ℕ) → r1 < 2 ^ word_bits j.setting.format → r2 < 2 ^ word_bits j.setting.format
    → (c : Cause) × (number c ≡ k) × generator.Replied j r1 r2 (Err c)
Holds (whole_sum n x y carry_in z carries) =
    (w : Words) → w.x < 2 ^ n → w.y < 2 ^ n → w.z < 2 ^ n
    → whole.Replied (record { length = n; masks = addends n x y carry_in; words = w }) (Ok (record { x = x; y = y; z = z; carries = carries }))

-- format w = 3, f = 4, the eight-bit one of source document 000
abbrev pub eight : Format
eight = record { w = 3; f = 4 }

abbrev pub add : ℕ → ℕ → ℕ → ℕ → Carried → Claim
add mode a b c carried = sum eight 0 mode a b c carried

abbrev pub subtract : ℕ → ℕ → ℕ → ℕ → Carried → Claim
subtract mode a b c carried = sum eight 1 mode a b c carried

abbrev pub every_mode : (ℕ → Claim) → List Claim
every_mode at = at 0 ∷ at 1 ∷ at 2 ∷ at 3 ∷ at 4 ∷ []

-- the job that adds in a mode, with these masks
abbrev pub adding : ℕ → Mask → Mask → Mask → Mask → Job
adding mode a b c carries = masked_job (record { format = eight; operation = 0; mode = mode }) a b c carries

-- "Masks there: a 0100x101, b 001x1011, c 010xx10x (x free)", with a carry mask
abbrev pub masked : ℕ → Mask → Job
masked mode carries = adding mode (record { care = 0xF7; value = 0x45 }) (record { care = 0xEF; value = 0x2B }) (record { care = 0xE6; value = 0x44 }) carries

-- 1. Add, mode 0: exactly (45, 2B, 4C) row 04 and (4D, 3B, 55) row 1D fit.
abbrev pub case1 : List Claim
case1 =
    exactly (masked 0 free_mask) ((0x45, 0x2B, 0x4C) ∷ (0x4D, 0x3B, 0x55) ∷ []) ∷ add 0 0x45 0x2B 0x4C (row 0x04)
    ∷ add 0 0x4D 0x3B 0x55 (row 0x1D) ∷ []

-- 2. Words 0, 0 give the first; 4D, 0 the second.
abbrev pub case2 : List Claim
case2 =
    found (masked 0 free_mask) 0x00 0x00 0x45 0x2B 0x4C 0x04
    ∷ found (masked 0 free_mask) 0x4D 0x00 0x4D 0x3B 0x55 0x1D ∷ []

-- 3. Mode 3: only the second. Mode 2: only the first.
abbrev pub case3 : List Claim
case3 = exactly (masked 3 free_mask) ((0x4D, 0x3B, 0x55) ∷ []) ∷ exactly (masked 2 free_mask) ((0x45, 0x2B, 0x4C) ∷ []) ∷ []

-- 4. Carry position 1 fixed to 1, mode 0: refusal 7.
abbrev pub case4 : List Claim
case4 = refused (masked 0 (record { care = 0x02; value = 0x02 })) 7 ∷ []

-- 5. 30 - 30: 00, but 80 in mode 3.
abbrev pub case5 : List Claim
case5 =
    subtract 0 0x30 0x30 0x00 unsaid ∷ subtract 1 0x30 0x30 0x00 unsaid ∷ subtract 2 0x30 0x30 0x00 unsaid
    ∷ subtract 3 0x30 0x30 0x80 unsaid ∷ []

-- 6. 6F + 6F: 70 in modes 0 and 2, 6F in modes 1 and 3.
abbrev pub case6 : List Claim
case6 = add 0 0x6F 0x6F 0x70 unsaid ∷ add 1 0x6F 0x6F 0x6F unsaid ∷ add 2 0x6F 0x6F 0x70 unsaid ∷ add 3 0x6F 0x6F 0x6F unsaid ∷ []

-- 7. 70 - 70: 78. An infinite operand has no row.
abbrev pub case7 : List Claim
case7 = every_mode (λ mode. subtract mode 0x70 0x70 0x78 no_row)

-- 8. 0F + 01 = 10.
abbrev pub case8 : List Claim
case8 = every_mode (λ mode. add mode 0x0F 0x01 0x10 unsaid)

-- 9. 30 + 02: 30 in mode 0, 31 in mode 2. 31 + 02: 32 in mode 0.
abbrev pub case9 : List Claim
case9 = add 0 0x30 0x02 0x30 unsaid ∷ add 2 0x30 0x02 0x31 unsaid ∷ add 0 0x31 0x02 0x32 unsaid ∷ []

-- 10. 30 - 01: row 0F; 30 in mode 0, 2F in mode 3.
abbrev pub case10 : List Claim
case10 = subtract 0 0x30 0x01 0x30 (row 0x0F) ∷ subtract 3 0x30 0x01 0x2F (row 0x0F) ∷ []

-- 11. Whole numbers, N = 2, x 3, y 1, carry in 0: z 0, carries 6.
abbrev pub case11 : List Claim
case11 = whole_sum 2 3 1 0 0 6 ∷ []

-- W-201. Mode 4, ties: 30 + 02 = 31 and 31 + 02 = 32, and the same with both signs turned. Overflow: 6F + 6F = 70. A cancelled sum:
-- 30 - 30 = 00. With the masks of case 1 exactly (45, 2B, 4C) and (4D, 3B, 55) fit.
abbrev pub ties_away : List Claim
ties_away =
    add 4 0x30 0x02 0x31 unsaid ∷ add 4 0x31 0x02 0x32 unsaid ∷ add 4 0xB0 0x82 0xB1 unsaid ∷ add 4 0xB1 0x82 0xB2 unsaid
    ∷ add 4 0x6F 0x6F 0x70 unsaid ∷ subtract 4 0x30 0x30 0x00 unsaid
    ∷ exactly (masked 4 free_mask) ((0x45, 0x2B, 0x4C) ∷ (0x4D, 0x3B, 0x55) ∷ []) ∷ []

-- a value bit outside care
abbrev pub outside_care : Mask
outside_care = record { care = 0x10; value = 0x01 }

-- W-203. Of malformed masks the first is named: 5 for a's, 14 for b's, 15 for c's, 16 for the carries'; in the last row a carry mask with a
-- bit above p.
abbrev pub malformed : List Claim
malformed =
    refused (adding 0 outside_care outside_care outside_care outside_care) 5 ∷ refused (adding 0 free_mask outside_care outside_care outside_care) 14
    ∷ refused (adding 0 free_mask free_mask outside_care outside_care) 15
    ∷ refused (adding 0 free_mask free_mask free_mask outside_care) 16
    ∷ refused (masked 0 (record { care = 0x20; value = 0x00 })) 16 ∷ []

-- W-205. With equal exponents a is L: 30 - 31 has row 1F, 31 - 30 row 00; with e = 0, 05 - 0A row 1A and 0A - 05 row 05. Of e = 0 and e = 1
-- the latter is L: 05 - 10 and 10 - 05 have row 0F.
abbrev pub by_exponent : List Claim
by_exponent =
    subtract 0 0x30 0x31 0x84 (row 0x1F) ∷ subtract 0 0x31 0x30 0x04 (row 0x00) ∷ subtract 0 0x05 0x0A 0x85 (row 0x1A)
    ∷ subtract 0 0x0A 0x05 0x05 (row 0x05) ∷ subtract 0 0x05 0x10 0x8B (row 0x0F) ∷ subtract 0 0x10 0x05 0x0B (row 0x0F) ∷ []

-- the masks of case 1 with one on the carries and one on g dropped bits and the sticky bit
abbrev pub dropping : Mask → ℕ → Mask → Job
dropping carries g m = with_dropped (masked 0 carries) (record { g = g; mask = m })

-- W-206. Dropped bits and the sticky bit: 30 + 02 at g = 3 has 8, a tie, and at g = 8 100; 45 + 2B at g = 2 has 6, 4D + 3B has 2, and at
-- g = 0 the former's sticky bit is 1. 30 - 01 has 8, by the digits of the difference; 6F + 41, which overflows, has A. The smallest normal
-- result 0F + 01 has 0; a smaller one, a zero and one of an infinite operand have none.
abbrev pub dropped_bits : List Claim
dropped_bits =
    below eight 0 3 0x30 0x02 (Some 0x8) ∷ below eight 0 8 0x30 0x02 (Some 0x100) ∷ below eight 0 2 0x45 0x2B (Some 0x6)
    ∷ below eight 0 2 0x4D 0x3B (Some 0x2) ∷ below eight 0 0 0x45 0x2B (Some 0x1) ∷ below eight 1 3 0x30 0x01 (Some 0x8)
    ∷ below eight 0 3 0x6F 0x41 (Some 0xA) ∷ below eight 0 3 0x0F 0x01 (Some 0x0) ∷ below eight 0 3 0x0E 0x01 None
    ∷ below eight 1 3 0x30 0x30 None ∷ below eight 0 3 0x70 0x30 None ∷ []

-- W-206. With the masks of case 1 and 6 at g = 2 only (45, 2B, 4C) fits, and with the sticky bit 1 there no case does. A bit above the g + 1
-- bits is refused with 17, and so is a g of 9 though nothing is fixed; a malformed carry mask is named before it.
abbrev pub dropped_jobs : List Claim
dropped_jobs =
    exactly (dropping free_mask 2 (record { care = 0x7; value = 0x6 })) ((0x45, 0x2B, 0x4C) ∷ [])
    ∷ refused (dropping free_mask 2 (record { care = 0x1; value = 0x1 })) 7 ∷ refused (dropping free_mask 2 (record { care = 0x8; value = 0x0 })) 17
    ∷ refused (dropping free_mask 9 free_mask) 17 ∷ refused (dropping outside_care 9 free_mask) 16 ∷ []

-- the job with bounds on a word
abbrev pub bounding : Role → ℕ → ℕ → Job → Job
bounding role low high j = with_wanted role j (record { mask = (wanted role j).mask; bounds = Some (record { low = low; high = high }) })

-- the job that adds a and b in mode 0, whatever c
abbrev pub of : ℕ → ℕ → Job
of a b = adding 0 (record { care = 0xFF; value = a }) (record { care = 0xFF; value = b }) free_mask free_mask

-- W-207. With the masks of case 1 and a from 46 to 4D only (4D, 3B, 55) fits, both bounds being included, and so with b from 3B to 3B or c
-- from 4D to 70; with a from 46 to 4C no case does. Negative numbers: B1 lies from B2 to B0. Zeros are equal: 80 lies from 00 to 00, and 00
-- from 00 to 80. Infinities lie at the ends, and no NaN between them.
abbrev pub bounded_jobs : List Claim
bounded_jobs =
    exactly (bounding A 0x46 0x4D (masked 0 free_mask)) ((0x4D, 0x3B, 0x55) ∷ []) ∷ exactly (bounding B 0x3B 0x3B (masked 0 free_mask)) ((0x4D, 0x3B, 0x55) ∷ [])
    ∷ exactly (bounding C 0x4D 0x70 (masked 0 free_mask)) ((0x4D, 0x3B, 0x55) ∷ []) ∷ refused (bounding A 0x46 0x4C (masked 0 free_mask)) 7
    ∷ found (bounding A 0x46 0x4D (masked 0 free_mask)) 0x00 0x00 0x4D 0x3B 0x55 0x1D ∷ exactly (bounding A 0xB2 0xB0 (of 0xB1 0x30)) ((0xB1, 0x30, 0x84) ∷ [])
    ∷ exactly (bounding A 0x00 0x00 (of 0x80 0x30)) ((0x80, 0x30, 0x30) ∷ []) ∷ exactly (bounding A 0x00 0x80 (of 0x00 0x30)) ((0x00, 0x30, 0x30) ∷ [])
    ∷ exactly (bounding A 0xF0 0x70 (of 0x70 0x30)) ((0x70, 0x30, 0x70) ∷ []) ∷ refused (bounding A 0xF0 0x70 (of 0x78 0x30)) 7 ∷ []

-- W-207. A bound that is a NaN and a low bound above the high one are refused with 18, a bound too wide with 6, also where 18 stands against
-- another word's; a malformed mask of the dropped bits is named before them.
abbrev pub refused_bounds : List Claim
refused_bounds =
    refused (bounding A 0x00 0x78 (of 0x30 0x30)) 18 ∷ refused (bounding C 0x31 0x30 (of 0x30 0x30)) 18 ∷ refused (bounding B 0x00 0x100 (of 0x30 0x30)) 6
    ∷ refused (bounding A 0x31 0x30 (bounding B 0x00 0x100 (of 0x30 0x30))) 6 ∷ refused (bounding B 0x00 0x100 (dropping free_mask 9 free_mask)) 17 ∷ []

abbrev pub cases : List Claim
cases = case1 ++ case2 ++ case3 ++ case4 ++ case5 ++ case6 ++ case7 ++ case8 ++ case9 ++ case10 ++ case11 ++ ties_away ++ malformed ++ by_exponent ++ dropped_bits ++ dropped_jobs ++ bounded_jobs ++ refused_bounds
