-- The numbers of document 01's table "Causes and replies" and those that document 02 adds, and how causes are tested in order.
-- A check finds nothing wrong, `clear`, or names the cause that it finds. Assumes nothing.
use Rattle.std.specs.Prelude.{Bool, true, false, ℕ, Result, Ok, Err}
use Rattle.std.specs.Result.{result_and}
use Rattle.format.specs.declared.cause.Cause.{Cause}
use Rattle.format.specs.declared.cause.Cause.TheVariants as cause

-- the number of a cause; W-203: 5 is for a's mask malformed, or x's, or either in joining, 14 for b's or y's, 15 for c's or z's, 16 for the
-- carry mask; W-206: 17 is for a g above 8, or the mask of the dropped bits malformed; W-207: 18 is for a bound that is a NaN, or low
-- exceeds high
unfoldable pub number : Cause → ℕ
number cause.ExponentBits = 1
number cause.FractionBits = 2
number cause.Operation = 3
number cause.Mode = 4
number cause.Mask = 5
number cause.Word = 6
number cause.NoCase = 7
number cause.Cut = 8
number cause.MapBits = 9
number cause.DefaultField = 10
number cause.Buffer = 11
number cause.WholeLength = 12
number cause.Clash = 13
number cause.SecondMask = 14
number cause.ThirdMask = 15
number cause.CarryMask = 16
number cause.DroppedMask = 17
number cause.Bounds = 18

-- what a check says: nothing is wrong, or the cause that it finds
abbrev pub Check : Type 0
Check = Result (Unit {0}) Cause

abbrev pub clear : Check
clear = Ok tt

-- clear where the test holds, else the cause
abbrev pub unless : Bool → Cause → Check
unless true c = clear
unless false c = Err c

-- "Order": the first of two causes; and what is replied where a check finds none
abbrev pub first : {T : Type 0} → Check → Result T Cause → Result T Cause
first = result_and
