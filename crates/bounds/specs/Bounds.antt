-- Bounds on a word (document 02, W-207): "a low and a high bound, both included, compared as numbers: -0 equals +0, infinities lie at the ends,
-- and a NaN lies within no bounds". Words are compared by their rank, a whole number that rises with the number that a word stands for. What
-- is within comes twice: with a capital, which laws read, and as a Bool, which a check computes. Assumes nothing.
use Rattle.std.specs.Prelude.{◌≡◌, Bool, true, false, not, cond, ◌&&◌, ℕ, ◌+◌, ◌-◌, ◌%◌, ◌^◌, ◌≤◌, ◌<◌, eqb, leb, ltb, Option, Some, None}
use Rattle.format.specs.declared.Format.{Format}
use Rattle.format.specs.declared.cause.Cause.TheVariants as cause
use Rattle.format.specs.Cause.{Check, clear, unless, first}
use Rattle.format.specs.Format.{word_bits, word_cause}
use Rattle.word.specs.Word.{sign, infinity_word}
use Rattle.bounds.specs.declared.Ends.{Ends}

-- ---- words as numbers

-- a word without its sign bit
abbrev pub unsigned : Format → ℕ → ℕ
unsigned F x = x % 2 ^ (F.w + F.f)

-- "Where e is 2^w - 1, t = 0 is infinity and any other t a NaN" (document 01)
abbrev pub is_nan : Format → ℕ → Bool
is_nan F x = ltb (infinity_word F) (unsigned F x)

-- zeros of either sign have the rank 2^(w+f); a positive word stands as far above it as its other bits say, a negative one as far below
unfoldable pub rank : Format → ℕ → ℕ
rank F x = cond (eqb (sign F x) 0) (2 ^ (F.w + F.f) + unsigned F x) (2 ^ (F.w + F.f) - unsigned F x)

-- ---- within

-- "both included", and "a NaN lies within no bounds"
pub record LiesBetween (F : Format) (x : ℕ) (e : Ends) : Type 0 where
  pub number : is_nan F x ≡ false
  pub above : rank F e.low ≤ rank F x
  pub below : rank F x ≤ rank F e.high

-- "For each of a, b and c a job may give a low and a high bound"
abbrev pub Within : Format → ℕ → Option Ends → Type 0
Within F x None = Prim.Unit {0}
Within F x (Some e) = LiesBetween F x e

abbrev pub within : Format → ℕ → Option Ends → Bool
within F x None = true
within F x (Some e) = not (is_nan F x) && (leb (rank F e.low) (rank F x) && leb (rank F x) (rank F e.high))

-- ---- causes

-- "A bound too wide gets 6"
unfoldable pub ends_cause : Format → Option Ends → Check
ends_cause F None = clear
ends_cause F (Some e) = first (word_cause (word_bits F) e.low) (word_cause (word_bits F) e.high)

-- neither end is a NaN, and low does not exceed high
abbrev pub ordered_ends : Format → Ends → Bool
ordered_ends F e = not (is_nan F e.low) && (not (is_nan F e.high) && leb (rank F e.low) (rank F e.high))

-- "18, a bound is a NaN or low exceeds high"
unfoldable pub bounds_cause : Format → Option Ends → Check
bounds_cause F None = clear
bounds_cause F (Some e) = unless (ordered_ends F e) cause.Bounds

-- neither 6 nor 18 stands against them
pub record ValidEnds (F : Format) (e : Ends) : Type 0 where
  pub low_word : e.low < 2 ^ word_bits F
  pub high_word : e.high < 2 ^ word_bits F
  pub low_number : is_nan F e.low ≡ false
  pub high_number : is_nan F e.high ≡ false
  pub ordered : rank F e.low ≤ rank F e.high

abbrev pub ValidBounds : Format → Option Ends → Type 0
ValidBounds F None = Prim.Unit {0}
ValidBounds F (Some e) = ValidEnds F e
