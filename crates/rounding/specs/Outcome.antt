-- The word c that two aligned significands make (document 01, "The rounded result"). The larger operand's significand is held as
-- H, with q bits below it, and the smaller one's, aligned to it, as T, the lowest of whose q bits is sticky (`head_at` and `tail_at` of
-- `Sticky`); what they make is held as x = H + T or H - T. No exponent field is named: only the exponent u of the larger operand's unit, on
-- which c's exponent depends. Assumes nothing.
use Rattle.std.specs.Prelude.{Bool, true, false, cond, ℕ, zero, suc, ◌+◌, ◌-◌, ◌*◌, ◌^◌, ◌≤◌, ◌<◌, ltb}
use Rattle.std.specs.Float.Ieee.{size}
use Rattle.format.specs.declared.Format.{Format}
use Rattle.word.specs.declared.Unit as exponent
use Rattle.word.specs.Word.{infinity_word, signed}
use Rattle.rounding.specs.declared.Direction as way
use Rattle.rounding.specs.Rounding.{direction, cancelled_sign, overflow_word}
use Rattle.rounding.specs.Sticky.{kept_part}
use Rattle.rounding.specs.Width.{aligned_bits}

-- the exponent of the rounded magnitude's unit, where N is the number of digits of what holds it: so many of its low bits are dropped
abbrev pub rounded_unit : ℕ → ℕ → ℕ → exponent.Unit → exponent.Unit
rounded_unit q f N u = record { 0 = N + u.0 - aligned_bits q f }

-- the magnitude that x holds, rounded, in that unit: the fraction and what stands above it
abbrev pub kept_of : ℕ → ℕ → way.Direction → ℕ → exponent.Unit → ℕ
kept_of q f d x u = kept_part q d x u.0 (rounded_unit q f (size x) u).0

-- its word, as if exponents went on upward
abbrev pub held_word : ℕ → Format → way.Direction → ℕ → exponent.Unit → ℕ
held_word q F d x u = (rounded_unit q F.f (size x) u).0 * 2 ^ F.f + kept_of q F.f d x u

-- the same within the format
unfoldable pub bounded_held : ℕ → Format → way.Direction → ℕ → exponent.Unit → ℕ
bounded_held q F d x u = cond (ltb (held_word q F d x u) (infinity_word F)) (held_word q F d x u) (overflow_word F d)

-- the sign of a zero sum: that of like operands, else that of a cancelled sum
abbrev pub zero_sign : ℕ → Bool → ℕ → ℕ
zero_sign mode true s = s
zero_sign mode false s = cancelled_sign mode

-- the word c: s is the larger operand's sign, x what the significands make
unfoldable pub outcome : ℕ → Format → ℕ → Bool → ℕ → exponent.Unit → ℕ → ℕ
outcome q F mode like s u zero = signed F (zero_sign mode like s) 0
outcome q F mode like s u (suc x) = signed F s (bounded_held q F (direction mode s) (suc x) u)

-- the magnitude that x holds is at least the smallest normal one (W-206)
pub record NormalAt (q f : ℕ) (u : exponent.Unit) (x : ℕ) : Type 0 where
  pub some : 0 < x
  pub reaches : aligned_bits q f ≤ size x + u.0
