-- Rounding a magnitude to a format (document 01, "The rounded result"; document 02, W-201).
-- A mode and a sign give a direction; the direction alone decides which neighbour is taken, and what an overflow gives.
-- `magnitude_word` is the word of the rounded magnitude, as if exponents went on upward. Assumes nothing.
use Rattle.std.specs.Prelude.{cond, ℕ, zero, suc, ◌+◌, ◌-◌, ◌*◌, ◌/◌, ◌%◌, ◌^◌, eqb, ltb}
use Rattle.std.specs.Float.Ieee.{size}
use Rattle.format.specs.declared.Format.{Format}
use Rattle.format.specs.Format.{precision}
use Rattle.rounding.specs.declared.Direction as way
use Rattle.rounding.specs.declared.Direction.TheVariants.{NearestEven, NearestAway, TowardZero, Away}
use Rattle.word.specs.Word.{infinity_word, signed}

-- modes: 0 nearest with ties to even, 1 toward zero, 2 up, 3 down, 4 nearest with ties away from zero; up is away from zero for sign 0, and
-- down for sign 1. No other number is a mode: whoever takes one refuses it.
unfoldable pub direction : ℕ → ℕ → way.Direction
direction mode s = cond (eqb mode 0) NearestEven (cond (eqb mode 4) NearestAway (cond (eqb mode (2 + s)) Away TowardZero))

-- the sign of an exact zero from operands of unlike sign: +, but - in mode 3
unfoldable pub cancelled_sign : ℕ → ℕ
cancelled_sign mode = cond (eqb mode 3) 1 0

-- the dropped part ρ against half of M: 1 where it is more, 0 where it is less, and `tie` where it is half
abbrev pub to_nearest : ℕ → ℕ → ℕ → ℕ
to_nearest tie ρ M = cond (ltb M (2 * ρ)) 1 (cond (eqb (2 * ρ) M) tie 0)

-- 1 where the kept part q goes to the next number up, for the dropped part ρ of M: to the nearest when ρ is more than half of M, and a tie
-- when q is odd, or always; away from zero when anything is dropped
unfoldable pub increment : way.Direction → ℕ → ℕ → ℕ → ℕ
increment NearestEven q ρ M = to_nearest (q % 2) ρ M
increment NearestAway q ρ M = to_nearest 1 ρ M
increment TowardZero q ρ M = 0
increment Away q ρ M = cond (eqb ρ 0) 0 1

-- X with its low k bits rounded off
unfoldable pub round_off : way.Direction → ℕ → ℕ → ℕ
round_off d X k = X / 2 ^ k + increment d (X / 2 ^ k) (X % 2 ^ k) (2 ^ k)

-- What rounding off adds before it drops the bits, a row for each direction: a constant, and a carry by the last kept bit (proofs/AddConstant:
-- `round_off_adds`). Where no bit is dropped nothing is added.
unfoldable pub rounding_constant : way.Direction → ℕ → ℕ
rounding_constant d zero = 0
rounding_constant NearestEven (suc j) = 2 ^ j - 1
rounding_constant NearestAway (suc j) = 2 ^ j - 1
rounding_constant TowardZero (suc j) = 0
rounding_constant Away (suc j) = 2 ^ suc j - 1

unfoldable pub rounding_carry : way.Direction → ℕ → ℕ → ℕ
rounding_carry d zero last = 0
rounding_carry NearestEven (suc j) last = last
rounding_carry NearestAway (suc j) last = 1
rounding_carry TowardZero (suc j) last = 0
rounding_carry Away (suc j) last = 0

-- how many low bits of X are dropped to keep p significant ones, never finer than one step
abbrev pub dropped : Format → ℕ → ℕ
dropped F X = size X - precision F

-- The word of the rounded magnitude. With k bits dropped a normal number has the exponent field k + 1 and the fraction Y - 2^f;
-- one with k = 0 that stays below 2^f is subnormal; Y = 2^p carries into the next exponent. One sum says it all.
unfoldable pub magnitude_word : Format → way.Direction → ℕ → ℕ
magnitude_word F d X = dropped F X * 2 ^ F.f + round_off d X (dropped F X)

-- past the largest finite number: infinity, but toward zero the largest finite number
unfoldable pub overflow_word : Format → way.Direction → ℕ
overflow_word F NearestEven = infinity_word F
overflow_word F NearestAway = infinity_word F
overflow_word F TowardZero = infinity_word F - 1
overflow_word F Away = infinity_word F

-- the word of the rounded magnitude, within the format
unfoldable pub bounded_word : Format → way.Direction → ℕ → ℕ
bounded_word F d X = cond (ltb (magnitude_word F d X) (infinity_word F)) (magnitude_word F d X) (overflow_word F d)

-- the word of the sign s and the rounded magnitude X
abbrev pub rounded : Format → ℕ → ℕ → ℕ → ℕ
rounded F mode s X = signed F s (bounded_word F (direction mode s) X)
