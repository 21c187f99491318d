-- The carry row of two words (document 01, "The carry row"; document 02, W-205), and the reply of the public function. Assumes nothing.
use Rattle.format.specs.declared.cause.Cause.{Cause}
use Rattle.std.specs.Prelude.{Bool, true, false, cond, ℕ, zero, suc, ◌+◌, ◌*◌, ◌%◌, ◌^◌, eqb, leb, ltb, Option, Some, None, Result, Ok}
use Rattle.format.specs.declared.Format.{Format}
use Rattle.format.specs.Cause.{Check, first}
use Rattle.format.specs.Format.{precision, word_bits, format_cause, operation_cause, word_cause}
use Rattle.word.specs.declared.Finite as record_of
use Rattle.word.specs.declared.Operand as kind
use Rattle.word.specs.declared.Operand.TheVariants.{Finite, Infinite, Nan}
use Rattle.word.specs.Word.{unit_of, effective}
use Rattle.word.specs.Operand.{operand_of, magnitude}

-- Position i for L and R of like or unlike sign, where L's unit is 2^u smallest steps. Counted in L's unit a number's remainder by 2^(i+1)
-- is its remainder by 2^(u+i+1) in smallest steps, so R's fractional part needs no fractions.
abbrev pub carry_at : Bool → ℕ → ℕ → ℕ → ℕ → Bool
carry_at true L R u i = leb (2 ^ (u + suc i)) (L % 2 ^ (u + suc i) + R % 2 ^ (u + suc i))
carry_at false L R u i = ltb (L % 2 ^ (u + suc i)) (R % 2 ^ (u + suc i))

-- position i of l and r, both in l's unit, where s is the sticky bit of what r has below it
abbrev pub carry_in : Bool → ℕ → ℕ → ℕ → ℕ → Bool
carry_in true l r s i = leb (2 ^ suc i) (l % 2 ^ suc i + r % 2 ^ suc i)
carry_in false l r s i = ltb (l % 2 ^ suc i) (r % 2 ^ suc i + s)

-- the number whose bit i is the test at i, for n positions
unfoldable pub gather : ℕ → (ℕ → Bool) → ℕ
gather zero at = 0
gather (suc n) at = gather n at + cond (at n) 1 0 * 2 ^ n

-- the row where l is L and r is R: p bits, position 0 the lowest
abbrev pub ordered_row : Format → record_of.Finite → record_of.Finite → ℕ
ordered_row F l r = gather (precision F) (carry_at (eqb l.sign r.sign) (magnitude l) (magnitude r) (unit_of l.exponent).0)

-- W-205: L is "the operand with the larger biased exponent, and a where they are equal"; x is a
unfoldable pub finite_row : Format → record_of.Finite → record_of.Finite → ℕ
finite_row F x y = cond (ltb x.exponent.0 y.exponent.0) (ordered_row F y x) (ordered_row F x y)

-- with an infinite or NaN operand there is no row
unfoldable pub kind_row : Format → kind.Operand → kind.Operand → Option ℕ
kind_row F Nan y = None
kind_row F (Infinite s) y = None
kind_row F (Finite x) Nan = None
kind_row F (Finite x) (Infinite t) = None
kind_row F (Finite x) (Finite y) = Some (finite_row F x y)

-- the row of a and b; signs are the effective ones
unfoldable pub row_of : Format → ℕ → ℕ → ℕ → Option ℕ
row_of F operation a b = kind_row F (operand_of F a) (operand_of F (effective F operation b))

-- "Order": 1, 2, 3, 6; the row knows no mode
unfoldable pub row_cause : Format → ℕ → ℕ → ℕ → Check
row_cause F operation a b = first (first (format_cause F) (operation_cause operation)) (first (word_cause (word_bits F) a) (word_cause (word_bits F) b))

-- the first cause, or the row
abbrev pub row_reply : Format → ℕ → ℕ → ℕ → Result (Option ℕ) Cause
row_reply F operation a b = first (row_cause F operation a b) (Ok (row_of F operation a b))
