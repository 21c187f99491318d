-- The rounded sum and difference of two words (document 01, "The rounded result"), and the reply of the public function.
-- Assumes nothing.
use Rattle.format.specs.declared.cause.Cause.{Cause}
use Rattle.std.specs.Prelude.{cond, ℕ, ◌+◌, ◌-◌, ◌^◌, eqb, ltb, Result, Ok}
use Rattle.format.specs.declared.Format.{Format}
use Rattle.format.specs.Cause.{Check, first}
use Rattle.format.specs.Format.{word_bits, format_cause, operation_cause, mode_cause, word_cause}
use Rattle.word.specs.declared.Finite as record_of
use Rattle.word.specs.declared.Operand as kind
use Rattle.word.specs.declared.Operand.TheVariants.{Finite, Infinite, Nan}
use Rattle.word.specs.Word.{infinity_word, signed, effective}
use Rattle.word.specs.Operand.{operand_of, magnitude}
use Rattle.rounding.specs.Rounding.{cancelled_sign, rounded}

-- the one NaN: sign 0, exponent all ones, top fraction bit 1 and the others 0
abbrev pub nan : Format → ℕ
nan F = infinity_word F + 2 ^ (F.f - 1)

-- infinity of a sign
abbrev pub infinity : Format → ℕ → ℕ
infinity F s = signed F s (infinity_word F)

-- two finite operands: like signs add their magnitudes; unlike signs subtract the smaller from the larger, whose sign it takes
unfoldable pub finite_sum : Format → ℕ → record_of.Finite → record_of.Finite → ℕ
finite_sum F mode x y =
    cond (eqb x.sign y.sign)
    (rounded F mode x.sign (magnitude x + magnitude y))
    (cond (ltb (magnitude x) (magnitude y))
    (rounded F mode y.sign (magnitude y - magnitude x))
    (cond (ltb (magnitude y) (magnitude x))
    (rounded F mode x.sign (magnitude x - magnitude y))
    (signed F (cancelled_sign mode) 0)))

-- infinity of sign s and another operand: the NaN with a NaN or with infinity of the other sign, else that infinity
unfoldable pub infinite_sum : Format → ℕ → kind.Operand → ℕ
infinite_sum F s Nan = nan F
infinite_sum F s (Infinite t) = cond (eqb s t) (infinity F s) (nan F)
infinite_sum F s (Finite y) = infinity F s

-- a NaN operand gives the NaN, and an infinite one infinity of its sign, but for two of unlike sign
unfoldable pub kind_sum : Format → ℕ → kind.Operand → kind.Operand → ℕ
kind_sum F mode Nan y = nan F
kind_sum F mode (Infinite s) y = infinite_sum F s y
kind_sum F mode (Finite x) Nan = nan F
kind_sum F mode (Finite x) (Infinite t) = infinity F t
kind_sum F mode (Finite x) (Finite y) = finite_sum F mode x y

-- c of a and b
unfoldable pub result_of : Format → ℕ → ℕ → ℕ → ℕ → ℕ
result_of F operation mode a b = kind_sum F mode (operand_of F a) (operand_of F (effective F operation b))

-- "Order": 1, 2, 3, 4, 6
unfoldable pub result_cause : Format → ℕ → ℕ → ℕ → ℕ → Check
result_cause F operation mode a b =
    first (first (first (format_cause F) (operation_cause operation)) (mode_cause mode)) (first (word_cause (word_bits F) a) (word_cause (word_bits F) b))

-- the first cause, or the word
abbrev pub result_reply : Format → ℕ → ℕ → ℕ → ℕ → Result ℕ Cause
result_reply F operation mode a b = first (result_cause F operation mode a b) (Ok (result_of F operation mode a b))
