-- The exact result of two finite operands, a whole number of smallest steps and a sign (document 01, "The rounded result"; W-206).
-- The dropped bits (`Below`) are those of its magnitude, and laws about c speak of it; a zero has the sign that document 01 gives it, so
-- that rounding it is no case of its own. Assumes nothing.
use Rattle.std.specs.Prelude.{cond, ℕ, ◌+◌, ◌-◌, eqb, ltb}
use Rattle.word.specs.declared.Finite.{Finite}
use Rattle.word.specs.Operand.{magnitude}
use Rattle.rounding.specs.Rounding.{cancelled_sign}

-- like signs add the magnitudes, unlike signs subtract the smaller from the larger
unfoldable pub exact_magnitude : Finite → Finite → ℕ
exact_magnitude x y =
    cond (eqb x.sign y.sign) (magnitude x + magnitude y) (cond (ltb (magnitude x) (magnitude y)) (magnitude y - magnitude x) (magnitude x - magnitude y))

-- the sign of like signs, else that of the larger magnitude, else that of an exact zero
unfoldable pub exact_sign : ℕ → Finite → Finite → ℕ
exact_sign mode x y =
    cond (eqb x.sign y.sign) x.sign
    (cond (ltb (magnitude x) (magnitude y)) y.sign (cond (ltb (magnitude y) (magnitude x)) x.sign (cancelled_sign mode)))
