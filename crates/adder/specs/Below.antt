-- The bits of an exact result below the last one that is kept (document 02, W-206). Assumes nothing.
use Rattle.std.specs.Prelude.{Bool, true, false, ℕ, ◌^◌, leb, Option, Some, None}
use Rattle.format.specs.declared.Format.{Format}
use Rattle.word.specs.declared.Finite as record_of
use Rattle.word.specs.declared.Operand as kind
use Rattle.word.specs.declared.Operand.TheVariants.{Finite, Infinite, Nan}
use Rattle.word.specs.Word.{effective}
use Rattle.word.specs.Operand.{operand_of}
use Rattle.rounding.specs.Dropped.{dropped_word}
use Rattle.adder.specs.Exact.{exact_magnitude}

-- g dropped bits and the sticky bit of a magnitude, where it is normal
abbrev pub bits_if : Bool → ℕ → Option ℕ
bits_if true r = Some r
bits_if false r = None

-- "if .. its magnitude is at least the smallest normal one", which is 2^f smallest steps; one above the largest number has them too
abbrev pub magnitude_below : Format → ℕ → ℕ → Option ℕ
magnitude_below F g X = bits_if (leb (2 ^ F.f) X) (dropped_word F g X)

-- two finite operands
unfoldable pub finite_below : Format → ℕ → record_of.Finite → record_of.Finite → Option ℕ
finite_below F g x y = magnitude_below F g (exact_magnitude x y)

-- "The exact result, if operands are finite": with an infinite or NaN operand there are none
unfoldable pub kind_below : Format → ℕ → kind.Operand → kind.Operand → Option ℕ
kind_below F g Nan y = None
kind_below F g (Infinite s) y = None
kind_below F g (Finite x) Nan = None
kind_below F g (Finite x) (Infinite t) = None
kind_below F g (Finite x) (Finite y) = finite_below F g x y

-- the dropped bits and the sticky bit of a and b; signs are the effective ones
unfoldable pub below_of : Format → ℕ → ℕ → ℕ → ℕ → Option ℕ
below_of F operation g a b = kind_below F g (operand_of F a) (operand_of F (effective F operation b))
