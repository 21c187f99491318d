-- The kind of an operand (document 01, "Numbers of a format" and "The rounded result", last paragraph): finite, with its sign, exponent
-- and significand, infinite with its sign, or a NaN. Assumes nothing.
use Rattle.std.specs.Prelude.{◌≡◌, ℕ, ◌*◌, ◌^◌, ◌<◌, ◌≤◌, cond, ◌==◌}
use Rattle.format.specs.declared.Format.{Format}
use Rattle.format.specs.Format.{precision}
use Rattle.word.specs.declared.Finite as record_of
use Rattle.word.specs.declared.Operand as kind
use Rattle.word.specs.declared.Operand.TheVariants.{Finite, Infinite, Nan}
use Rattle.word.specs.Word.{fraction, biased, sign, unit_of, significand, all_ones}

-- the finite number that a word stands for, its exponent field not being all ones
abbrev pub finite_of : Format → ℕ → record_of.Finite
finite_of F x = record { sign = sign F x; exponent = biased F x; significand = significand F.f (biased F x).0 (fraction F x) }

-- e all ones: infinity where t = 0, else a NaN; any other e: finite
unfoldable pub operand_of : Format → ℕ → kind.Operand
operand_of F x = cond ((biased F x).0 == all_ones F) (cond (fraction F x == 0) (Infinite (sign F x)) Nan) (Finite (finite_of F x))

-- a finite magnitude in smallest steps
abbrev pub magnitude : record_of.Finite → ℕ
magnitude x = x.significand * 2 ^ (unit_of x.exponent).0

-- what holds of every finite operand of a format: a significand has p bits, and its top bit stands exactly where e is not 0
pub record Canonical (F : Format) (x : record_of.Finite) : Type 0 where
  pub sign_lt : x.sign < 2
  pub exponent_lt : x.exponent.0 < all_ones F
  pub significand_lt : x.significand < 2 ^ precision F
  pub subnormal : x.exponent.0 ≡ 0 → x.significand < 2 ^ F.f
  pub normal : 0 < x.exponent.0 → 2 ^ F.f ≤ x.significand

-- a kind whose finite number is canonical, or whose infinity has a sign bit
abbrev pub Sound : Format → kind.Operand → Type 0
Sound F (Finite x) = Canonical F x
Sound F (Infinite s) = s < 2
Sound F Nan = Prim.Unit {0}
