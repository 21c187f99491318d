-- The fields of a word, the finite magnitude that they stand for, and words put together from them (document 01, "Numbers of a format").
-- From the top a word has one sign bit, w exponent bits and f fraction bits. Magnitudes are counted in smallest steps.
-- Assumes nothing.
use Rattle.std.specs.Prelude.{ℕ, zero, suc, ◌+◌, ◌-◌, ◌*◌, ◌/◌, ◌%◌, ◌^◌}
use Rattle.format.specs.declared.Format.{Format}
use Rattle.format.specs.Format.{word_bits}
use Rattle.word.specs.declared.Biased.{Biased}
use Rattle.word.specs.declared.Unit as exponent

-- t, the fraction field
abbrev pub fraction : Format → ℕ → ℕ
fraction F x = x % 2 ^ F.f

-- e, the exponent field, as a biased exponent
abbrev pub biased : Format → ℕ → Biased
biased F x = record { 0 = x / 2 ^ F.f % 2 ^ F.w }

-- the sign bit
abbrev pub sign : Format → ℕ → ℕ
sign F x = x / 2 ^ (F.w + F.f) % 2

-- the exponent of the unit: a unit is 1 smallest step where e = 0, else 2^(e-1) smallest steps
abbrev pub unit_of : Biased → exponent.Unit
unit_of e = record { 0 = e.0 - 1 }

-- the exponent field of a number of q * 2^f + t units: q is 0 where e = 0, else 1, and 2 stands for a significand that was rounded up to the
-- next exponent
abbrev pub field_of : exponent.Unit → ℕ → Biased
field_of u q = record { 0 = u.0 + q }

-- the significand: t where e = 0, else 2^f + t
unfoldable pub significand : ℕ → ℕ → ℕ → ℕ
significand f zero t = t
significand f (suc e) t = 2 ^ f + t

-- the exponent field of infinities and NaNs
abbrev pub all_ones : Format → ℕ
all_ones F = 2 ^ F.w - 1

-- the word of infinity's magnitude; the one before it is the largest finite number's
abbrev pub infinity_word : Format → ℕ
infinity_word F = all_ones F * 2 ^ F.f

-- a word from its sign and the word of its magnitude
abbrev pub signed : Format → ℕ → ℕ → ℕ
signed F s m = s * 2 ^ (F.w + F.f) + m

-- "from the top, one sign bit, w exponent bits and f fraction bits"
abbrev pub word_of : Format → ℕ → ℕ → ℕ → ℕ
word_of F s e t = signed F s (e * 2 ^ F.f + t)

-- operation 1 subtracts, which flips the sign of b: adding the sign bit modulo the width flips it ("The rounded result")
abbrev pub effective : Format → ℕ → ℕ → ℕ
effective F operation b = (b + operation * 2 ^ (F.w + F.f)) % 2 ^ word_bits F
