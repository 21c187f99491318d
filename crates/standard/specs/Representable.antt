-- The numbers of a format (IEEE 754, "Floating-point formats"; document 01, "Numbers of a format"), in smallest steps and without their signs.
-- Exponents go on upward here, as document 01 rounds; `largest` is where the finite words end. Assumes nothing.
use Rattle.std.specs.Prelude.{◌≡◌, ℕ, ◌-◌, ◌*◌, ◌/◌, ◌%◌, ◌^◌, ◌<◌}
use Rattle.format.specs.declared.Format.{Format}
use Rattle.format.specs.Format.{precision}
use Rattle.rounding.specs.declared.Direction.{Direction}
use Rattle.word.specs.Word.{significand}
use Rattle.rounding.specs.Rounding.{magnitude_word}

-- n has p significant bits at most: it is a significand of p bits, times a power of two
pub record Representable (F : Format) (n : ℕ) : Type 0 where
  pub digits : ℕ
  pub exponent : ℕ
  pub digits_lt : digits < 2 ^ precision F
  pub is : n ≡ digits * 2 ^ exponent

-- the number that the word m of a magnitude stands for: e is its quotient by 2^f, t the rest
abbrev pub magnitude_of : Format → ℕ → ℕ
magnitude_of F m = significand F.f (m / 2 ^ F.f) (m % 2 ^ F.f) * 2 ^ (m / 2 ^ F.f - 1)

-- the last bit of its significand is 0
abbrev pub EvenWord : Format → ℕ → Type 0
EvenWord F m = significand F.f (m / 2 ^ F.f) (m % 2 ^ F.f) % 2 ≡ 0

-- the largest finite number: p ones at the largest exponent, that of e = 2^w - 2
abbrev pub largest : Format → ℕ
largest F = (2 ^ precision F - 1) * 2 ^ (2 ^ F.w - 3)

-- the number that would come next, a power of two
abbrev pub after_largest : Format → ℕ
after_largest F = 2 ^ precision F * 2 ^ (2 ^ F.w - 3)

-- X rounded in a direction, as if exponents went on upward
abbrev pub rounded_magnitude : Format → Direction → ℕ → ℕ
rounded_magnitude F d X = magnitude_of F (magnitude_word F d X)
