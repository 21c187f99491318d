-- How the code holds a magnitude that is too long for a word: its upper part, and below that one sticky bit. The rounded result and
-- the search both work on it. Assumes nothing.
use Rattle.std.specs.Prelude.{cond, ◌⊎◌, ◌≡◌, ℕ, ◌-◌, ◌*◌, ◌%◌, ◌^◌, ◌≤◌, ◌<◌, ltb}
use Rattle.format.specs.declared.Format.{Format}
use Rattle.format.specs.Format.{Supported}
use Rattle.rounding.specs.declared.Direction as way
use Rattle.rounding.specs.Rounding.{round_off}
use Rattle.rounding.specs.Dropped.{with_sticky}
use Rattle.rounding.specs.Width.{guard_bits, sum_bits, most_rounded, long_bits}

-- a significand with q - 1 bits below it: all of q but the sticky bit's
abbrev pub guarded_at : ℕ → ℕ → ℕ
guarded_at q m = 2 ^ (q - 1) * m

-- a significand with q bits below its last one
abbrev pub head_at : ℕ → ℕ → ℕ
head_at q m = 2 ^ q * m

-- another one's, moved down by d places: of q bits below the first one's last bit the lowest is the sticky bit
abbrev pub tail_at : ℕ → ℕ → ℕ → ℕ
tail_at q m d = with_sticky (guarded_at q m) d

-- x stands for the magnitude X: X in units of 2^u steps, with q bits of it below, the lowest of them sticky. Either nothing was dropped, or
-- x has digits enough to tell G bits apart below the last one that rounding keeps.
pub record Held (F : Format) (q G X x u : ℕ) : Type 0 where
  pub stands : x ≡ with_sticky (guarded_at q X) u
  pub exact_or_long : (guarded_at q X % 2 ^ u ≡ 0) ⊎ (2 ^ long_bits G F.f ≤ x)

-- a supported format, a sign bit, a unit whose exponent has w bits at most, and a number as long as a sum of two aligned significands
pub record Roundable (F : Format) (s x u : ℕ) : Type 0 where
  pub supported : Supported F
  pub sign_lt : s < 2
  pub unit_lt : u < 2 ^ F.w
  pub held_lt : x < 2 ^ sum_bits guard_bits F.f

-- x rounded off for k dropped bits: where u is below k the sum carried, and a bit more than q stands below the last kept one; if not, q bits
-- do after a shift
unfoldable pub kept_part : ℕ → way.Direction → ℕ → ℕ → ℕ → ℕ
kept_part q d x u k = cond (ltb u k) (round_off d x (most_rounded q)) (round_off d (x * 2 ^ (u - k)) q)
