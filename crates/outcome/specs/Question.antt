-- The parts that the question of `Admits` (`Outcome`) is taken apart into: the number of digits and the quotient above the fraction, the
-- masks that fix them and the kept part, the word c by its exponent field and its fraction, and the numbers below the smallest normal one.
-- Contracts inside this crate speak of them. Assumes nothing.
-- Internal: no public contract cites this.
use Rattle.std.specs.Prelude.{◌≡◌, Option, None, Some, cond, ◌↔◌, ℕ, ◌+◌, ◌-◌, ◌*◌, ◌/◌, ◌^◌, ◌≤◌, ◌<◌, ltb}
use Rattle.std.specs.Float.Ieee.{size}
use Rattle.format.specs.declared.Format.{Format}
use Rattle.mask.specs.declared.Mask.{Mask}
use Rattle.mask.specs.Mask.{Meets}
use Rattle.job.specs.declared.Dropped.{Dropped}
use Rattle.word.specs.declared.Biased.{Biased}
use Rattle.word.specs.declared.Unit as exponent
use Rattle.rounding.specs.declared.Direction as way
use Rattle.rounding.specs.declared.Direction.TheVariants.{TowardZero}
use Rattle.word.specs.Word.{all_ones, signed}
use Rattle.rounding.specs.Rounding.{overflow_word}
use Rattle.rounding.specs.Width.{aligned_bits}
use Rattle.rounding.specs.Sticky.{kept_part}
use Rattle.rounding.specs.Outcome.{kept_of}
use Rattle.making.specs.declared.Aligned as pair
use Rattle.making.specs.Making.{Made, Making}
use Rattle.outcome.specs.declared.Target.{Target}
use Rattle.outcome.specs.declared.subnormal.Known as reply
use Rattle.outcome.specs.declared.subnormal.Known.TheVariants.{Found, AtLeast}
use Rattle.outcome.specs.Outcome.{DropsAs, Serves, Admits}

-- the mask m on the low k bits, and the number h on r bits above them
abbrev pub topped : ℕ → ℕ → ℕ → Mask → Mask
topped r k h m = record { care = (2 ^ r - 1) * 2 ^ k + m.care; value = h * 2 ^ k + m.value }

-- the smaller of the two numbers that can stand above the fraction of what is made, rounded, where that has N digits
abbrev pub least_quotient : ℕ → ℕ → ℕ → exponent.Unit → ℕ
least_quotient q f N u = cond (ltb (N + u.0) (aligned_bits q f)) 0 1

-- they make a number of N digits whose kept part has the other one
abbrev pub NextQuotient : ℕ → way.Direction → exponent.Unit → pair.Aligned → ℕ → Type 0
NextQuotient f d u A N = Making f A (λ (x : ℕ). (size x ≡ N) × (kept_of A.below f d x u / 2 ^ f ≡ least_quotient A.below f N u + 1))

-- rounded in the directions d and e, the numbers of N digits that they make keep the same part
abbrev pub KeepAlike : ℕ → way.Direction → way.Direction → exponent.Unit → pair.Aligned → ℕ → Type 0
KeepAlike f d e u A N = (x : ℕ) → Made f A x → size x ≡ N → kept_of A.below f d x u ≡ kept_of A.below f e x u

-- n has N digits, and dropped bits as they are wanted
abbrev pub Sized : Format → ℕ → exponent.Unit → Dropped → ℕ → ℕ → Type 0
Sized F q u D N n = (size n ≡ N) × DropsAs F q u D n

-- only numbers of N digits meet m, of those of n bits
abbrev pub OnlyDigits : ℕ → ℕ → Mask → Type 0
OnlyDigits n N m = (x : ℕ) → x < 2 ^ n → Meets x m → size x ≡ N

-- m is met by exactly those numbers of n bits that have N binary digits
abbrev pub OfDigits : ℕ → ℕ → Mask → Type 0
OfDigits n N m = (x : ℕ) → x < 2 ^ n → Meets x m ↔ (size x ≡ N)

-- m is met by exactly those numbers of n bits that are below 2^k
abbrev pub UnderPower : ℕ → ℕ → Mask → Type 0
UnderPower n k m = (x : ℕ) → x < 2 ^ n → Meets x m ↔ (x < 2 ^ k)

-- the word of the sign s, the exponent field e and the fraction t; past the largest finite number what the direction gives
abbrev pub word_or_overflow : Format → way.Direction → ℕ → Biased → ℕ → ℕ
word_or_overflow F d s e t = signed F s (cond (ltb e.0 (all_ones F)) (e.0 * 2 ^ F.f + t) (overflow_word F d))

-- the fractions that meet m are those that make a word that meets the mask c, with the exponent field e
pub record SoughtBy (F : Format) (d : way.Direction) (s : ℕ) (c : Mask) (e : Biased) (m : Mask) : Type 0 where
  pub care_lt : m.care < 2 ^ F.f
  pub value_lt : m.value < 2 ^ F.f
  pub meets : (t : ℕ) → t < 2 ^ F.f → Meets (word_or_overflow F d s e t) c ↔ Meets t m

-- r tells which fractions make a word that meets the mask c, with the exponent field e
abbrev pub Seeks : Format → way.Direction → ℕ → Mask → Biased → Option Mask → Type 0
Seeks F d s c e None = (t : ℕ) → t < 2 ^ F.f → Meets (word_or_overflow F d s e t) c → ⊥
Seeks F d s c e (Some m) = SoughtBy F d s c e m

-- the word of the sign s and a number x below the smallest normal one, where u is the exponent of its unit: what stands below a smallest step
-- is dropped
abbrev pub subnormal_word : ℕ → Format → ℕ → exponent.Unit → ℕ → ℕ
subnormal_word q F s u x = signed F s (kept_part q TowardZero x u.0 0)

-- what is known of the numbers of k digits or more that serve: one is made, or they have n digits at least
abbrev pub Tells : Format → ℕ → ℕ → exponent.Unit → pair.Aligned → Target → ℕ → reply.Known → Type 0
Tells F mode s u A T k Found = Admits F mode s u A T
Tells F mode s u A T k (AtLeast n) = (x : ℕ) → Made F.f A x → k ≤ size x → Serves F mode s u A T x → n ≤ size x
