-- Laws of the rounded word: zero is itself, every rounded word has the format's width, and a cancelled zero has a sign bit. Assumes nothing.
use mathlib.Core.Path.{◌≡◌, ap, ap₂, ◌∙◌}
use mathlib.Core.Bool.{Bool, true, false, cond}
use Prim.Native.Nat.{ℕ, ◌+◌, ◌-◌, ◌*◌, ◌^◌, ◌≤◌, ◌<◌}
use native.Mathlib.Nat.{lt_of_le_of_lt, sub-le, le_refl, zero-mul, zero-sub}
use native.Mathlib.Decide.{dec_lt}
use native.Mathlib.Omega.{arith}
use borrow.Author.Tests.{lt-ltb, le-ltb}
use lib.Dec.{eqb}
use Rattle.format.specs.declared.Format.{Format}
use Rattle.format.specs.Format.{Supported, precision, word_bits}
use Rattle.rounding.specs.declared.Direction.{Direction}
use Rattle.rounding.specs.declared.Direction.TheVariants.{NearestEven, NearestAway, TowardZero, Away}
use Rattle.word.specs.Word.{signed, infinity_word}
use Rattle.rounding.specs.Rounding.{direction, cancelled_sign, round_off, dropped, magnitude_word, overflow_word, bounded_word, rounded}
use Rattle.rounding.proofs.Size.{size_zero}
use Rattle.rounding.proofs.RoundOff.{round_off_none}
use Rattle.word.proofs.Bounds.{infinity_pos, infinity_lt}
use Rattle.word.proofs.Fields.{signed_lt}

pub overflow_le : (F : Format) (d : Direction) → overflow_word F d ≤ infinity_word F
unfolding overflow_word
overflow_le F NearestEven = le_refl (infinity_word F)
overflow_le F NearestAway = le_refl (infinity_word F)
overflow_le F TowardZero = sub-le (infinity_word F) 1
overflow_le F Away = le_refl (infinity_word F)

-- a magnitude word within the format
pub bounded_within : (F : Format) (d : Direction) (X : ℕ) → magnitude_word F d X < infinity_word F → bounded_word F d X ≡ magnitude_word F d X
unfolding bounded_word
bounded_within F d X h = rw (lt-ltb (magnitude_word F d X) (infinity_word F) h)

-- and past it
pub bounded_past : (F : Format) (d : Direction) (X : ℕ) → infinity_word F ≤ magnitude_word F d X → bounded_word F d X ≡ overflow_word F d
unfolding bounded_word
bounded_past F d X h = rw (le-ltb (magnitude_word F d X) (infinity_word F) h)

pub bounded_lt : (F : Format) → Supported F → (d : Direction) (X : ℕ) → bounded_word F d X < 2 ^ (F.w + F.f)
bounded_lt F ok d X = go (dec_lt (magnitude_word F d X) (infinity_word F))
  where
    go : Dec (magnitude_word F d X < infinity_word F) → bounded_word F d X < 2 ^ (F.w + F.f)
    go (yes h) = rw (bounded_within F d X h) (native.Mathlib.Nat.lt_trans h (infinity_lt F ok))
    go (no h) = rw (bounded_past F d X (omega arith)) (lt_of_le_of_lt (overflow_le F d) (infinity_lt F ok))

pub rounded_lt : (F : Format) → Supported F → (mode s X : ℕ) → s < 2 → rounded F mode s X < 2 ^ word_bits F
rounded_lt F ok mode s X hs = signed_lt F s (bounded_word F (direction mode s) X) hs (bounded_lt F ok (direction mode s) X)

magnitude_zero : (F : Format) (d : Direction) → magnitude_word F d 0 ≡ 0
unfolding magnitude_word
magnitude_zero F d =
    let k : dropped F 0 ≡ 0 = ap (λ (n : ℕ). n - precision F) size_zero ∙ zero-sub (precision F) in
    ap (λ (n : ℕ). n * 2 ^ F.f + round_off d 0 n) k ∙ ap₂ ◌+◌ (zero-mul (2 ^ F.f)) (round_off_none d 0)

pub rounded_zero : (F : Format) → Supported F → (mode s : ℕ) → rounded F mode s 0 ≡ signed F s 0
rounded_zero F ok mode s =
    let d = direction mode s in
    ap (signed F s) (bounded_within F d 0 (rw (magnitude_zero F d) (infinity_pos F ok)) ∙ magnitude_zero F d)

-- the sign of an exact zero is a sign bit
pub cancelled_lt : (mode : ℕ) → cancelled_sign mode < 2
unfolding cancelled_sign
cancelled_lt mode = go (eqb mode 3)
  where
    go : (t : Bool) → cond t 1 0 < 2
    go true = omega arith
    go false = omega arith
