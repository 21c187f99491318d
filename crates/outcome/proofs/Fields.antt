-- The word c by its exponent field and its fraction: the bits dropped and what stands above the fraction make the exponent field, past
-- the largest finite number the direction decides, and a mask on the word is one on the fraction and one on what stands above it.
-- Assumes nothing.
use mathlib.Core.Logic.{◌↔◌}
use mathlib.Core.Path.{◌≡◌, sym, ap, ◌∙◌}
use mathlib.Core.Bool.{Bool, true, false, cond, false≢true}
use Prim.Native.Nat.{ℕ, ◌+◌, ◌*◌, ◌/◌, ◌%◌, ◌^◌, ◌≤◌, ◌<◌}
use native.Mathlib.Nat.{mul_assoc, add-mul, mod-lt, div-lt_iff_lt-mul, mul-add-div_right}
use native.Mathlib.Decide.{dec_lt}
use native.Mathlib.Omega.{arith}
use borrow.Author.Tests.{lt-ltb, le-ltb}
use lib.Bits.{and_zero_r}
use lib.Dec.{ltb}
use lib.Ieee.{size}
use lib.Pow.{pow_pos, pow-add, split, high, low}
use Rattle.std.specs.Bool.{then_some}
use Rattle.format.specs.declared.Format.{Format}
use Rattle.mask.specs.declared.Mask.{Mask}
use Rattle.mask.specs.Mask as mask
use Rattle.mask.specs.Mask.{Meets, free_mask}
use Rattle.mask.proofs.ByParts.{meets_parts}
use Rattle.mask.proofs.Checks.{meets_true}
use Rattle.word.specs.declared.Biased.{Biased}
use Rattle.rounding.specs.declared.Direction.{Direction}
use Rattle.word.specs.declared.Unit as exponent
use Rattle.word.specs.Word.{field_of, all_ones, signed, infinity_word}
use Rattle.rounding.specs.Rounding.{overflow_word}
use Rattle.rounding.specs.Outcome.{rounded_unit, kept_of, held_word, bounded_held}
use Rattle.outcome.specs.Question.{word_or_overflow, Seeks}

-- k and a part Y make the exponent field k + Y / 2^f and the fraction Y % 2^f
apart : (f k Y : ℕ) → k * 2 ^ f + Y ≡ (k + Y / 2 ^ f) * 2 ^ f + Y % 2 ^ f
apart f k Y =
    let s = split Y f in
    let m = add-mul k (Y / 2 ^ f) (2 ^ f) in
    omega arith

pub held_word_lem : (q : ℕ) (F : Format) (d : Direction) (s x : ℕ) (u : exponent.Unit)
    → signed F s (bounded_held q F d x u) ≡ word_or_overflow F d s (field_of (rounded_unit q F.f (size x) u) (kept_of q F.f d x u / 2 ^ F.f)) (kept_of q F.f d x u % 2 ^ F.f)
unfolding bounded_held
held_word_lem q F d s x u = ap (signed F s) (go (dec_lt e (all_ones F)))
  where
    Y : ℕ
    Y = kept_of q F.f d x u

    k : ℕ
    k = (rounded_unit q F.f (size x) u).0

    e : ℕ
    e = k + Y / 2 ^ F.f

    whole : held_word q F d x u ≡ e * 2 ^ F.f + Y % 2 ^ F.f
    whole = apart F.f k Y

    quotient : held_word q F d x u / 2 ^ F.f ≡ e
    quotient = mul-add-div_right (pow_pos F.f) k Y

    go : Dec (e < all_ones F)
        → cond (ltb (held_word q F d x u) (infinity_word F)) (held_word q F d x u) (overflow_word F d)
        ≡ cond (ltb e (all_ones F)) (e * 2 ^ F.f + Y % 2 ^ F.f) (overflow_word F d)
    go (yes h) =
        let l = (div-lt_iff_lt-mul {k = 2 ^ F.f} {x = held_word q F d x u} {y = all_ones F} (pow_pos F.f)).0 (rw quotient h) in
        rw (lt-ltb (held_word q F d x u) (infinity_word F) l, lt-ltb e (all_ones F) h) whole
    go (no h) = rw (le-ltb (held_word q F d x u) (infinity_word F) (past (dec_lt (held_word q F d x u) (infinity_word F))), le-ltb e (all_ones F) (omega arith))
      where
        past : Dec (held_word q F d x u < infinity_word F) → infinity_word F ≤ held_word q F d x u
        past (yes l) =
            let lt = (div-lt_iff_lt-mul {k = 2 ^ F.f} {x = held_word q F d x u} {y = all_ones F} (pow_pos F.f)).1 l in
            absurd (omega (arith, quotient))
        past (no l) = omega arith

-- a word within the format, and one past it
module _ (F : Format) (d : Direction) (s : ℕ) (e : Biased) (t : ℕ) (c : Mask) where
  pub within_meets : e.0 < all_ones F → t < 2 ^ F.f
      → Meets (word_or_overflow F d s e t) c ↔ (Meets (s * 2 ^ F.w + e.0) (mask.high F.f c) × Meets t (mask.low F.f c))
  within_meets h l = (
    (λ met. let p = parts.0 (rw word at met) in (p.1, p.0)),
    λ p. rw word (parts.1 (p.1, p.0)),
  )
    where
      word : word_or_overflow F d s e t ≡ (s * 2 ^ F.w + e.0) * 2 ^ F.f + t
      word =
          let p = pow-add 2 F.w F.f in
          let a = mul_assoc s (2 ^ F.w) (2 ^ F.f) in
          let m = add-mul (s * 2 ^ F.w) e.0 (2 ^ F.f) in
          let q = ap (◌*◌ s) p in
          rw (lt-ltb e.0 (all_ones F) h) (omega arith)

      parts : Meets ((s * 2 ^ F.w + e.0) * 2 ^ F.f + t) c ↔ (Meets t (mask.low F.f c) × Meets (s * 2 ^ F.w + e.0) (mask.high F.f c))
      parts = rw (low (s * 2 ^ F.w + e.0) F.f l, high (s * 2 ^ F.w + e.0) F.f l) at (meets_parts F.f ((s * 2 ^ F.w + e.0) * 2 ^ F.f + t) c)

  pub past_word : all_ones F ≤ e.0 → word_or_overflow F d s e t ≡ signed F s (overflow_word F d)
  past_word h = rw (le-ltb e.0 (all_ones F) h)

-- what is sought of the fraction
module _ (F : Format) (d : Direction) (s : ℕ) (e : Biased) (c : Mask) where
  pub within_seeks : e.0 < all_ones F → (met : Bool) (fraction : Mask) → met ≡ mask.meets (s * 2 ^ F.w + e.0) (mask.high F.f c) → fraction ≡ mask.low F.f c
      → Seeks F d s c e (then_some met fraction)
  within_seeks h true fraction p q = record {
    care_lt = rw q (mod-lt c.care (pow_pos F.f));
    value_lt = rw q (mod-lt c.value (pow_pos F.f));
    meets = λ t l.
        let w = within_meets F d s e t c h l in (
          (λ m. rw q (w.0 m).1),
          λ m. w.1 ((meets_true (s * 2 ^ F.w + e.0) (mask.high F.f c)).0 (sym p), rw q at m),
        );
  }
  within_seeks h false fraction p q = λ t l m.
      false≢true (p ∙ (meets_true (s * 2 ^ F.w + e.0) (mask.high F.f c)).1 ((within_meets F d s e t c h l).0 m).0)

  pub past_seeks : all_ones F ≤ e.0 → (met : Bool) → met ≡ mask.meets (signed F s (overflow_word F d)) c → Seeks F d s c e (then_some met free_mask)
  past_seeks h true p = record {
    care_lt = pow_pos F.f;
    value_lt = pow_pos F.f;
    meets = λ t l. (
      (λ m. and_zero_r t),
      λ m. rw (past_word F d s e t c h) ((meets_true (signed F s (overflow_word F d)) c).0 (sym p)),
    );
  }
  past_seeks h false p = λ t l m. false≢true (p ∙ (meets_true (signed F s (overflow_word F d)) c).1 (rw (past_word F d s e t c h) at m))
