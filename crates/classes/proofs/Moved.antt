-- The word that x makes does not depend on the unit but in its exponent field, which moves with the unit: so pairs of operands whose
-- significands are aligned alike have one answer. It holds where x is 0 or has digits enough for a normal number, and the word is within
-- the format. The class's unit stands for all others. Assumes nothing.
use Rattle.std.proofs.Common.{◌≡◌, ℕ, zero, suc, ◌+◌, ◌-◌, ◌*◌, ◌/◌, ◌%◌, ◌^◌, ◌<◌, ◌≤◌, Bool, true, false, ◌⊎◌, sym, refl, ap, ◌∙◌, ap₂, ⊎_elim, mod-lt, arith, pow_pos, le-ltb, lt-ltb}
use native.Mathlib.Decide.{dec_lt}
use lib.Ieee.{size}
use Rattle.format.specs.declared.Format.{Format}
use Rattle.word.specs.declared.Biased.{Biased}
use Rattle.rounding.specs.declared.Direction.{Direction}
use Rattle.word.specs.declared.Unit as exponent
use Rattle.word.specs.Word.{field_of, all_ones, signed}
use Rattle.special.specs.Asked.{field_is}
use Rattle.rounding.specs.Rounding.{direction, overflow_word, round_off}
use Rattle.rounding.proofs.Rounded.{cancelled_lt}
use Rattle.rounding.proofs.Size.{size_zero}
use Rattle.rounding.specs.Width.{aligned_bits, sum_bits}
use Rattle.rounding.specs.Outcome.{rounded_unit, kept_of, bounded_held, zero_sign, outcome}
use Rattle.outcome.specs.Question.{word_or_overflow}
use Rattle.classes.specs.Class.{far_gap, class_unit, field_at, most_field, Wide}
use Rattle.classes.proofs.Aligning.{Spans}
use Rattle.outcome.proofs.Topped.{size_none}
use Rattle.outcome.proofs.Kept.{kept_shifted, quotient_high}
use Rattle.outcome.proofs.Fields.{held_word_lem}

-- x makes two words that differ in the exponent field only: at the unit u, and at the class's
pub record Moved (F : Format) (q r mode : ℕ) (like : Bool) (s : ℕ) (u : exponent.Unit) (x : ℕ) : Type 0 where
  pub sign : ℕ
  pub field : Biased
  pub fraction : ℕ
  pub sign_lt : sign < 2
  pub most : field.0 ≤ most_field r
  pub least : far_gap r ≤ size x → far_gap r ≤ field.0
  pub within : (field_at r u field).0 < 2 ^ F.w
  pub fraction_lt : fraction < 2 ^ F.f
  pub zero_only : field.0 ≡ 0 → x ≡ 0
  pub zero_fraction : field.0 ≡ 0 → fraction ≡ 0
  pub here : outcome q F mode like s u x ≡ signed F sign ((field_at r u field).0 * 2 ^ F.f + fraction)
  pub there : outcome q F mode like s (class_unit r) x ≡ signed F sign (field.0 * 2 ^ F.f + fraction)

-- the kept part of a number of n + 1 digits
kept_moved : (q f r : ℕ) → Spans f q r → (d : Direction) (x : ℕ) (u : exponent.Unit) (n : ℕ) → size x ≡ suc n → suc n ≤ sum_bits q f → aligned_bits q f ≤ suc n + u.0
    → kept_of q f d x u ≡ kept_of q f d x (class_unit r)
kept_moved q f r spans d x u n digits most large =
    kept_shifted q f d x u n digits most
    ∙ ap₂ (λ (j z : ℕ). round_off d x j * 2 ^ z) (omega (arith, spans.least)) (omega (arith, spans.least))
    ∙ sym (kept_shifted q f d x (class_unit r) n digits most)

-- the word of an exponent field within the format
word_within : (F : Format) (d : Direction) (s : ℕ) (e : Biased) (t : ℕ) → e.0 < all_ones F → word_or_overflow F d s e t ≡ signed F s (e.0 * 2 ^ F.f + t)
word_within F d s e t h = rw (lt-ltb e.0 (all_ones F) h)

module _ (F : Format) (q r : ℕ) (spans : Spans F.f q r) (mode : ℕ) (like : Bool) (s : ℕ) (u : exponent.Unit) (sign_lt : s < 2) (wide : Wide F r) where
  zero_lt : (b : Bool) → zero_sign mode b s < 2
  zero_lt true = sign_lt
  zero_lt false = cancelled_lt mode

  none : 0 ≡ 0 * 2 ^ F.f + 0
  none = omega arith

  zero_moved : Moved F q r mode like s u zero
  unfolding outcome
  zero_moved = record {
    sign = zero_sign mode like s;
    field = field_is 0;
    fraction = 0;
    most = omega arith;
    least = λ l. absurd (omega (arith, size_zero));
    within = pow_pos F.w;
    fraction_lt = pow_pos F.f;
    zero_only = λ z. refl;
    zero_fraction = λ z. refl;
    sign_lt = zero_lt like;
    here = ap (signed F (zero_sign mode like s)) none;
    there = ap (signed F (zero_sign mode like s)) none;
  }

  -- the sum of any digits
  some_moved : (x n : ℕ) → size (suc x) ≡ suc n → suc n ≤ sum_bits q F.f → aligned_bits q F.f ≤ suc n + u.0
      → (u.0 + 4 ≤ all_ones F) ⊎ (outcome q F mode like s u (suc x) ≡ signed F s (overflow_word F (direction mode s)) → ⊥) → Moved F q r mode like s u (suc x)
  unfolding outcome
  some_moved x n digits most large within = ⊎_elim (λ e. go 1 e (omega arith) (omega arith)) (λ e. go 2 e (omega arith) (omega arith)) (quotient_high q f d (suc x) u n digits most large)
    where
      f : ℕ
      f = F.f

      d : Direction
      d = direction mode s

      t : ℕ
      t = kept_of q f d (suc x) u % 2 ^ f

      go : (h : ℕ) → kept_of q f d (suc x) u / 2 ^ f ≡ h → 1 ≤ h → h ≤ 2 → Moved F q r mode like s u (suc x)
      go h e least at_most = fits (dec_lt here.0 (all_ones F))
        where
          -- c's exponent field, and that with the unit that stands for all
          here : Biased
          here = field_of (rounded_unit q f (suc n) u) h

          there : Biased
          there = field_of (rounded_unit q f (suc n) (class_unit r)) h

          held : signed F s (bounded_held q F d (suc x) u) ≡ word_or_overflow F d s here t
          held = held_word_lem q F d s (suc x) u ∙ ap₂ (λ (m k : ℕ). word_or_overflow F d s (field_of (rounded_unit q f m u) k) t) digits e

          same : kept_of q f d (suc x) (class_unit r) ≡ kept_of q f d (suc x) u
          same = sym (kept_moved q f r spans d (suc x) u n digits most large)

          moved : signed F s (bounded_held q F d (suc x) (class_unit r)) ≡ word_or_overflow F d s there t
          moved =
              held_word_lem q F d s (suc x) (class_unit r)
              ∙ ap₂ (λ (m k : ℕ). word_or_overflow F d s (field_of (rounded_unit q f m (class_unit r)) (k / 2 ^ f)) (k % 2 ^ f)) digits same
              ∙ ap (λ (k : ℕ). word_or_overflow F d s (field_of (rounded_unit q f (suc n) (class_unit r)) k) t) e

          -- one more where the bits below are one fewer
          at : there.0 ≡ n + (far_gap r - (f + q)) + h
          at = omega (arith, spans.least)

          shifted : (i : ℕ) → i ≡ n + (far_gap r - (f + q)) + h → (field_at r u (field_is i)).0 ≡ here.0
          shifted zero ei = absurd (omega arith)
          shifted (suc i) ei = omega (arith, spans.least)

          fits : Dec (here.0 < all_ones F) → Moved F q r mode like s u (suc x)
          fits (yes in_range) = record {
            sign = s;
            field = field_is (n + (far_gap r - (f + q)) + h);
            fraction = t;
            most = omega (arith, spans.least, spans.most);
            least = λ l. omega (arith, digits);
            within = rw (shifted (n + (far_gap r - (f + q)) + h) refl) (omega arith);
            sign_lt = sign_lt;
            fraction_lt = mod-lt (kept_of q f d (suc x) u) (pow_pos f);
            zero_only = λ z. absurd (omega arith);
            zero_fraction = λ z. absurd (omega arith);
            here = held ∙ word_within F d s here t in_range ∙ ap (λ (k : ℕ). signed F s (k * 2 ^ f + t)) (sym (shifted (n + (far_gap r - (f + q)) + h) refl));
            there = moved ∙ word_within F d s there t (omega (arith, at, spans.least, spans.most)) ∙ ap (λ (k : ℕ). signed F s (k * 2 ^ f + t)) at;
          }
          fits (no past-it) =
              let past : word_or_overflow F d s here t ≡ signed F s (overflow_word F d) = rw (le-ltb here.0 (all_ones F) (omega arith)) in
              ⊎_elim (λ l. absurd (omega arith)) (λ never. absurd (never (held ∙ past))) within

  pub moved : (x : ℕ) → size x ≤ sum_bits q F.f → (x ≡ 0) ⊎ (aligned_bits q F.f ≤ size x + u.0)
      → (u.0 + 4 ≤ all_ones F) ⊎ (outcome q F mode like s u x ≡ signed F s (overflow_word F (direction mode s)) → ⊥) → Moved F q r mode like s u x
  moved zero most reach within = zero_moved
  moved (suc x) most reach within = go (size (suc x)) refl
    where
      go : (n : ℕ) → size (suc x) ≡ n → Moved F q r mode like s u (suc x)
      go zero e = absurd (let z = (size_none (suc x)).0 e in omega arith)
      go (suc n) e = some_moved x n e (omega arith) (⊎_elim (λ z. absurd (omega arith)) (λ l. omega arith) reach) within
