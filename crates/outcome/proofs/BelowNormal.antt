-- Numbers of at most `small` digits, below the smallest normal number: small and the exponent u of the unit make f and the bits below. Where
-- the bits below a smallest step are 0 they are exact, and their word is the sign and what they keep. So one question serves for all of them,
-- but for 0, whose word has a sign of its own. Assumes nothing.
use mathlib.Core.Logic.{◌↔◌, inl, ⊎_elim}
use mathlib.Core.Path.{◌≡◌, refl, sym, ap, ap₂, ◌∙◌, subst}
use mathlib.Core.Bool.{Bool, true, false, false≢true}
use Prim.Native.Nat.{ℕ, zero, suc, ◌+◌, ◌-◌, ◌*◌, ◌/◌, ◌%◌, ◌^◌, ◌≤◌, ◌<◌}
use native.Mathlib.Nat.{zero-add, mod-eq_of_lt, div-eq_of_lt, zero-div, zero-mul, lt_of_lt_of_le}
use native.Mathlib.Decide.{dec_lt}
use native.Mathlib.Omega.{arith}
use borrow.Author.Tests.{lt-ltb}
use lib.Bits.{and_zero_l}
use lib.Ieee.{size}
use lib.Ieee.Digits.{size-lt, size-le}
use lib.Pow.{pow_pos, pow_mono}
use Rattle.std.specs.Prelude.{None}
use Rattle.format.specs.declared.Format.{Format}
use Rattle.format.specs.Format.{Supported}
use Rattle.mask.specs.declared.Mask.{Mask}
use Rattle.mask.specs.Mask.{Meets}
use Rattle.word.specs.declared.Biased.{Biased}
use Rattle.word.specs.declared.Unit as exponent
use Rattle.word.specs.Word.{all_ones, signed}
use Rattle.rounding.specs.declared.Direction.{Direction}
use Rattle.rounding.specs.declared.Direction.TheVariants.{TowardZero}
use Rattle.rounding.specs.Rounding.{round_off, direction}
use Rattle.rounding.specs.Sticky.{kept_part}
use Rattle.rounding.specs.Outcome.{rounded_unit, kept_of, bounded_held, zero_sign, outcome}
use Rattle.rounding.proofs.RoundOff.{round_off_exact}
use Rattle.rounding.proofs.AddConstant.{round_toward_zero}
use Rattle.making.specs.declared.Aligned as pair
use Rattle.making.specs.Making.{Made, Making, columns_of}
use Rattle.making.proofs.Rounds.{kept_scaled}
use Rattle.making.proofs.Making.{none_made, making_answer}
use Rattle.making.proofs.Made.{made_lt}
use Rattle.outcome.specs.declared.Target.{Target}
use Rattle.outcome.specs.Outcome.{Serves, Admits}
use Rattle.outcome.specs.Question.{UnderPower, word_or_overflow, SoughtBy, Seeks, subnormal_word}
use Rattle.outcome.proofs.Topped.{size_none}
use Rattle.outcome.proofs.Fields.{held_word_lem, within_meets}
use Rattle.outcome.proofs.Carried.{cut_lt}
use Rattle.outcome.proofs.Counted.{outcome_zero, outcome_some}

-- what is kept
module _ (q : ℕ) (u : exponent.Unit) where
  kept_low : (d : Direction) (x : ℕ) → kept_part q d x u.0 0 ≡ round_off d x (q - u.0) * 2 ^ (u.0 - q)
  kept_low d x = kept_scaled q d x u.0 0 (omega arith) ∙ ap (λ (k : ℕ). round_off d x (k - u.0) * 2 ^ (u.0 - k)) (zero-add q)

  kept_zero : kept_part q TowardZero 0 u.0 0 ≡ 0
  kept_zero =
      kept_low TowardZero 0 ∙ ap (λ (k : ℕ). k * 2 ^ (u.0 - q)) (round_toward_zero 0 (q - u.0) ∙ zero-div (2 ^ (q - u.0)))
      ∙ zero-mul (2 ^ (u.0 - q))

  module _ (f small : ℕ) (place : small + u.0 ≡ f + q) where
    low_lt : (x : ℕ) → x < 2 ^ small → kept_part q TowardZero x u.0 0 < 2 ^ f
    low_lt x h =
        rw (kept_low TowardZero x, round_toward_zero x (q - u.0))
        (cut_lt x (q - u.0) (u.0 - q) small f h (omega arith))

    unit_none : (x : ℕ) → size x ≤ small → (rounded_unit q f (size x) u).0 ≡ 0
    unit_none x h = omega arith

    exact_kept : (d : Direction) (x : ℕ) → size x ≤ small → x % 2 ^ (q - u.0) ≡ 0 → kept_of q f d x u ≡ kept_part q TowardZero x u.0 0
    exact_kept d x h e =
        ap (kept_part q d x u.0) (unit_none x h) ∙ kept_low d x
        ∙ ap (λ (k : ℕ). k * 2 ^ (u.0 - q)) (round_off_exact d x (q - u.0) e ∙ sym (round_toward_zero x (q - u.0)))
        ∙ sym (kept_low TowardZero x)

-- the exponent field 0
abbrev zero_field : Biased
zero_field = record { 0 = 0 }

module _ (q : ℕ) (F : Format) (ok : Supported F) (s : ℕ) (u : exponent.Unit) where
  some_field : 0 < all_ones F
  some_field = omega (arith, pow_mono {i = 1} {j = F.w} (omega (arith, ok.w_least)))

  plain_word : (d : Direction) (t : ℕ) → word_or_overflow F d s zero_field t ≡ signed F s t
  plain_word d t = rw (lt-ltb 0 (all_ones F) some_field) (omega (arith, zero-mul (2 ^ F.f)))

  zero_plain : subnormal_word q F s u 0 ≡ signed F s 0
  zero_plain = ap (signed F s) (kept_zero q u)

  -- a mask that 0 meets wants no bit in the fraction
  zero_fraction : (c : Mask) → Meets (signed F s 0) c → c.value % 2 ^ F.f ≡ 0
  zero_fraction c met =
      sym ((within_meets F TowardZero s zero_field 0 c some_field (pow_pos F.f)).0 (rw (plain_word TowardZero 0) met)).1 ∙ and_zero_l (c.care % 2 ^ F.f)

  module _ (small : ℕ) (place : small + u.0 ≡ F.f + q) where
    exact_word : (d : Direction) (x : ℕ) → size x ≤ small → x % 2 ^ (q - u.0) ≡ 0 → signed F s (bounded_held q F d x u) ≡ subnormal_word q F s u x
    exact_word d x h e =
        held_word_lem q F d s x u
        ∙ ap₂ (word_or_overflow F d s) (ap of (ap₂ ◌+◌ (unit_none q u F.f small place x h) (ap (λ (k : ℕ). k / 2 ^ F.f) kept ∙ div-eq_of_lt below))) (ap (λ (k : ℕ). k % 2 ^ F.f) kept ∙ mod-eq_of_lt below)
        ∙ plain_word d (kept_part q TowardZero x u.0 0)
      where
        of : ℕ → Biased
        of n = record { 0 = n }

        kept : kept_of q F.f d x u ≡ kept_part q TowardZero x u.0 0
        kept = exact_kept q u F.f small place d x h e

        below : kept_part q TowardZero x u.0 0 < 2 ^ F.f
        below = low_lt q u F.f small place x (lt_of_lt_of_le (size-lt x) (pow_mono {i = size x} {j = small} h))

    -- the question
    module _ (c : Mask) (A : pair.Aligned) where
      pub subnormal_asked : (fraction x : Mask) (r : Bool) → SoughtBy F TowardZero s c zero_field fraction → UnderPower (columns_of F.f A) small x
          → ((r ≡ true) ↔ Making F.f A (λ (n : ℕ). Meets n x × Meets (kept_part q TowardZero n u.0 0) fraction))
          → (r ≡ true) ↔ Making F.f A (λ (n : ℕ). (n < 2 ^ small) × Meets (subnormal_word q F s u n) c)
      subnormal_asked fraction x r seeks below asks =
          making_answer F.f A (λ (n : ℕ). Meets n x × Meets (kept_part q TowardZero n u.0 0) fraction) (λ (n : ℕ). (n < 2 ^ small) × Meets (subnormal_word q F s u n) c) r
          (λ n made.
          let b = below n (made_lt F.f A n made) in (
            (λ p. let l = b.0 p.0 in (l, (met n l).1 p.1)),
            λ p. (b.1 p.0, (met n p.0).0 p.1),
          ))
          asks
        where
          met : (n : ℕ) → n < 2 ^ small → Meets (subnormal_word q F s u n) c ↔ Meets (kept_part q TowardZero n u.0 0) fraction
          met n h = rw (plain_word TowardZero (kept_part q TowardZero n u.0 0)) at (seeks.meets (kept_part q TowardZero n u.0 0) (low_lt q u F.f small place n h))

      pub subnormal_refused : Seeks F TowardZero s c zero_field None → (false ≡ true) ↔ Making F.f A (λ (n : ℕ). (n < 2 ^ small) × Meets (subnormal_word q F s u n) c)
      subnormal_refused seeks =
          none_made F.f A (λ (n : ℕ). (n < 2 ^ small) × Meets (subnormal_word q F s u n) c)
          (λ m.
          let k = kept_part q TowardZero m.x u.0 0 in
          seeks k (low_lt q u F.f small place m.x m.holds.0) (rw (plain_word TowardZero k) m.holds.1))

-- the answer, where what they make is exact and no dropped bit is fixed
module _ (F : Format) (ok : Supported F) (mode s : ℕ) (u : exponent.Unit) (A : pair.Aligned) (T : Target) (free : T.dropped.mask.care ≡ 0) (small : ℕ) (place : small + u.0 ≡ F.f + A.below)
    (zeros : (x : ℕ) → Made F.f A x → x % 2 ^ (A.below - u.0) ≡ 0) (r : Bool)
    (asks : (r ≡ true) ↔ Making F.f A (λ (n : ℕ). (n < 2 ^ small) × Meets (subnormal_word A.below F s u n) T.c)) where
  exact_outcome : (x : ℕ) → Made F.f A x → 0 < size x → size x ≤ small → outcome A.below F mode A.like s u x ≡ subnormal_word A.below F s u x
  exact_outcome x made some h = outcome_some A.below F mode A.like s u x some ∙ exact_word A.below F ok s u small place (direction mode s) x h (zeros x made)

  pub none_subnormal : r ≡ false → (x : ℕ) → Made F.f A x → 1 ≤ size x → Serves F mode s u A T x → small + 1 ≤ size x
  none_subnormal e x made some serves = go (dec_lt small (size x))
    where
      go : Dec (small < size x) → small + 1 ≤ size x
      go (yes h) = omega arith
      go (no h) =
          let l : size x ≤ small = omega arith in
          absurd (false≢true (sym e ∙ asks.1 (record {
            x = x;
            made = made;
            holds = (lt_of_lt_of_le (size-lt x) (pow_mono {i = size x} {j = small} l), subst (λ (w : ℕ). Meets w T.c) (exact_outcome x made (omega arith) l) serves.word);
          })))

  -- what is found may be 0
  found : r ≡ true → (Meets (signed F s 0) T.c → Meets (signed F (zero_sign mode A.like s) 0) T.c) → Admits F mode s u A T
  found e zeroth =
      let m = asks.0 e in
      record { x = m.x; made = m.made; holds = record { word = go m.x m.made m.holds.0 m.holds.1 (size m.x) refl; drops = inl free } }
    where
      go : (x : ℕ) → Made F.f A x → x < 2 ^ small → Meets (subnormal_word A.below F s u x) T.c → (n : ℕ) → size x ≡ n → Meets (outcome A.below F mode A.like s u x) T.c
      go x made h met zero es =
          rw (outcome_zero A.below F mode A.like s u x es)
          (zeroth (subst (λ (w : ℕ). Meets w T.c) (ap (subnormal_word A.below F s u) ((size_none x).0 es) ∙ zero_plain A.below F ok s u) met))
      go x made h met (suc n) es = rw (exact_outcome x made (omega arith) (size-le x small h)) met

  pub found_like : r ≡ true → A.like ≡ true → Admits F mode s u A T
  found_like e like = found e (λ met. rw like met)

  pub found_fraction : r ≡ true → (T.c.value % 2 ^ F.f ≡ 0 → ⊥) → Admits F mode s u A T
  found_fraction e some = found e (λ met. absurd (some (zero_fraction A.below F ok s u T.c met)))

-- where dropped bits are fixed, none below the smallest normal number serves
pub fixed_normal : (F : Format) (mode s : ℕ) (u : exponent.Unit) (A : pair.Aligned) (T : Target) (small : ℕ) → small + u.0 ≡ F.f + A.below
    → (T.dropped.mask.care ≡ 0 → ⊥) → (x : ℕ) → Serves F mode s u A T x → small + 1 ≤ size x
fixed_normal F mode s u A T small place fixed x serves = ⊎_elim (λ z. absurd (fixed z)) (λ p. omega (arith, p.0.reaches, place)) serves.drops
