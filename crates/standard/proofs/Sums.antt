-- The rounded result of two finite words is the integers' sum or difference, rounded as the standard says, with the standard's sign.
-- Assumes nothing.
use mathlib.Core.Path.{◌≡◌, refl, sym, ap, ap₂, ◌∙◌, subst₂}
use mathlib.Core.Bool.{cond}
use Prim.Native.Nat.{ℕ, zero, suc, ◌+◌, ◌-◌, ◌*◌, ◌/◌, ◌%◌, ◌^◌, ◌≤◌, ◌<◌}
use native.Mathlib.Nat.{mod-lt}
use native.Mathlib.Decide.{dec_lt}
use native.Mathlib.Omega.{arith}
use borrow.Author.Tests.{lt-ltb, le-ltb, eq-eqb, ne_eqb}
use lib.Dec.{ltb, eqb}
use lib.IntN.{ℤ, pos, neg_ℤ, nat_abs, ◌+ℤ◌, neg_ℤ-+ℤ, neg_ℤ-neg_ℤ, +ℤ_comm}
use Rattle.format.specs.declared.Format.{Format}
use Rattle.format.specs.Format.{Supported}
use Rattle.format.specs.Limits.{most_mode}
use Rattle.word.specs.declared.Finite.{Finite}
use Rattle.word.specs.Word.{sign, significand, effective}
use Rattle.word.specs.Operand.{finite_of, magnitude}
use Rattle.rounding.specs.Rounding.{direction, rounded, cancelled_sign}
use Rattle.adder.specs.Result.{result_of}
use Rattle.adder.specs.Exact.{exact_magnitude, exact_sign}
use Rattle.word.proofs.Fields.{effective_sign_lem, effective_biased, effective_fraction}
use Rattle.rounding.proofs.RoundedFields.{rounded_sign}
use Rattle.adder.proofs.ExactSum.{exact_sign_lt, result_exact}
use Rattle.standard.specs.Representable.{rounded_magnitude, largest}
use Rattle.standard.specs.Fields.{effective_sign}
use Rattle.standard.specs.Number.{signed_number, number, FiniteWord}
use Rattle.standard.specs.Sum.{exact_number, sign_of, Overflow, RoundedWord, SignOfSum}
use Rattle.standard.proofs.Fields.{overflow_fields}
use Rattle.standard.proofs.Rounding.{zero_representable, representable_rounds_to_itself}
use Rattle.standard.proofs.Integers.{minus_above, signed_magnitude, other}
use Rattle.standard.proofs.Signed.{rounds_to}
use Rattle.standard.proofs.Words.{rounded_decoded, rounded_past_largest}

-- a zero is the same number with either sign
signed_zero : (s d : ℕ) → d ≡ 0 → signed_number s d ≡ pos 0
signed_zero zero d e = ap pos e
signed_zero (suc s) d e = ap (λ (n : ℕ). neg_ℤ (pos n)) e

-- unlike signs: the smaller from the larger, whose sign it takes
larger_first : (s a b : ℕ) → b ≤ a → signed_number s (a - b) ≡ signed_number s a +ℤ signed_number (other s) b
larger_first zero a b h = sym (minus_above a b h)
larger_first (suc s) a b h = ap neg_ℤ (sym (minus_above a b h)) ∙ neg_ℤ-+ℤ (pos a) (neg_ℤ (pos b)) ∙ ap (λ (k : ℤ). neg_ℤ (pos a) +ℤ k) (neg_ℤ-neg_ℤ (pos b))

larger_second : (s a b : ℕ) → s < 2 → a ≤ b → signed_number (other s) (b - a) ≡ signed_number s a +ℤ signed_number (other s) b
larger_second zero a b hs h = larger_first 1 b a h ∙ +ℤ_comm (signed_number 1 b) (pos a)
larger_second (suc zero) a b hs h = larger_first 0 b a h ∙ +ℤ_comm (pos b) (signed_number 1 a)
larger_second (suc (suc s)) a b hs h = absurd (omega arith)

module _ (s a b z : ℕ) (hs : s < 2) where
  unlike : signed_number (cond (ltb a b) (other s) (cond (ltb b a) s z)) (cond (ltb a b) (b - a) (a - b)) ≡ signed_number s a +ℤ signed_number (other s) b
  unlike = go (dec_lt a b) (dec_lt b a)
    where
      go : Dec (a < b) → Dec (b < a) → signed_number (cond (ltb a b) (other s) (cond (ltb b a) s z)) (cond (ltb a b) (b - a) (a - b)) ≡ signed_number s a +ℤ signed_number (other s) b
      go (yes l) g = rw (lt-ltb a b l) (larger_second s a b hs (omega arith))
      go (no l) (yes g) = rw (le-ltb a b (omega arith), lt-ltb b a g) (larger_first s a b (omega arith))
      go (no l) (no g) =
          rw (le-ltb a b (omega arith), le-ltb b a (omega arith))
          (signed_zero z (a - b) (omega arith) ∙ sym (signed_zero s (a - b) (omega arith)) ∙ larger_first s a b (omega arith))

-- the exact sign and magnitude are those of the integers' sum
pub exact_sum : (mode : ℕ) (x y : Finite) → x.sign < 2 → y.sign < 2
    → signed_number (exact_sign mode x y) (exact_magnitude x y) ≡ signed_number x.sign (magnitude x) +ℤ signed_number y.sign (magnitude y)
unfolding exact_sign exact_magnitude
exact_sum mode x y hx hy = go x.sign y.sign (magnitude x) (magnitude y) hx hy
  where
    go : (s t a b : ℕ) → s < 2 → t < 2
        → signed_number (cond (eqb s t) s (cond (ltb a b) t (cond (ltb b a) s (cancelled_sign mode)))) (cond (eqb s t) (a + b) (cond (ltb a b) (b - a) (a - b)))
        ≡ signed_number s a +ℤ signed_number t b
    go zero zero a b hs ht = refl
    go zero (suc zero) a b hs ht = unlike 0 a b (cancelled_sign mode) hs
    go (suc zero) zero a b hs ht = unlike 1 a b (cancelled_sign mode) hs
    go (suc zero) (suc zero) a b hs ht = neg_ℤ-+ℤ (pos a) (pos b)
    go zero (suc (suc t)) a b hs ht = absurd (omega arith)
    go (suc zero) (suc (suc t)) a b hs ht = absurd (omega arith)
    go (suc (suc s)) t a b hs ht = absurd (omega arith)

-- subtracting b adds its negative
effective_number : (F : Format) (operation b : ℕ) → number F (effective F operation b) ≡ signed_number ((sign F b + operation) % 2) (magnitude (finite_of F b))
effective_number F operation b =
    ap₂ signed_number (effective_sign_lem F operation b)
    (ap₂ (λ (e t : ℕ). significand F.f e t * 2 ^ (e - 1)) (effective_biased F operation b) (effective_fraction F operation b))

keep_sign : (t M : ℕ) → t < 2 → signed_number ((t + 0) % 2) M ≡ signed_number t M
keep_sign zero M h = refl
keep_sign (suc zero) M h = refl
keep_sign (suc (suc t)) M h = absurd (omega arith)

turn_sign : (t M : ℕ) → t < 2 → signed_number ((t + 1) % 2) M ≡ neg_ℤ (signed_number t M)
turn_sign zero M h = refl
turn_sign (suc zero) M h = sym (neg_ℤ-neg_ℤ (pos M))
turn_sign (suc (suc t)) M h = absurd (omega arith)

sign_lt : (F : Format) (x : ℕ) → sign F x < 2
sign_lt F x = mod-lt (x / 2 ^ (F.w + F.f)) (omega arith)

exact_effective : (F : Format) (operation a b : ℕ) → operation < 2 → number F a +ℤ number F (effective F operation b) ≡ exact_number F operation a b
exact_effective F zero a b h = ap (λ (k : ℤ). number F a +ℤ k) (effective_number F 0 b ∙ keep_sign (sign F b) (magnitude (finite_of F b)) (sign_lt F b))
exact_effective F (suc zero) a b h = ap (λ (k : ℤ). number F a +ℤ k) (effective_number F 1 b ∙ turn_sign (sign F b) (magnitude (finite_of F b)) (sign_lt F b))
exact_effective F (suc (suc operation)) a b h = absurd (omega arith)

-- a number that is not 0 has its sign
sign_of_lem : (s X : ℕ) → s < 2 → 0 < X → sign_of (signed_number s X) ≡ s
sign_of_lem zero X hs h = refl
sign_of_lem (suc zero) zero hs h = absurd (omega arith)
sign_of_lem (suc zero) (suc X) hs h = refl
sign_of_lem (suc (suc s)) X hs h = absurd (omega arith)

-- a magnitude that is rounded past the largest is not 0
past_pos : (F : Format) (mode s X : ℕ) → largest F < rounded_magnitude F (direction mode s) X → 0 < X
past_pos F mode s zero h = absurd (omega (arith, representable_rounds_to_itself F (direction mode s) 0 (zero_representable F)))
past_pos F mode s (suc X) h = omega arith

-- a rounded sign and magnitude in the standard's words
pub rounded_word : (F : Format) → Supported F → (mode s X : ℕ) → mode ≤ most_mode → s < 2 → RoundedWord F mode (signed_number s X) (rounded F mode s X)
rounded_word F ok mode s X hm hs =
    let R = rounded_magnitude F (direction mode s) X in
    let e = signed_magnitude s R in
    record {
      r = signed_number s R;
      rounds = rounds_to F ok mode s X hm hs;
      within = λ h.
          let d = rounded_decoded F ok mode s X hs (omega arith) in
          (d.0, ap₂ signed_number (rounded_sign F ok mode s X hs) d.1);
      past = λ h.
          let l : largest F < R = omega arith in
          subst₂ (Overflow F mode) (sym (sign_of_lem s X hs (past_pos F mode s X l))) (sym (rounded_past_largest F ok mode s X hs l)) (overflow_fields F ok mode s hm hs);
    }

-- the sign of an exact result whose operands have unlike signs and cancel
cancelled : (mode : ℕ) (x y : Finite) → (x.sign ≡ y.sign → ⊥) → exact_magnitude x y ≡ 0 → exact_sign mode x y ≡ cancelled_sign mode
unfolding exact_sign exact_magnitude
cancelled mode x y ne z =
    let d : cond (ltb (magnitude x) (magnitude y)) (magnitude y - magnitude x) (magnitude x - magnitude y) ≡ 0 = rw (ne_eqb _ _ ne) at z in
    let e = go (magnitude x) (magnitude y) d (dec_lt (magnitude x) (magnitude y)) in
    rw (ne_eqb _ _ ne, le-ltb (magnitude x) (magnitude y) (omega arith), le-ltb (magnitude y) (magnitude x) (omega arith))
  where
    go : (m n : ℕ) → cond (ltb m n) (n - m) (m - n) ≡ 0 → Dec (m < n) → m ≡ n
    go m n d (yes l) = let q : n - m ≡ 0 = rw (lt-ltb m n l) at d in omega arith
    go m n d (no l) = let q : m - n ≡ 0 = rw (le-ltb m n (omega arith)) at d in omega arith

like_sign : (mode : ℕ) (x y : Finite) → x.sign ≡ y.sign → exact_sign mode x y ≡ x.sign
unfolding exact_sign
like_sign mode x y e = rw (eq-eqb _ _ e)

cancelled_down : (mode : ℕ) → mode ≡ 3 → cancelled_sign mode ≡ 1
unfolding cancelled_sign
cancelled_down mode e = rw (eq-eqb _ _ e)

cancelled_not_down : (mode : ℕ) → (mode ≡ 3 → ⊥) → cancelled_sign mode ≡ 0
unfolding cancelled_sign
cancelled_not_down mode ne = rw (ne_eqb _ _ ne)

module _ (F : Format) (ok : Supported F) (operation mode a b : ℕ) (ho : operation < 2) (fa : FiniteWord F a) (fb : FiniteWord F b) where
  exact_lt : exact_sign mode (finite_of F a) (finite_of F (effective F operation b)) < 2
  exact_lt = exact_sign_lt mode (finite_of F a) (finite_of F (effective F operation b)) (sign_lt F a) (sign_lt F (effective F operation b))

  exact_is : signed_number (exact_sign mode (finite_of F a) (finite_of F (effective F operation b))) (exact_magnitude (finite_of F a) (finite_of F (effective F operation b)))
      ≡ exact_number F operation a b
  exact_is =
      exact_sum mode (finite_of F a) (finite_of F (effective F operation b)) (sign_lt F a) (sign_lt F (effective F operation b)) ∙ exact_effective F operation a b ho

  -- c is the exact sum or difference, rounded
  pub result_rounded : mode ≤ most_mode → RoundedWord F mode (exact_number F operation a b) (result_of F operation mode a b)
  result_rounded hm =
      subst₂ (RoundedWord F mode) exact_is (sym (result_exact F ok operation mode a b fa fb))
      (rounded_word F ok mode (exact_sign mode (finite_of F a) (finite_of F (effective F operation b))) (exact_magnitude (finite_of F a) (finite_of F (effective F operation b))) hm exact_lt)

  -- and it has the standard's sign
  pub result_sign : SignOfSum F operation mode a b (result_of F operation mode a b)
  result_sign =
      let x = finite_of F a in
      let y = finite_of F (effective F operation b) in
      let s = exact_sign mode x y in
      let X = exact_magnitude x y in
      let c : sign F (result_of F operation mode a b) ≡ s = ap (sign F) (result_exact F ok operation mode a b fa fb) ∙ rounded_sign F ok mode s X exact_lt in
      let none : exact_number F operation a b ≡ pos 0 → X ≡ 0 = λ z. sym (signed_magnitude s X) ∙ ap nat_abs (exact_is ∙ z) in
      record {
        not_zero = λ ne. c ∙ sym (sign_of_lem s X exact_lt (pos_of s X (λ z. ne (sym exact_is ∙ z)))) ∙ ap sign_of exact_is;
        like = λ e. c ∙ like_sign mode x y (e ∙ sym effective_is);
        unlike_down = λ ne z m. c ∙ cancelled mode x y (λ e. ne (e ∙ effective_is)) (none z) ∙ cancelled_down mode m;
        unlike_not_down = λ ne z m. c ∙ cancelled mode x y (λ e. ne (e ∙ effective_is)) (none z) ∙ cancelled_not_down mode m;
      }
    where
      effective_is : sign F (effective F operation b) ≡ effective_sign F operation b
      effective_is = effective_sign_lem F operation b

      pos_of : (s X : ℕ) → (signed_number s X ≡ pos 0 → ⊥) → 0 < X
      pos_of s zero ne = absurd (ne (signed_zero s 0 refl))
      pos_of s (suc X) ne = omega arith
