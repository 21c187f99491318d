-- Where rounding never carries into the next quotient. Toward zero the kept part is at most the exact quotient. The longest sum and the
-- longest difference are at most the largest significand with as many zeros below it as bits are rounded off, and rounded they are at most
-- that significand. Assumes nothing.
use mathlib.Core.Logic.{⊎_elim}
use mathlib.Core.Path.{◌≡◌, refl, sym, ap, ◌∙◌, subst}
use mathlib.Core.Bool.{Bool, true, false}
use Prim.Native.Nat.{ℕ, zero, suc, ◌+◌, ◌-◌, ◌*◌, ◌/◌, ◌^◌, ◌≤◌, ◌<◌}
use native.Mathlib.Nat.{mul-one, one-mul, mul_comm, mul_assoc, mul-le-mul_right, lt_of_lt_of_le, pow-suc}
use native.Mathlib.Decide.{dec_lt}
use native.Mathlib.Omega.{arith}
use lib.Ieee.{size}
use lib.Ieee.Digits.{size-lt}
use lib.Pow.{pow_pos, pow-add, pow_mono, shl_lt, shr_lt}
use Rattle.bits.proofs.Division.{mul_sub_right}
use Rattle.rounding.specs.declared.Direction.{Direction}
use Rattle.rounding.specs.declared.Direction.TheVariants.{TowardZero}
use Rattle.word.specs.declared.Unit as exponent
use Rattle.rounding.specs.Rounding.{round_off}
use Rattle.rounding.proofs.RoundOff.{round_off_most}
use Rattle.rounding.proofs.AddConstant.{round_toward_zero}
use Rattle.rounding.specs.Width.{aligned_bits, sum_bits, mask_bits}
use Rattle.rounding.specs.Outcome.{kept_of}
use Rattle.making.specs.declared.Aligned as pair
use Rattle.making.specs.Making.{Made, most_digits, columns_of, most_aligned, Formed}
use Rattle.making.proofs.Made.{most_digits_bounds, aligned_lt, made_sum, made_difference}
use Rattle.outcome.specs.Question.{least_quotient, NextQuotient}
use Rattle.outcome.proofs.Kept.{rounded_bits, added_zeros, kept_shifted, least_known}

-- the low j bits dropped, and s zeros added
pub cut_lt : (x j s N b : ℕ) → x < 2 ^ N → N - j + s ≤ b → x / 2 ^ j * 2 ^ s < 2 ^ b
cut_lt x j s N b below most =
    lt_of_lt_of_le (shl_lt {a = x / 2 ^ j} (N - j) s (shr_lt {n = x} (N - j) j (lt_of_lt_of_le below (pow_mono {i = N} {j = N - j + j} (omega arith))))) (pow_mono most)

-- a number x of n + 1 digits
module _ (q f : ℕ) (d : Direction) (x : ℕ) (u : exponent.Unit) (n : ℕ) (digits : size x ≡ suc n) (most : suc n ≤ sum_bits q f) where
  cut_below : round_off d x (rounded_bits q f (suc n) u) ≡ x / 2 ^ rounded_bits q f (suc n) u → kept_of q f d x u < 2 ^ (least_quotient q f (suc n) u + f)
  cut_below e =
      rw (kept_shifted q f d x u n digits most, e)
      (cut_lt x (rounded_bits q f (suc n) u) (added_zeros q f (suc n) u) (suc n) (least_quotient q f (suc n) u + f) (subst (λ (m : ℕ). x < 2 ^ m) digits (size-lt x))
      (⊎_elim (λ l. omega arith) (λ l. omega arith) (least_known q f (suc n) u)))

  longest_below : aligned_bits q f ≤ suc n → x ≤ (2 ^ (f + 1) - 1) * 2 ^ rounded_bits q f (suc n) u → kept_of q f d x u < 2 ^ (least_quotient q f (suc n) u + f)
  longest_below long h =
      let r = round_off_most d x (2 ^ (f + 1) - 1) (rounded_bits q f (suc n) u) h in
      let z : added_zeros q f (suc n) u ≡ 0 = omega arith in
      let l : least_quotient q f (suc n) u ≡ 1 = ⊎_elim (λ l. absurd (omega arith)) (λ l. l.1) (least_known q f (suc n) u) in
      rw (kept_shifted q f d x u n digits most, z, l) (omega (arith, pow_pos f, pow-add 2 f 1, pow-add 2 1 f, mul-one (round_off d x (rounded_bits q f (suc n) u))))

  -- a kept part that stays below the next quotient does not have it
  below_next : kept_of q f d x u < 2 ^ (least_quotient q f (suc n) u + f) → kept_of q f d x u / 2 ^ f ≡ least_quotient q f (suc n) u + 1 → ⊥
  below_next h e =
      let s = shr_lt {n = kept_of q f d x u} (least_quotient q f (suc n) u) f h in
      ⊎_elim (λ l. omega (arith, rw l.1 at s)) (λ l. omega (arith, rw l.1 at s)) (least_known q f (suc n) u)

-- what they make, by the bits of it that are rounded off where it is longest
module _ (f : ℕ) (A : pair.Aligned) (formed : Formed f A) (x : ℕ) (made : Made f A x) where
  wide : (n : ℕ) → n < 2 ^ aligned_bits A.below f → n < 2 ^ mask_bits
  wide n h = lt_of_lt_of_le h (pow_mono {i = aligned_bits A.below f} {j = mask_bits} (omega (arith, aligned_lt f A formed.room)))

  head_le : made.H ≤ most_aligned A.below f
  head_le = formed.head made.H (wide made.H made.head_lt) made.head_meets

  tail_le : made.T ≤ most_aligned A.below f
  tail_le = formed.tail made.T (wide made.T made.tail_lt) made.tail_meets

  pub longest_le : (u : exponent.Unit) → x ≤ (2 ^ (f + 1) - 1) * 2 ^ rounded_bits A.below f (columns_of f A) u
  longest_le u = go A.like refl
    where
      go : (like : Bool) → A.like ≡ like → x ≤ (2 ^ (f + 1) - 1) * 2 ^ rounded_bits A.below f (most_digits A.below f like) u
      go true e =
          let j : rounded_bits A.below f (sum_bits A.below f) u ≡ suc A.below = omega arith in
          rw (j, pow-suc 2 A.below) (omega (arith, made_sum f A x made e, head_le, tail_le, mul_comm (2 ^ A.below) (2 ^ (f + 1) - 1), mul_assoc (2 ^ (f + 1) - 1) (2 ^ A.below) 2))
      go false e =
          let j : rounded_bits A.below f (aligned_bits A.below f) u ≡ A.below = omega arith in
          rw j (omega (arith, made_difference f A x made e, head_le, mul_comm (2 ^ A.below) (2 ^ (f + 1) - 1)))

  -- and room is left in the columns for what rounding adds
  pub digits_room : (u : exponent.Unit) (N : ℕ) → size x ≡ N → N ≤ columns_of f A → x + 2 ^ rounded_bits A.below f N u ≤ 2 ^ columns_of f A
  digits_room u N digits most = go (dec_lt N (columns_of f A))
    where
      bounds : (aligned_bits A.below f ≤ columns_of f A) × (columns_of f A ≤ sum_bits A.below f)
      bounds = most_digits_bounds A.below f A.like

      below : x < 2 ^ N
      below = subst (λ (n : ℕ). x < 2 ^ n) digits (size-lt x)

      go : Dec (N < columns_of f A) → x + 2 ^ rounded_bits A.below f N u ≤ 2 ^ columns_of f A
      go (yes l) =
          let half : 2 ^ columns_of f A ≡ 2 ^ (columns_of f A - 1) * 2 = ap (λ (n : ℕ). 2 ^ n) (omega arith) ∙ pow-add 2 (columns_of f A - 1) 1 in
          let a = pow_mono {i = N} {j = columns_of f A - 1} (omega arith) in
          let b = pow_mono {i = rounded_bits A.below f N u} {j = columns_of f A - 1} (omega (arith, bounds.0, bounds.1)) in
          omega (arith, below)
      go (no l) =
          let e : N ≡ columns_of f A = omega arith in
          let j : ℕ = rounded_bits A.below f N u in
          let le = subst (λ (n : ℕ). x ≤ (2 ^ (f + 1) - 1) * 2 ^ rounded_bits A.below f n u) (sym e) (longest_le u) in
          let whole : 2 ^ columns_of f A ≡ 2 ^ (f + 1) * 2 ^ j = ap (λ (n : ℕ). 2 ^ n) (omega (arith, bounds.0)) ∙ pow-add 2 (f + 1) j in
          omega (arith, le, whole, mul_sub_right (2 ^ (f + 1)) 1 (2 ^ j), one-mul (2 ^ j), mul-le-mul_right {m = 1} {n = 2 ^ (f + 1)} (2 ^ j) (pow_pos (f + 1)))

-- so none of them has the next quotient
module _ (f : ℕ) (d : Direction) (u : exponent.Unit) (A : pair.Aligned) where
  pub never_toward_zero : (N : ℕ) → 0 < N → N ≤ sum_bits A.below f → d ≡ TowardZero → NextQuotient f d u A N → ⊥
  never_toward_zero zero some most e m = omega arith
  never_toward_zero (suc n) some most e m =
      below_next A.below f d m.x u n m.holds.0 most
      (cut_below A.below f d m.x u n m.holds.0 most (rw e (round_toward_zero m.x (rounded_bits A.below f (suc n) u))))
      m.holds.1

  -- a number of more digits is not made
  pub never_longest : (N : ℕ) → 0 < N → N ≡ columns_of f A → Formed f A → NextQuotient f d u A N → ⊥
  never_longest zero some e formed m = omega arith
  never_longest (suc n) some e formed m =
      let b = most_digits_bounds A.below f A.like in
      let most : suc n ≤ sum_bits A.below f = omega (arith, b.1) in
      below_next A.below f d m.x u n m.holds.0 most
      (longest_below A.below f d m.x u n m.holds.0 most (omega (arith, b.0))
      (subst (λ (k : ℕ). m.x ≤ (2 ^ (f + 1) - 1) * 2 ^ rounded_bits A.below f k u) (sym e) (longest_le f A formed m.x m.made u)))
      m.holds.1
