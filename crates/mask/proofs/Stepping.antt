-- The first number from n on that meets a mask: n where it meets it, and else the number with one more than n has from a position g on, and the
-- mask's value below g.
-- A number from n on that comes before that has n's bits from g on, and then `StepAt` says that it does not meet the mask, or one more there,
-- and then its low part is at least the value's, since the value is the least number that meets a mask.
-- Where g is follows from the highest position p at which n breaks the mask: p itself where the mask has a 1 there. Where it has a 0, a number
-- from n on that meets the mask has above p a 1 at which n has a 0, and the lowest position for that is free. Assumes nothing.
use mathlib.Core.Path.{◌≡◌, sym, ap, ap₂, ◌∙◌, subst}
use Prim.Native.Nat.{ℕ, suc, ◌+◌, ◌-◌, ◌*◌, ◌/◌, ◌%◌, ◌^◌, ◌≤◌, ◌<◌}
use native.Mathlib.Nat.{mod-lt, div-eq_of_lt, le_refl, lt_of_lt_of_le, lt_trans, add-mul, mul-le-mul_right, two-pow-succ}
use native.Mathlib.Decide.{dec_lt, ℕ_discrete}
use native.Mathlib.Omega.{arith}
use lib.Bits.{bit_and, bit_or, bit_xor, and_comm, and_shr, xor_shr, xor_add_and, or_add_and, and_le_l, and_le_r, and_lt, or_lt, xor_lt, or_shifted}
use lib.Count.{count_leading_zeros, leading_top, count_trailing_zeros}
use lib.Pow as pow
use lib.Pow.{pow_pos, pow_mono, pow-lt, split, shr-shr, shr_mono, shr_lt, shl_exact}
use Rattle.bits.specs.Bit.{bit}
use Rattle.bits.proofs.Laws.{bit_lt, bit_shr, top_bit_lem}
use Rattle.bits.proofs.Logic.{bit_of_or, bit_of_xor}
use Rattle.mask.specs.declared.Mask.{Mask}
use Rattle.mask.specs.Mask.{Inside, WellFormed, Meets, low, high}
use Rattle.mask.specs.Next.{MetFrom, StepAt}
use Rattle.mask.proofs.Bitwise.{bit_case, all_bits, and_one}
use Rattle.mask.proofs.ByBits.{and_free, and_fixed, inside_bits, meets_bits, value_below}
use Rattle.mask.proofs.ByParts.{meets_parts, low_formed}
use Rattle.mask.proofs.Ones.{Ones, trailing_ones, ones_le}

-- bit j of x is bit j - k of its quotient by 2^k
bit_from : (x k j : ℕ) → k ≤ j → bit (x / 2 ^ k) (j - k) ≡ bit x j
bit_from x k j h = let e : k + (j - k) ≡ j = omega arith in bit_shr x k (j - k) ∙ ap (bit x) e

-- n itself, where it meets the mask or is past the numbers of so many bits
pub met_here : (width : ℕ) (m : Mask) (n : ℕ) → (n < 2 ^ width → Meets n m) → MetFrom width m n n
met_here width m n met = record { from = le_refl n; meets = met; none = λ d a b h p. omega arith }

-- the least number that meets a mask is its value
pub value_least : (x : ℕ) (m : Mask) → Meets x m → m.value ≤ x
value_least x m met = rw (← met) (and_le_l x m.care)

-- one more from g on, and the mask's value below g
module _ (width : ℕ) (m : Mask) (n g : ℕ) (h : Inside m) (at : StepAt m n g) where
  stepped_meets : Meets ((n / 2 ^ g + 1) * 2 ^ g + m.value % 2 ^ g) m
  stepped_meets =
      (meets_parts g ((n / 2 ^ g + 1) * 2 ^ g + m.value % 2 ^ g) m).1 (
        rw (pow.low (n / 2 ^ g + 1) g (mod-lt m.value (pow_pos g))) (low_formed g m h).inside,
        rw (pow.high (n / 2 ^ g + 1) g (mod-lt m.value (pow_pos g))) at.meets,
      )

  stepped_first : (d : ℕ) → n ≤ d → d < (n / 2 ^ g + 1) * 2 ^ g + m.value % 2 ^ g → Meets d m → ⊥
  stepped_first d a b met = go (ℕ_discrete (d / 2 ^ g) (n / 2 ^ g))
    where
      go : Dec (d / 2 ^ g ≡ n / 2 ^ g) → ⊥
      go (yes e) = at.none d a e met
      go (no ne) =
          let next : n / 2 ^ g + 1 ≤ d / 2 ^ g = omega (arith, shr_mono g a) in
          omega (arith, split d g, mul-le-mul_right (2 ^ g) next, value_least (d % 2 ^ g) (low g m) ((meets_parts g d m).0 met).0)

  pub met_stepped : MetFrom width m n ((n / 2 ^ g + 1) * 2 ^ g + m.value % 2 ^ g)
  met_stepped = record {
    from = omega (arith, split n g, mod-lt n (pow_pos g), add-mul (n / 2 ^ g) 1 (2 ^ g));
    meets = λ _. stepped_meets;
    none = λ d a b _ met. stepped_first d a b met;
  }

-- the same number as a word computes it
pub word_stepped : (n v g : ℕ) → n < 2 ^ 63 → g < 64 → bit_or ((n / 2 ^ g + 1) * 2 ^ g % 2 ^ 64) (v % 2 ^ g) ≡ (n / 2 ^ g + 1) * 2 ^ g + v % 2 ^ g
word_stepped n v g h hg =
    let e : 63 ≡ (63 - g) + g = omega arith in
    let small : n / 2 ^ g + 1 < 2 ^ suc (63 - g) = omega (arith, shr_lt {n = n} (63 - g) g (rw (← e) h), two-pow-succ (63 - g)) in
    ap (λ (u : ℕ). bit_or u (v % 2 ^ g)) (shl_exact (suc (63 - g)) g 64 small (omega arith))
    ∙ or_shifted (n / 2 ^ g + 1) g (v % 2 ^ g) (mod-lt v (pow_pos g))

-- ---- the highest position at which n breaks the mask
abbrev pub broken : Mask → ℕ → ℕ
broken m n = bit_xor (bit_and n m.care) m.value

pub xor_zero : (a b : ℕ) → bit_xor a b ≡ 0 → a ≡ b
xor_zero a b e = omega (arith, xor_add_and a b, and_le_l a b, and_le_r a b)

broken_pos : (m : Mask) (n : ℕ) → (Meets n m → ⊥) → 0 < broken m n
broken_pos m n miss = go (ℕ_discrete (broken m n) 0)
  where
    go : Dec (broken m n ≡ 0) → 0 < broken m n
    go (yes e) = absurd (miss (xor_zero (bit_and n m.care) m.value e))
    go (no ne) = omega arith

-- above it n meets the mask
meets_above : (m : Mask) (n k : ℕ) → broken m n < 2 ^ k → Meets (n / 2 ^ k) (high k m)
meets_above m n k h =
    sym (and_shr n m.care k)
    ∙ xor_zero (bit_and n m.care / 2 ^ k) (m.value / 2 ^ k) (sym (xor_shr (bit_and n m.care) m.value k) ∙ div-eq_of_lt h)

-- n meets the mask above position p, which the mask fixes to the bit that n does not have
pub record Top (m : Mask) (n p : ℕ) : Type 0 where
  pub above : (k : ℕ) → p < k → Meets (n / 2 ^ k) (high k m)
  pub fixed : bit m.care p ≡ 1
  pub differs : bit n p + bit m.value p ≡ 1

top : (m : Mask) (n p : ℕ) → Inside m → 2 ^ p ≤ broken m n → broken m n < 2 ^ suc p → Top m n p
top m n p h a b = record {
  above = λ k l. meets_above m n k (lt_of_lt_of_le b (pow_mono l));
  fixed = fixed;
  differs = omega (arith, odd, and_fixed n m.care p fixed, bit_lt n p, bit_lt m.value p);
}
  where
    one : bit (broken m n) p ≡ 1
    one =
        let rest : broken m n - 2 ^ p < 2 ^ p = omega (arith, two-pow-succ p) in
        let e : broken m n ≡ 1 * 2 ^ p + (broken m n - 2 ^ p) = omega arith in
        ap (λ (u : ℕ). bit u p) e ∙ top_bit_lem 1 (broken m n - 2 ^ p) p (omega arith) rest

    -- the sum of two bits that differ is odd
    odd : 1 + bit_and (bit (bit_and n m.care) p) (bit m.value p) * 2 ≡ bit (bit_and n m.care) p + bit m.value p
    odd = omega (arith, one, bit_of_xor (bit_and n m.care) m.value p, xor_add_and (bit (bit_and n m.care) p) (bit m.value p))

    fixed : bit m.care p ≡ 1
    fixed = bit_case m.care p (λ e. absurd (omega (arith, odd, and_free n m.care p e, (inside_bits m).0 h p e))) (λ e. e)

-- ---- the position g
-- a 0 of n at g becomes a 1, where the mask lets it
one_meets : (m : Mask) (n g : ℕ) → Meets (n / 2 ^ (g + 1)) (high (g + 1) m) → bit n g ≡ 0 → bit m.value g ≡ bit m.care g
    → Meets (n / 2 ^ g + 1) (high g m)
one_meets m n g above none same =
    let odd : (n / 2 ^ g + 1) % 2 ≡ 1 = omega arith in
    let half : (n / 2 ^ g + 1) / 2 ≡ n / 2 ^ g / 2 = omega arith in
    (meets_parts 1 (n / 2 ^ g + 1) (high g m)).1 (
      ap (λ (u : ℕ). bit_and u (bit m.care g)) odd ∙ and_comm 1 (bit m.care g) ∙ and_one m.care g ∙ sym same,
      ap₂ bit_and (half ∙ shr-shr n g 1) (shr-shr m.care g 1) ∙ above ∙ sym (shr-shr m.value g 1),
    )

-- the mask has a 1 at the highest position at which n breaks it
pub step_here : (m : Mask) (n p : ℕ) → Inside m → Top m n p → bit m.value p ≡ 1 → StepAt m n p
step_here m n p h t one = record {
  meets = one_meets m n p (t.above (p + 1) (omega arith)) none (one ∙ sym t.fixed);
  none = λ d a e met. omega (arith, one, none, (meets_bits d m h).0 met p t.fixed, ap (λ (u : ℕ). u % 2) e);
}
  where
    none : bit n p ≡ 0
    none = omega (arith, one, t.differs)

-- the mask has a 0 there: the next position above it that is free and at which n has a 0
module _ (m : Mask) (n p t : ℕ) (h : Inside m) (top : Top m n p) (none : bit m.value p ≡ 0) (ones : Ones (bit_or n m.care / 2 ^ p) t) where
  -- a bit of n or of care
  either : (j : ℕ) → bit (bit_or n m.care) j + bit_and (bit n j) (bit m.care j) ≡ bit n j + bit m.care j
  either j = ap (λ (u : ℕ). u + bit_and (bit n j) (bit m.care j)) (bit_of_or n m.care j) ∙ or_add_and (bit n j) (bit m.care j)

  above_meets : Meets (n / 2 ^ (p + t) + 1) (high (p + t) m)
  above_meets =
      let both : bit (bit_or n m.care) (p + t) ≡ 0 = sym (bit_shr (bit_or n m.care) p t) ∙ ones.zero in
      let free : bit m.care (p + t) ≡ 0 = omega (arith, either (p + t), and_le_l (bit n (p + t)) (bit m.care (p + t))) in
      one_meets m n (p + t) (top.above (p + t + 1) (omega arith))
      (omega (arith, either (p + t), and_le_r (bit n (p + t)) (bit m.care (p + t)))) ((inside_bits m).0 h (p + t) free ∙ sym free)

  module _ (d : ℕ) (same : d / 2 ^ (p + t) ≡ n / 2 ^ (p + t)) (met : Meets d m) where
    -- above p such a d has no bit that n has not
    within : (j : ℕ) → p < j → bit n j ≡ 0 → bit d j ≡ 0
    within j l e = go (dec_lt j (p + t))
      where
        fixed : bit m.care j ≡ 1 → bit d j ≡ 0
        fixed f =
            (meets_bits d m h).0 met j f
            ∙ sym (ap (λ (u : ℕ). u % 2) (and_shr n m.care j ∙ top.above j l))
            ∙ and_fixed n m.care j f
            ∙ e

        go : Dec (j < p + t) → bit d j ≡ 0
        go (yes b) = bit_case m.care j
            (λ f. absurd (omega (arith, either j, f, e, ones.one (j - p) (omega arith), bit_from (bit_or n m.care) p j (omega arith))))
            fixed
        go (no b) =
            sym (bit_from d (p + t) j (omega arith))
            ∙ ap (λ (u : ℕ). bit u (j - (p + t))) same
            ∙ bit_from n (p + t) j (omega arith)
            ∙ e

    above_le : d / 2 ^ (p + 1) ≤ n / 2 ^ (p + 1)
    above_le =
        rw (← all_bits (bit_and (d / 2 ^ (p + 1)) (n / 2 ^ (p + 1))) (d / 2 ^ (p + 1)) (λ i. bit_case (n / 2 ^ (p + 1)) i
        (λ e. and_free (d / 2 ^ (p + 1)) (n / 2 ^ (p + 1)) i e ∙ sym (bit_shr d (p + 1) i ∙ within (p + 1 + i) (omega arith) (sym (bit_shr n (p + 1) i) ∙ e)))
        (and_fixed (d / 2 ^ (p + 1)) (n / 2 ^ (p + 1)) i)))
        (and_le_r (d / 2 ^ (p + 1)) (n / 2 ^ (p + 1)))

    above_none : n ≤ d → ⊥
    above_none a = omega (arith, above_le, shr-shr d p 1, shr-shr n p 1, shr_mono p a, (meets_bits d m h).0 met p top.fixed, top.differs)

  pub step_above : StepAt m n (p + t)
  step_above = record { meets = above_meets; none = λ d a same met. above_none d same met a }

-- ---- in a word of 64 bits, where the leading zeros tell the highest position at which n breaks the mask
abbrev pub highest : Mask → ℕ → ℕ
highest m n = 63 - count_leading_zeros 64 (broken m n)

module _ (m : Mask) (n : ℕ) (w : WellFormed 63 m) (hn : n < 2 ^ 63) (miss : Meets n m → ⊥) where
  top_found : (p : ℕ) × (count_leading_zeros 64 (broken m n) + suc p ≡ 64) × Top m n p
  top_found =
      let small = xor_lt 63 (bit_and n m.care) m.value (and_lt 63 n m.care hn w.below) (value_below 63 m w) in
      let l = leading_top 64 (broken m n) (broken_pos m n miss) (lt_trans small (pow-lt {i = 63} {j = 64} (omega arith))) in
      (l.0, l.1, top m n l.0 w.inside l.2 l.3)

  pub leading_few : count_leading_zeros 64 (broken m n) ≤ 63
  leading_few = omega (arith, top_found.1)

  pub top_highest : Top m n (highest m n)
  top_highest =
      let e : top_found.0 ≡ highest m n = omega (arith, top_found.1) in
      rw e at top_found.2

  pub either_lt : bit_or n m.care < 2 ^ 63
  either_lt = or_lt 63 n m.care hn w.below

  pub step_ones : (z : ℕ) → z ≡ bit_or n m.care / 2 ^ highest m n → (bit m.value (highest m n) ≡ 1 → ⊥)
      → (highest m n + count_trailing_zeros 64 (z + 1) < 64) × StepAt m n (highest m n + count_trailing_zeros 64 (z + 1))
  step_ones z e ne =
      let cut : 63 ≡ (63 - highest m n) + highest m n = omega arith in
      let small : z < 2 ^ (63 - highest m n) = rw e (shr_lt {n = bit_or n m.care} (63 - highest m n) (highest m n) (rw (← cut) either_lt)) in
      let ones : Ones z (count_trailing_zeros 64 (z + 1)) = trailing_ones 64 z (lt_of_lt_of_le small (pow_mono {i = 63 - highest m n} {j = 64} (omega arith))) in
      let none : bit m.value (highest m n) ≡ 0 = omega (arith, bit_lt m.value (highest m n)) in (
        omega (arith, ones_le (63 - highest m n) z (count_trailing_zeros 64 (z + 1)) small ones),
        step_above m n (highest m n) (count_trailing_zeros 64 (z + 1)) w.inside top_highest none (subst (λ (u : ℕ). Ones u (count_trailing_zeros 64 (z + 1))) e ones),
      )
