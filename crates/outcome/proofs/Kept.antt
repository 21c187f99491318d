-- The kept part of x as one rounding off and one shift: j bits are rounded off, or none and s zeros are added. For a number x of N digits
-- what stands above the fraction is then one of two neighbours: 0 or 1 below the smallest normal number's digits, else 1 or 2.
-- Assumes nothing.
use mathlib.Core.Path.{◌≡◌, refl, sym, ap, ◌∙◌, subst}
use mathlib.Core.Logic.{◌⊎◌, inl, inr, ⊎_elim}
use Prim.Native.Nat.{ℕ, zero, suc, ◌+◌, ◌-◌, ◌*◌, ◌/◌, ◌%◌, ◌^◌, ◌≤◌, ◌<◌}
use native.Mathlib.Nat.{mul-one, le_trans, lt_of_lt_of_le, div-lt_iff_lt-mul, le-div_iff_mul-le}
use native.Mathlib.Decide.{dec_lt, dec_le}
use native.Mathlib.Omega.{arith}
use borrow.Author.Tests.{lt-ltb, le-ltb}
use lib.Ieee.{size}
use lib.Ieee.Digits.{size-lt, size_reaches}
use lib.Pow.{pow_pos, pow-add, pow_mono, shl_lt, shr_lt}
use Rattle.rounding.specs.declared.Direction.{Direction}
use Rattle.word.specs.declared.Unit as exponent
use Rattle.rounding.specs.Rounding.{round_off}
use Rattle.rounding.specs.Sticky.{kept_part}
use Rattle.rounding.proofs.RoundOff.{increment_le, round_off_none}
use Rattle.rounding.specs.Width.{aligned_bits, sum_bits}
use Rattle.rounding.specs.Outcome.{rounded_unit, kept_of}
use Rattle.making.proofs.Rounds.{kept_scaled}
use Rattle.outcome.specs.Question.{least_quotient}

-- j bits are rounded off or s zeros are added, and not both
module _ (d : Direction) (x j s : ℕ) (either : (j ≡ 0) ⊎ (s ≡ 0)) where
  pub shifted_le : (N b : ℕ) → x < 2 ^ N → N + s ≤ j + b → round_off d x j * 2 ^ s ≤ 2 ^ b
  unfolding round_off
  shifted_le N b below most = ⊎_elim wide narrow either
    where
      wide : j ≡ 0 → round_off d x j * 2 ^ s ≤ 2 ^ b
      wide e =
          let n = ap (round_off d x) e ∙ round_off_none d x in
          let l = shl_lt {a = x} N s below in
          let m = pow_mono {i = N + s} {j = b} (omega arith) in
          rw n (omega arith)

      narrow : s ≡ 0 → round_off d x j * 2 ^ s ≤ 2 ^ b
      narrow e =
          let one : round_off d x j * 2 ^ s ≡ round_off d x j = ap (λ (i : ℕ). round_off d x j * 2 ^ i) e ∙ mul-one (round_off d x j) in
          let r = shr_lt {n = x} b j (lt_of_lt_of_le below (pow_mono {i = N} {j = b + j} (omega arith))) in
          omega (arith, increment_le d (x / 2 ^ j) (x % 2 ^ j) (2 ^ j))

  pub shifted_least : (n b : ℕ) → 2 ^ n ≤ x → b + j ≤ n + s → 2 ^ b ≤ round_off d x j * 2 ^ s
  unfolding round_off
  shifted_least n b reach least = ⊎_elim wide narrow either
    where
      wide : j ≡ 0 → 2 ^ b ≤ round_off d x j * 2 ^ s
      wide e =
          let z = ap (round_off d x) e ∙ round_off_none d x in
          rw z
          (le_trans (pow_mono {i = b} {j = n + s} (omega arith))
          (subst (λ (m : ℕ). m ≤ x * 2 ^ s) (sym (pow-add 2 n s)) (native.Mathlib.Nat.mul-le-mul_right (2 ^ s) reach)))

      narrow : s ≡ 0 → 2 ^ b ≤ round_off d x j * 2 ^ s
      narrow e =
          let one : round_off d x j * 2 ^ s ≡ round_off d x j = ap (λ (i : ℕ). round_off d x j * 2 ^ i) e ∙ mul-one (round_off d x j) in
          let p = pow-add 2 b j in
          let m = pow_mono {i = b + j} {j = n} (omega arith) in
          let r = (le-div_iff_mul-le {k = 2 ^ j} {x = 2 ^ b} {y = x} (pow_pos j)).1 (omega arith) in
          omega arith

-- the bits of x that are rounded off for a number of N digits, and the zeros that are added
abbrev pub place_of : ℕ → ℕ → ℕ → exponent.Unit → ℕ
place_of q f N u = (rounded_unit q f N u).0 + q

abbrev pub rounded_bits : ℕ → ℕ → ℕ → exponent.Unit → ℕ
rounded_bits q f N u = place_of q f N u - u.0

abbrev pub added_zeros : ℕ → ℕ → ℕ → exponent.Unit → ℕ
added_zeros q f N u = u.0 - place_of q f N u

-- a number x of n + 1 digits
module _ (q f : ℕ) (d : Direction) (x : ℕ) (u : exponent.Unit) (n : ℕ) (digits : size x ≡ suc n) (most : suc n ≤ sum_bits q f) where
  pub kept_shifted : kept_of q f d x u ≡ round_off d x (rounded_bits q f (suc n) u) * 2 ^ (added_zeros q f (suc n) u)
  kept_shifted = ap (λ (m : ℕ). kept_part q d x u.0 (rounded_unit q f m u).0) digits ∙ kept_scaled q d x u.0 (rounded_unit q f (suc n) u).0 (omega arith)

  either : (rounded_bits q f (suc n) u ≡ 0) ⊎ (added_zeros q f (suc n) u ≡ 0)
  either = go (dec_le u.0 (place_of q f (suc n) u))
    where
      go : Dec (u.0 ≤ place_of q f (suc n) u) → (rounded_bits q f (suc n) u ≡ 0) ⊎ (added_zeros q f (suc n) u ≡ 0)
      go (yes h) = inr (omega arith)
      go (no h) = inl (omega arith)

  below : x < 2 ^ suc n
  below = subst (λ (m : ℕ). x < 2 ^ m) digits (size-lt x)

  kept_le : (b : ℕ) → suc n + (added_zeros q f (suc n) u) ≤ (rounded_bits q f (suc n) u) + b → kept_of q f d x u ≤ 2 ^ b
  kept_le b h = rw kept_shifted (shifted_le d x (rounded_bits q f (suc n) u) (added_zeros q f (suc n) u) either (suc n) b below h)

  pub kept_lt : kept_of q f d x u < 2 ^ (2 + f)
  kept_lt =
      let h = kept_le (f + 1) (omega arith) in
      let p = pow-add 2 f 1 in
      let r = pow-add 2 2 f in
      let z = pow_pos f in
      omega arith

  -- what stands above the fraction
  pub quotient_low : suc n + u.0 < aligned_bits q f → (kept_of q f d x u / 2 ^ f ≡ 0) ⊎ (kept_of q f d x u / 2 ^ f ≡ 1)
  quotient_low small =
      let h = kept_le f (omega arith) in
      let z = pow_pos f in
      let lt = (div-lt_iff_lt-mul {k = 2 ^ f} {x = kept_of q f d x u} {y = 2} (pow_pos f)).1 (omega arith) in
      go (kept_of q f d x u / 2 ^ f) lt
    where
      go : (n : ℕ) → n < 2 → (n ≡ 0) ⊎ (n ≡ 1)
      go zero l = inl refl
      go (suc zero) l = inr refl
      go (suc (suc n)) l = absurd (omega arith)

  pub quotient_high : aligned_bits q f ≤ suc n + u.0 → (kept_of q f d x u / 2 ^ f ≡ 1) ⊎ (kept_of q f d x u / 2 ^ f ≡ 2)
  quotient_high large =
      let h = kept_le (f + 1) (omega arith) in
      let p = pow-add 2 f 1 in
      let z = pow_pos f in
      let r = size_reaches x n (omega arith) in
      let l : 2 ^ f ≤ kept_of q f d x u = rw kept_shifted (shifted_least d x (rounded_bits q f (suc n) u) (added_zeros q f (suc n) u) either n f r (omega arith)) in
      let lt = (div-lt_iff_lt-mul {k = 2 ^ f} {x = kept_of q f d x u} {y = 3} (pow_pos f)).1 (omega arith) in
      let o = (le-div_iff_mul-le {k = 2 ^ f} {x = 1} {y = kept_of q f d x u} (pow_pos f)).1 (omega arith) in
      go (kept_of q f d x u / 2 ^ f) o lt
    where
      go : (n : ℕ) → 1 ≤ n → n < 3 → (n ≡ 1) ⊎ (n ≡ 2)
      go zero o l = absurd (omega arith)
      go (suc zero) o l = inl refl
      go (suc (suc zero)) o l = inr refl
      go (suc (suc (suc n))) o l = absurd (omega arith)

-- the smaller of the two neighbours
pub least_known : (q f N : ℕ) (u : exponent.Unit) → ((N + u.0 < aligned_bits q f) × (least_quotient q f N u ≡ 0)) ⊎ ((aligned_bits q f ≤ N + u.0) × (least_quotient q f N u ≡ 1))
least_known q f N u = go (dec_lt (N + u.0) (aligned_bits q f))
  where
    go : Dec (N + u.0 < aligned_bits q f) → ((N + u.0 < aligned_bits q f) × (least_quotient q f N u ≡ 0)) ⊎ ((aligned_bits q f ≤ N + u.0) × (least_quotient q f N u ≡ 1))
    go (yes h) = inl (h, rw (lt-ltb (N + u.0) (aligned_bits q f) h))
    go (no h) = let l : aligned_bits q f ≤ N + u.0 = omega arith in inr (l, rw (le-ltb (N + u.0) (aligned_bits q f) l))

pub least_le : (q f N : ℕ) (u : exponent.Unit) → least_quotient q f N u ≤ 1
least_le q f N u = ⊎_elim (λ l. omega arith) (λ l. omega arith) (least_known q f N u)
