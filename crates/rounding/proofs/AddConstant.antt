-- Rounding off k bits is adding a constant and a carry and dropping k bits, whatever the direction: `round_off_adds`. Nothing is added toward
-- zero, 2^k - 1 away from zero, and to the nearest one less than half a unit and then what a tie goes up by: the last kept bit, which sends
-- it to the even neighbour, or 1, which sends it away from zero. A caller that knows the last kept bit names it; one whose carry is the same for both need not (`round_off_adds_fixed`).
-- Assumes nothing.
use mathlib.Core.Path.{◌≡◌, sym, ap, ◌∙◌}
use mathlib.Core.Bool.{cond}
use Prim.Native.Nat.{ℕ, zero, suc, ◌+◌, ◌-◌, ◌*◌, ◌/◌, ◌%◌, ◌^◌, ◌<◌}
use native.Mathlib.Nat.{mod-lt, add-zero, div-one, div-add-mod', pow-suc, suc-mul}
use native.Mathlib.Decide.{dec_lt, ℕ_discrete}
use native.Mathlib.Omega.{arith}
use borrow.Author.Tests.{lt-ltb, le-ltb, eq-eqb, ne_eqb}
use lib.Arith.{digits_div}
use lib.Dec.{eqb}
use lib.Pow.{pow_pos}
use Rattle.bits.specs.Bit.{bit}
use Rattle.bits.proofs.Laws.{bit_lt}
use Rattle.rounding.specs.declared.Direction.{Direction}
use Rattle.rounding.specs.declared.Direction.TheVariants.{NearestEven, NearestAway, TowardZero, Away}
use Rattle.rounding.specs.Rounding.{to_nearest, increment, round_off, rounding_constant, rounding_carry}
use Rattle.rounding.proofs.RoundOff.{round_off_none}

pub round_toward_zero : (X k : ℕ) → round_off TowardZero X k ≡ X / 2 ^ k
unfolding round_off increment
round_toward_zero X k = add-zero (X / 2 ^ k)

-- a number with q units of P and less than a unit more
quotient : (n q r P : ℕ) → r < P → n ≡ q * P + r → q ≡ n / P
quotient n q r P h e = sym (ap (λ (m : ℕ). m / P) e ∙ digits_div q h)

pub round_away : (X k : ℕ) → round_off Away X k ≡ (X + (2 ^ k - 1)) / 2 ^ k
unfolding round_off increment
round_away X k = go (ℕ_discrete (X % 2 ^ k) 0)
  where
    go : Dec (X % 2 ^ k ≡ 0) → X / 2 ^ k + cond (eqb (X % 2 ^ k) 0) 0 1 ≡ (X + (2 ^ k - 1)) / 2 ^ k
    go (yes z) =
        let pos = pow_pos k in
        let whole = div-add-mod' X (2 ^ k) in
        rw (eq-eqb (X % 2 ^ k) 0 z) (add-zero (X / 2 ^ k) ∙ quotient (X + (2 ^ k - 1)) (X / 2 ^ k) (2 ^ k - 1) (2 ^ k) (omega arith) (omega arith))
    go (no z) =
        let below = mod-lt X (pow_pos k) in
        let whole = div-add-mod' X (2 ^ k) in
        let one = suc-mul (X / 2 ^ k) (2 ^ k) in
        let n : X / 2 ^ k + 1 ≡ suc (X / 2 ^ k) = omega arith in
        rw (ne_eqb (X % 2 ^ k) 0 z) (n ∙ quotient (X + (2 ^ k - 1)) (suc (X / 2 ^ k)) (X % 2 ^ k - 1) (2 ^ k) (omega arith) (omega arith))

-- q units of P, twice H, and ρ more: the tests of going to the nearest, and the sum with what a tie goes up by
module _ (X q ρ H P : ℕ) (halves : P ≡ H * 2) (pos : 0 < H) (below : ρ < P) (whole : q * P + ρ ≡ X) where
  tie_by : (b : ℕ) → b < 2 → ρ ≡ H → q + b ≡ (X + (H - 1) + b) / P
  tie_by zero h e = add-zero q ∙ quotient (X + (H - 1) + 0) q (ρ + (H - 1)) P (omega arith) (omega arith)
  tie_by (suc zero) h e =
      let n : q + 1 ≡ suc q = omega arith in
      n ∙ quotient (X + (H - 1) + 1) (suc q) 0 P (omega arith) (omega (arith, suc-mul q P))
  tie_by (suc (suc b)) h e = absurd (omega arith)

  nearest_adds : (tie : ℕ) → tie < 2 → q + to_nearest tie ρ P ≡ (X + (H - 1) + tie) / P
  nearest_adds tie small = go (dec_lt H ρ) (ℕ_discrete ρ H)
    where
      go : Dec (H < ρ) → Dec (ρ ≡ H) → q + to_nearest tie ρ P ≡ (X + (H - 1) + tie) / P
      go (yes l) e =
          let n : q + 1 ≡ suc q = omega arith in
          rw (lt-ltb P (2 * ρ) (omega arith))
          (n ∙ quotient (X + (H - 1) + tie) (suc q) (ρ - H - 1 + tie) P (omega arith) (omega (arith, suc-mul q P)))
      go (no l) (yes e) = rw (le-ltb P (2 * ρ) (omega arith), eq-eqb (2 * ρ) P (omega arith)) (tie_by tie small e)
      go (no l) (no e) =
          rw (le-ltb P (2 * ρ) (omega arith), ne_eqb (2 * ρ) P (λ t. omega arith))
          (add-zero q ∙ quotient (X + (H - 1) + tie) q (ρ + (H - 1) + tie) P (omega arith) (omega arith))

round_nearest : (X j tie : ℕ) → tie < 2 → X / 2 ^ suc j + to_nearest tie (X % 2 ^ suc j) (2 ^ suc j) ≡ (X + (2 ^ j - 1) + tie) / 2 ^ suc j
round_nearest X j tie small =
    nearest_adds X (X / 2 ^ suc j) (X % 2 ^ suc j) (2 ^ j) (2 ^ suc j) (pow-suc 2 j) (pow_pos j) (mod-lt X (pow_pos (suc j))) (div-add-mod' X (2 ^ suc j)) tie small

-- ---- one law over the direction

-- for the last kept bit
pub round_off_adds : (d : Direction) (X k last : ℕ) → bit X k ≡ last → round_off d X k ≡ (X + rounding_constant d k + rounding_carry d k last) / 2 ^ k
unfolding round_off increment rounding_constant rounding_carry
round_off_adds d X zero last e = round_off_none d X ∙ omega (arith, div-one (X + 0 + 0))
round_off_adds NearestEven X (suc j) last e = round_nearest X j (bit X (suc j)) (bit_lt X (suc j)) ∙ ap (λ (b : ℕ). (X + (2 ^ j - 1) + b) / 2 ^ suc j) e
round_off_adds NearestAway X (suc j) last e = round_nearest X j 1 (omega arith)
round_off_adds TowardZero X (suc j) last e = round_toward_zero X (suc j) ∙ ap (λ (n : ℕ). n / 2 ^ suc j) (omega arith)
round_off_adds Away X (suc j) last e = round_away X (suc j) ∙ ap (λ (n : ℕ). n / 2 ^ suc j) (omega arith)

-- where the carry does not depend on it
pub round_off_adds_fixed : (d : Direction) (k carry : ℕ) → rounding_carry d k 0 ≡ carry → rounding_carry d k 1 ≡ carry
    → (X : ℕ) → round_off d X k ≡ (X + rounding_constant d k + carry) / 2 ^ k
round_off_adds_fixed d k carry zeroth first X = go (bit X k) (bit_lt X k) mathlib.Core.Path.refl
  where
    go : (b : ℕ) → b < 2 → bit X k ≡ b → round_off d X k ≡ (X + rounding_constant d k + carry) / 2 ^ k
    go zero h e = round_off_adds d X k 0 e ∙ ap (λ (c : ℕ). (X + rounding_constant d k + c) / 2 ^ k) zeroth
    go (suc zero) h e = round_off_adds d X k 1 e ∙ ap (λ (c : ℕ). (X + rounding_constant d k + c) / 2 ^ k) first
    go (suc (suc b)) h e = absurd (omega arith)

-- the constant is less than a unit, and the carry is a bit
pub rounding_constant_lt : (d : Direction) (k : ℕ) → rounding_constant d k < 2 ^ k
unfolding rounding_constant
rounding_constant_lt d zero = omega arith
rounding_constant_lt NearestEven (suc j) = omega (arith, pow-suc 2 j, pow_pos j)
rounding_constant_lt NearestAway (suc j) = omega (arith, pow-suc 2 j, pow_pos j)
rounding_constant_lt TowardZero (suc j) = pow_pos (suc j)
rounding_constant_lt Away (suc j) = omega (arith, pow_pos (suc j))

pub rounding_carry_lt : (d : Direction) (k last : ℕ) → last < 2 → rounding_carry d k last < 2
unfolding rounding_carry
rounding_carry_lt d zero last h = omega arith
rounding_carry_lt NearestEven (suc j) last h = h
rounding_carry_lt NearestAway (suc j) last h = omega arith
rounding_carry_lt TowardZero (suc j) last h = omega arith
rounding_carry_lt Away (suc j) last h = omega arith
