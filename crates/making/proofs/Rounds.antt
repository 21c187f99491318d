-- Rounding off j bits and a mask on what is left: a constant and a carry are added, and the mask is moved up by j places.
-- Also a mask on a number that zeros are added to, and the kept part as one rounding off and one shift. Assumes nothing.
use mathlib.Core.Logic.{◌↔◌}
use mathlib.Core.Path.{◌≡◌, refl, sym, ap, ap₂, ◌∙◌}
use mathlib.Core.Bool.{cond}
use Prim.Native.Nat.{ℕ, suc, ◌+◌, ◌-◌, ◌*◌, ◌/◌, ◌%◌, ◌^◌, ◌≤◌, ◌<◌}
use native.Mathlib.Nat.{zero-add, mul-one, mul_assoc, mod-lt, mul-mod_left}
use native.Mathlib.Decide.{dec_lt, dec_le}
use native.Mathlib.Omega.{arith}
use borrow.Author.Tests.{lt-ltb, le-ltb}
use lib.Bits.{and_zero_l}
use lib.Dec.{ltb}
use lib.Pow.{pow_pos, pow-add, split, shl-shr}
use Rattle.mask.specs.declared.Mask.{Mask}
use Rattle.mask.specs.Mask.{Meets, low, high, raised}
use Rattle.mask.proofs.ByParts.{meets_parts, meets_raised}
use Rattle.rounding.specs.declared.Direction.{Direction}
use Rattle.rounding.specs.Rounding.{round_off}
use Rattle.rounding.specs.Sticky.{kept_part}
use Rattle.rounding.specs.Width.{most_rounded}
use Rattle.rounding.proofs.RoundOff.{round_off_none, round_off_scale}

-- a mask moved up by j places asks nothing of the low j bits
pub quotient_meets : (j z : ℕ) (y : Mask) → Meets z (raised j y) ↔ Meets (z / 2 ^ j) y
quotient_meets j z y = rw (split z j) at (meets_raised j (z / 2 ^ j) (z % 2 ^ j) y (mod-lt z (pow_pos j)))

-- z is x and what rounding adds, so that its quotient is x rounded off
module _ (j x z : ℕ) (y : Mask) (d : Direction) (e : round_off d x j ≡ z / 2 ^ j) where
  pub rounds_meets : Meets z (raised j y) ↔ Meets (round_off d x j) y
  rounds_meets = rw e (quotient_meets j z y)

-- s zeros below q
pub zeros_meets : (s q : ℕ) (m : Mask) → Meets (q * 2 ^ s) m ↔ ((m.value % 2 ^ s ≡ 0) × Meets q (high s m))
zeros_meets s q m = (
  (λ met. let p = parts.0 met in (sym p.0 ∙ and_zero_l (m.care % 2 ^ s), p.1)),
  λ p. parts.1 (and_zero_l (m.care % 2 ^ s) ∙ sym p.0, p.1),
)
  where
    parts : Meets (q * 2 ^ s) m ↔ (Meets 0 (low s m) × Meets q (high s m))
    parts = rw (mul-mod_left q (2 ^ s), shl-shr q s) at (meets_parts s (q * 2 ^ s) m)

-- of the kept part q less u - k bits are rounded off, one more than they after a carry, or else zeros are added
pub kept_scaled : (q : ℕ) (d : Direction) (x u k : ℕ) → k ≤ suc u → kept_part q d x u k ≡ round_off d x (k + q - u) * 2 ^ (u - (k + q))
unfolding kept_part
kept_scaled q d x u k most = go (dec_lt u k) (dec_le u (k + q))
  where
    -- no zeros are added
    alone : (j : ℕ) → k + q - u ≡ j → u ≤ k + q → round_off d x j ≡ round_off d x (k + q - u) * 2 ^ (u - (k + q))
    alone j e l =
        let none : u - (k + q) ≡ 0 = omega arith in
        sym (ap₂ (λ (a b : ℕ). round_off d x a * 2 ^ b) e none ∙ mul-one (round_off d x j))

    go : Dec (u < k) → Dec (u ≤ k + q) → cond (ltb u k) (round_off d x (most_rounded q)) (round_off d (x * 2 ^ (u - k)) q) ≡ round_off d x (k + q - u) * 2 ^ (u - (k + q))
    go (yes h) l = rw (lt-ltb u k h) (alone (most_rounded q) (omega arith) (omega arith))
    go (no h) (yes l) =
        let e : q ≡ (k + q - u) + (u - k) = omega arith in
        rw (le-ltb u k (omega arith))
        (ap (round_off d (x * 2 ^ (u - k))) e ∙ round_off_scale d x (k + q - u) (u - k) ∙ alone (k + q - u) refl l)
    go (no h) (no l) =
        let e : u - k ≡ (u - (k + q)) + q = omega arith in
        let none : k + q - u ≡ 0 = omega arith in
        rw (le-ltb u k (omega arith))
        (ap (λ (n : ℕ). round_off d n q) (ap (λ (i : ℕ). x * 2 ^ i) e ∙ ap (◌*◌ x) (pow-add 2 (u - (k + q)) q) ∙ sym (mul_assoc x (2 ^ (u - (k + q))) (2 ^ q)))
        ∙ ap (round_off d (x * 2 ^ (u - (k + q)) * 2 ^ q)) (sym (zero-add q)) ∙ round_off_scale d (x * 2 ^ (u - (k + q))) 0 q ∙ round_off_none d (x * 2 ^ (u - (k + q)))
        ∙ ap (λ (n : ℕ). n * 2 ^ (u - (k + q))) (sym (ap (round_off d x) none ∙ round_off_none d x)))
