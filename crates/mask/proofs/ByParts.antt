-- A mask by its parts: it is met exactly when its low part is met by the word's low part and its high part by the rest, for a cut at
-- any position; so a mask on a word of w + f + 1 bits is three masks, on the sign, the exponent field and the fraction.
-- And a mask moved up by some places. Assumes nothing.
use mathlib.Core.Logic.{◌↔◌}
use mathlib.Core.Path.{◌≡◌, sym, ap, ap₂, ◌∙◌}
use Prim.Native.Nat.{ℕ, ◌+◌, ◌*◌, ◌/◌, ◌%◌, ◌^◌, ◌<◌}
use native.Mathlib.Nat.{mod-lt, div-eq_of_lt, add-zero, eq_of_mul-eq-mul_right, add_comm}
use lib.Bits.{bit_and, and_mod, and_shr, and_zero_r, and_block}
use lib.Pow.{pow_pos, split, field, mod-mod-pow, shr_lt}
use Rattle.mask.specs.declared.Mask.{Mask}
use Rattle.mask.specs.Mask.{Inside, WellFormed, Meets, low, high, raised}
use Rattle.mask.proofs.ByBits.{value_below}

-- the two parts of a mask and of a word, at any position
pub meets_parts : (k x : ℕ) (m : Mask) → Meets x m ↔ (Meets (x % 2 ^ k) (low k m) × Meets (x / 2 ^ k) (high k m))
meets_parts k x m = (
  (λ met. (sym (and_mod x m.care k) ∙ ap (λ (u : ℕ). u % 2 ^ k) met, sym (and_shr x m.care k) ∙ ap (λ (u : ℕ). u / 2 ^ k) met)),
  λ p. sym (split (bit_and x m.care) k)
      ∙ ap₂ (λ (h l : ℕ). h * 2 ^ k + l) (and_shr x m.care k ∙ p.1) (and_mod x m.care k ∙ p.0)
      ∙ split m.value k,
)

pub low_formed : (k : ℕ) (m : Mask) → Inside m → WellFormed k (low k m)
low_formed k m h = record { below = mod-lt m.care (pow_pos k); inside = ((meets_parts k m.value m).0 h).0 }

pub high_formed : (width k : ℕ) (m : Mask) → WellFormed (width + k) m → WellFormed width (high k m)
high_formed width k m w = record { below = shr_lt width k w.below; inside = ((meets_parts k m.value m).0 w.inside).1 }

-- a mask of k bits asks nothing of the bits above them
pub meets_within : (k x : ℕ) (m : Mask) → WellFormed k m → Meets x m ↔ Meets (x % 2 ^ k) (low k m)
meets_within k x m w = (
  (λ met. ((meets_parts k x m).0 met).0),
  λ p. (meets_parts k x m).1 (
    p,
    ap (bit_and (x / 2 ^ k)) (div-eq_of_lt w.below) ∙ and_zero_r (x / 2 ^ k) ∙ sym (div-eq_of_lt (value_below k m w)),
  ),
)

-- the fraction, the exponent field and the sign of a word of w + f + 1 bits
module _ (w f : ℕ) (m : Mask) (h : WellFormed (w + f + 1) m) where
  pub sign_formed : WellFormed 1 (high (w + f) m)
  sign_formed = high_formed 1 (w + f) m (rw (add_comm 1 (w + f)) h)

  pub fraction_formed : WellFormed f (low f m)
  fraction_formed = low_formed f m h.inside

  pub meets_fields : (x : ℕ)
      → Meets x m ↔ (Meets (x / 2 ^ (w + f) % 2) (low 1 (high (w + f) m)) × Meets (x / 2 ^ f % 2 ^ w) (low w (high f m)) × Meets (x % 2 ^ f) (low f m))
  meets_fields x =
      let cut = meets_parts (w + f) x m in
      let top = meets_within 1 (x / 2 ^ (w + f)) (high (w + f) m) sign_formed in
      let rest = simp (mod-mod-pow, field) at (meets_parts f (x % 2 ^ (w + f)) (low (w + f) m)) in (
        (λ met. let p = rest.0 (cut.0 met).0 in (top.0 (cut.0 met).1, p.1, p.0)),
        λ p. cut.1 (rest.1 (p.2, p.1), top.1 p.0),
      )

-- a mask moved up by d places is met by the word moved up, whatever stands below
pub meets_raised : (d x r : ℕ) (m : Mask) → r < 2 ^ d → Meets (x * 2 ^ d + r) (raised d m) ↔ Meets x m
meets_raised d x r m h =
    ((λ met. eq_of_mul-eq-mul_right (2 ^ d) (pow_pos d) (bit_and x m.care) m.value (sym block ∙ met)), λ met. block ∙ ap (λ (u : ℕ). u * 2 ^ d) met)
  where
    block : bit_and (x * 2 ^ d + r) (m.care * 2 ^ d) ≡ bit_and x m.care * 2 ^ d
    block =
        ap (bit_and (x * 2 ^ d + r)) (sym (add-zero (m.care * 2 ^ d)))
        ∙ and_block d x m.care r 0 h (pow_pos d)
        ∙ ap (λ (u : ℕ). bit_and x m.care * 2 ^ d + u) (and_zero_r r)
        ∙ add-zero (bit_and x m.care * 2 ^ d)
