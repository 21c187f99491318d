-- A mask that fixes the low bits to 0: each number that meets it has them 0. Assumes nothing.
use mathlib.Core.Path.{◌≡◌, refl, sym, ap, ◌∙◌}
use Prim.Native.Nat.{ℕ, ◌-◌, ◌%◌, ◌^◌, ◌<◌}
use native.Mathlib.Nat.{mod-lt, mod-eq_of_lt}
use lib.Bits.{bit_and, and_mask}
use lib.Pow.{pow_pos}
use Rattle.mask.specs.declared.Mask.{Mask}
use Rattle.mask.specs.Mask.{Meets, low}
use Rattle.mask.proofs.ByParts.{meets_parts}
use Rattle.making.specs.Making.{ZerosBelow}

-- all bits of a number below 2^r
pub and_ones : (r y : ℕ) → y < 2 ^ r → bit_and y (2 ^ r - 1) ≡ y
and_ones r y h = and_mask y r ∙ mod-eq_of_lt h

-- by its low part, which the code looks at
pub zeros_meets_low : (j : ℕ) (m l : Mask) → l ≡ low j m → l.value ≡ 0 → l.care ≡ 2 ^ j - 1 → (n : ℕ) → Meets n m → n % 2 ^ j ≡ 0
zeros_meets_low j m l e v c n met =
    sym (and_ones j (n % 2 ^ j) (mod-lt n (pow_pos j))) ∙ ap (bit_and (n % 2 ^ j)) (sym c ∙ ap (λ (k : Mask). k.care) e) ∙ ((meets_parts j n m).0 met).0
    ∙ sym (ap (λ (k : Mask). k.value) e) ∙ v

pub zeros_below : (q : ℕ) (m : Mask) → ZerosBelow q m → (n : ℕ) → Meets n m → n % 2 ^ q ≡ 0
zeros_below q m u = zeros_meets_low q m (low q m) refl u.1 u.0
