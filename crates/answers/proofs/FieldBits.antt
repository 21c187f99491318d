-- The bits of c's exponent fields in the word of a class: two fields have none in common, and none has the mark that the class was asked.
-- Assumes nothing.
use mathlib.Core.Bool.{Bool, true, false, cond}
use mathlib.Core.Path.{◌≡◌, refl, sym, ap, ◌∙◌}
use Prim.Native.Nat.{ℕ, ◌-◌, ◌^◌, ◌≤◌, ◌<◌}
use native.Mathlib.Decide.{dec_lt}
use native.Mathlib.Nat.{one-mul}
use native.Mathlib.Omega.{arith}
use lib.Bits.{bit_and, bit_or, and_zero_r, and_comm, and_shifted, or_zero_r}
use lib.Dec.{ltb}
use lib.Pow.{pow-lt, pow_pos}
use borrow.Author.Tests.{ltb-true}
use Rattle.bits.specs.Bit.{bit}
use Rattle.bits.proofs.Laws.{bit_above}
use Rattle.bits.proofs.Logic.{bit_of_or}
use Rattle.mask.proofs.Bitwise.{bit_case, all_bits}
use Rattle.mask.proofs.ByBits.{and_free, and_fixed}
use Rattle.classes.specs.Class.{most_field}
use Rattle.answers.specs.Kept.{asked_bit, bit_of}

-- what is put into a word leaves the bits that it has not
pub or_apart : (word b c : ℕ) → bit_and b c ≡ 0 → bit_and (bit_or word b) c ≡ bit_and word c
or_apart word b c apart = all_bits (bit_and (bit_or word b) c) (bit_and word c) (λ m. bit_case c m
    (λ e. and_free (bit_or word b) c m e ∙ sym (and_free word c m e))
    (λ e. and_fixed (bit_or word b) c m e ∙ bit_of_or word b m ∙ ap (bit_or (bit word m)) (none m e) ∙ or_zero_r (bit word m) ∙ sym (and_fixed word c m e)))
  where
    none : (m : ℕ) → bit c m ≡ 1 → bit b m ≡ 0
    none m e = sym (and_fixed b c m e) ∙ ap (λ (n : ℕ). bit n m) apart ∙ bit_above {x = 0} m (pow_pos m)

-- two powers of two
pow_apart : (i n : ℕ) → (i ≡ n → ⊥) → bit_and (2 ^ i) (2 ^ n) ≡ 0
pow_apart i n ne = go (dec_lt n i)
  where
    over : (i n : ℕ) → n < i → bit_and (2 ^ i) (2 ^ n) ≡ 0
    over i n l = ap (λ (p : ℕ). bit_and p (2 ^ n)) (sym (one-mul (2 ^ i))) ∙ and_shifted 1 i (2 ^ n) (pow-lt l)

    go : Dec (n < i) → bit_and (2 ^ i) (2 ^ n) ≡ 0
    go (yes l) = over i n l
    go (no l) = and_comm (2 ^ i) (2 ^ n) ∙ over n i (omega arith)

-- the bit of a field, where it has one
has_apart : (b f i : ℕ) → (most_field f - i < asked_bit → bit_and b (2 ^ (most_field f - i)) ≡ 0) → bit_and b (bit_of f i) ≡ 0
unfolding bit_of
has_apart b f i apart = go (ltb (most_field f - i) asked_bit) refl
  where
    go : (t : Bool) → ltb (most_field f - i) asked_bit ≡ t → bit_and b (cond t (2 ^ (most_field f - i)) 0) ≡ 0
    go true e = apart (ltb-true (most_field f - i) asked_bit e)
    go false e = and_zero_r b

pub fields_apart : (f i n : ℕ) → i ≤ most_field f → n ≤ most_field f → (i ≡ n → ⊥) → bit_and (bit_of f i) (bit_of f n) ≡ 0
fields_apart f i n hi hn ne =
    has_apart (bit_of f i) f n (λ _. and_comm (bit_of f i) (2 ^ (most_field f - n))
    ∙ has_apart (2 ^ (most_field f - n)) f i (λ _. pow_apart (most_field f - n) (most_field f - i) (λ e. ne (omega arith))))

pub mark_apart : (f i : ℕ) → bit_and (2 ^ asked_bit) (bit_of f i) ≡ 0
mark_apart f i = has_apart (2 ^ asked_bit) f i (λ l. pow_apart asked_bit (most_field f - i) (λ e. omega arith))
