-- Words with a bit for each column: the bits of the bitwise operations as tests, and a test at one column as a word with that bit or none.
-- Assumes nothing.
use mathlib.Core.Path.{◌≡◌, refl, sym, ap, ◌∙◌}
use mathlib.Core.Bool.{Bool, true, false, not, ◌&&◌, ◌||◌}
use Prim.Native.Nat.{ℕ, zero, suc, ◌+◌, ◌-◌, ◌*◌, ◌%◌, ◌^◌, ◌<◌}
use native.Mathlib.Nat.{mod-eq_of_lt, mod-lt, div-eq_of_lt, pow-suc, one-mul, zero-mul}
use native.Mathlib.Decide.{ℕ_discrete}
use native.Mathlib.Omega.{arith}
use package.borrow.Author.Tests.{eq-eqb, ne_eqb}
use lib.Bits.{bit_and, bit_or, bit_xor, and_comm, and_zero_l, or_self, or_zero_l, or_zero_r, and_high, xor_lt}
use lib.Dec.{eqb}
use lib.Pow.{pow_pos, pow-lt, pow-add, high, low, ones_lt, ones_split}
use mir.Val.{bool_byte}
use Rattle.bits.specs.Bit.{bit}
use Rattle.bits.proofs.Laws.{bit_lt, bit_pow_same, bit_pow_other}
use Rattle.bits.proofs.Logic.{bit_of_and, bit_of_or, bit_of_xor}
use Rattle.columns.proofs.Borrow.{borrow_none, difference_bit}
use Rattle.columns.specs.Carry.{borrow}
use Rattle.mask.proofs.Bitwise.{of_bit}
use Rattle.mask.specs.declared.Mask.{Mask}
use Rattle.chain.specs.Ways.{mem, digit, lets}
use Rattle.chain.specs.Walk.{flag}

pub digit_lt : (b : Bool) → digit b < 2
digit_lt true = omega arith
digit_lt false = omega arith

pub digit_one : (b : Bool) → eqb (digit b) 1 ≡ b
digit_one true = refl
digit_one false = refl

pub byte_digit : (b : Bool) → bool_byte b ≡ digit b
byte_digit true = refl
byte_digit false = refl

-- a number below 2 as a bit
pub as_test : (n : ℕ) → n < 2 → (b : Bool) × (digit b ≡ n)
as_test zero h = (false, refl)
as_test (suc zero) h = (true, refl)
as_test (suc (suc n)) h = absurd (omega arith)

-- ---- bits of operations

-- an equation of two bits holds where it holds at 0 and 1
of_bits_lem : (P : ℕ → ℕ → Type 0) → P 0 0 → P 0 1 → P 1 0 → P 1 1 → (p q : ℕ) → p < 2 → q < 2 → P p q
of_bits_lem P a b c d p q hp hq = of_bit (λ (u : ℕ). P u q) (of_bit (P 0) a b q hq) (of_bit (P 1) c d q hq) p hp

pub mem_and : (v w i : ℕ) → mem (bit_and v w) i ≡ (mem v i && mem w i)
mem_and v w i =
    ap (λ (u : ℕ). eqb u 1) (bit_of_and v w i)
    ∙ of_bits_lem (λ (p q : ℕ). eqb (bit_and p q) 1 ≡ (eqb p 1 && eqb q 1)) refl refl refl refl (bit v i) (bit w i) (bit_lt v i) (bit_lt w i)

pub mem_or : (v w i : ℕ) → mem (bit_or v w) i ≡ (mem v i || mem w i)
mem_or v w i =
    ap (λ (u : ℕ). eqb u 1) (bit_of_or v w i)
    ∙ of_bits_lem (λ (p q : ℕ). eqb (bit_or p q) 1 ≡ (eqb p 1 || eqb q 1)) refl refl refl refl (bit v i) (bit w i) (bit_lt v i) (bit_lt w i)

pub mem_zero : (i : ℕ) → mem 0 i ≡ false
mem_zero i = ap (λ (u : ℕ). eqb (u % 2) 1) (div-eq_of_lt (pow_pos i))

pub mem_pow : (t s : ℕ) → mem (2 ^ t) s ≡ eqb s t
mem_pow t s = go (ℕ_discrete s t)
  where
    go : Dec (s ≡ t) → mem (2 ^ t) s ≡ eqb s t
    go (yes e) = rw e (ap (λ (u : ℕ). eqb u 1) (bit_pow_same t) ∙ sym (eq-eqb t t refl))
    go (no n) = ap (λ (u : ℕ). eqb u 1) (bit_pow_other t s (λ e. n (sym e))) ∙ sym (ne_eqb s t n)

-- a word of ones, from position i on and below it
module _ (n i : ℕ) (h : i < n) where
  width : n ≡ suc (n - suc i) + i
  width = omega arith

  ones_parts : 2 ^ n - 1 ≡ (2 ^ suc (n - suc i) - 1) * 2 ^ i + (2 ^ i - 1)
  ones_parts = ap (λ (k : ℕ). 2 ^ k - 1) width ∙ ones_split (suc (n - suc i)) i

  pub ones_bit : bit (2 ^ n - 1) i ≡ 1
  ones_bit =
      ap (λ (u : ℕ). bit u i) ones_parts
      ∙ ap (λ (u : ℕ). u % 2) (high (2 ^ suc (n - suc i) - 1) i (ones_lt i))
      ∙ omega (arith, pow-suc 2 (n - suc i), pow_pos (n - suc i))

  ones_low : (2 ^ n - 1) % 2 ^ i ≡ 2 ^ i - 1
  ones_low = ap (λ (u : ℕ). u % 2 ^ i) ones_parts ∙ low (2 ^ suc (n - suc i) - 1) i (ones_lt i)

  -- turned over, each bit is the other one: nothing is borrowed from ones
  not_bit : (w : ℕ) → w < 2 ^ n → bit (2 ^ n - 1 - w) i ≡ 1 - bit w i
  not_bit w hw =
      let plain : 2 ^ n - 1 - w ≡ 2 ^ n - 1 - (w + 0) = omega arith in
      let none : borrow (2 ^ n - 1) w 0 i ≡ 0 = borrow_none (2 ^ n - 1) w 0 i (omega (arith, ones_low, mod-lt w (pow_pos i))) in
      ap (λ (u : ℕ). bit u i) plain
      ∙ difference_bit (2 ^ n - 1) w 0 (omega arith) (omega arith) i
      ∙ omega (arith, ones_bit, none, bit_lt w i)

-- a mask lets a bit be 0 where its value is 0, and 1 where its care and its value are alike
module _ (m : Mask) (i : ℕ) (h : i < 64) where
  pub lets_zero : m.value < 2 ^ 64 → mem (2 ^ 64 - 1 - m.value) i ≡ lets m i false
  lets_zero hv =
      ap (λ (u : ℕ). eqb u 1) (not_bit 64 i h m.value hv)
      ∙ of_bits_lem (λ (p q : ℕ). eqb (1 - q) 1 ≡ eqb (bit_and 0 p) q) refl refl refl refl
      (bit m.care i) (bit m.value i) (bit_lt m.care i) (bit_lt m.value i)

  pub lets_one : m.care < 2 ^ 64 → m.value < 2 ^ 64 → mem (2 ^ 64 - 1 - bit_xor m.care m.value) i ≡ lets m i true
  lets_one hc hv =
      ap (λ (u : ℕ). eqb u 1) (not_bit 64 i h (bit_xor m.care m.value) (xor_lt 64 m.care m.value hc hv))
      ∙ ap (λ (u : ℕ). eqb (1 - u) 1) (bit_of_xor m.care m.value i)
      ∙ of_bits_lem (λ (p q : ℕ). eqb (1 - bit_xor p q) 1 ≡ eqb (bit_and 1 p) q) refl refl refl refl
      (bit m.care i) (bit m.value i) (bit_lt m.care i) (bit_lt m.value i)

-- ---- one column of a set

module _ (i : ℕ) where
  pub flag_and : (b : Bool) (w : ℕ) → bit_and (flag b i) w ≡ flag (b && mem w i) i
  flag_and true w =
      let one : 2 ^ (1 + i) - 2 ^ i ≡ 2 ^ i = omega (arith, pow-add 2 1 i) in
      and_comm (2 ^ i) w
      ∙ ap (bit_and w) (sym one)
      ∙ and_high w 1 i
      ∙ of_bit (λ (u : ℕ). u * 2 ^ i ≡ flag (eqb u 1) i) (zero-mul (2 ^ i)) (one-mul (2 ^ i)) (bit w i) (bit_lt w i)
  flag_and false w = and_zero_l w

  pub flag_or : (a b : Bool) → bit_or (flag a i) (flag b i) ≡ flag (a || b) i
  flag_or true true = or_self (2 ^ i)
  flag_or true false = or_zero_r (2 ^ i)
  flag_or false b = or_zero_l (flag b i)

  pub flag_up : (b : Bool) → i < 63 → flag b i * 2 % 2 ^ 64 ≡ flag b (suc i)
  flag_up true h = ap (λ (u : ℕ). u % 2 ^ 64) (sym (pow-suc 2 i)) ∙ mod-eq_of_lt (pow-lt {i = suc i} {j = 64} (omega arith))
  flag_up false h = refl

  pub flag_test : (b : Bool) → not (eqb (flag b i) 0) ≡ b
  flag_test true = ap not (ne_eqb (2 ^ i) 0 (λ e. omega (arith, pow_pos i)))
  flag_test false = refl
