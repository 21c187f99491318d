-- The serial subtracter: a borrow is the carry of the sum that gives x back, (x - (y + b0)) + y + b0, so its laws are the adder's. And the
-- borrows of y - x, from those of x - y - 1. Assumes nothing.
use mathlib.Core.Path.{◌≡◌, refl, sym, ap, ap₂, ◌∙◌}
use mathlib.Core.Bool.{Bool, cond}
use Prim.Native.Nat.{ℕ, zero, suc, ◌+◌, ◌-◌, ◌*◌, ◌/◌, ◌%◌, ◌^◌, ◌≤◌, ◌<◌}
use native.Mathlib.Nat.{mod-lt, mod-add-mod, div-add-mod'}
use native.Mathlib.Decide.{dec_lt}
use native.Mathlib.Omega.{arith}
use package.borrow.Author.Tests.{lt-ltb, le-ltb}
use lib.Dec.{ltb}
use lib.Pow.{pow_pos, mod-pow-add}
use Rattle.bits.specs.Bit.{bit}
use Rattle.bits.proofs.Laws.{bit_lt}
use Rattle.columns.specs.Carry.{carry, borrow}
use Rattle.columns.proofs.Carry.{carry_lt, sum_bit}

module _ (x y b0 i : ℕ) where
  pub borrow_one : x % 2 ^ i < y % 2 ^ i + b0 → borrow x y b0 i ≡ 1
  unfolding borrow
  borrow_one h = ap (λ (t : Bool). cond t 1 0) (lt-ltb (x % 2 ^ i) (y % 2 ^ i + b0) h)

  pub borrow_none : y % 2 ^ i + b0 ≤ x % 2 ^ i → borrow x y b0 i ≡ 0
  unfolding borrow
  borrow_none h = ap (λ (t : Bool). cond t 1 0) (le-ltb (x % 2 ^ i) (y % 2 ^ i + b0) h)

-- ---- the difference the other way round

-- x - y with a borrow into position 0 has at each position the other one of the borrow of y - x
pub borrow_reversed : (x y i : ℕ) → borrow y x 0 i + borrow x y 1 i ≡ 1
borrow_reversed x y i = go (dec_lt (y % 2 ^ i) (x % 2 ^ i))
  where
    go : Dec (y % 2 ^ i < x % 2 ^ i) → borrow y x 0 i + borrow x y 1 i ≡ 1
    go (yes l) = ap₂ ◌+◌ (borrow_one y x 0 i (omega arith)) (borrow_none x y 1 i (omega arith))
    go (no l) = ap₂ ◌+◌ (borrow_none y x 0 i (omega arith)) (borrow_one x y 1 i (omega arith))

-- where y is even, y + 1 has that borrow in its lowest bit
pub borrow_even : (x y i : ℕ) → y % 2 ≡ 0 → borrow x (y + 1) 0 (i + 1) ≡ borrow x y 1 (i + 1)
unfolding borrow
borrow_even x y i even = ap (λ (n : ℕ). cond (ltb (x % 2 ^ (i + 1)) n) 1 0) (ap (λ (n : ℕ). n + 0) low ∙ omega arith)
  where
    half : (y + 1) / 2 ≡ y / 2
    half = omega (arith, even)

    low : (y + 1) % 2 ^ (i + 1) ≡ y % 2 ^ (i + 1) + 1
    low =
        mod-pow-add (y + 1) i 1
        ∙ ap (λ (q : ℕ). q % 2 ^ i * 2 + (y + 1) % 2) half
        ∙ omega (arith, even, mod-pow-add y i 1)

-- ---- where nothing is borrowed from above

mod_sum : (a b c m : ℕ) → (a + b + c) % m ≡ (a % m + b % m + c) % m
mod_sum a b c m =
    let one : a + b + c ≡ a + (b + c) = omega arith in
    let two : a % m + (b + c) ≡ b + (a % m + c) = omega arith in
    let three : b % m + (a % m + c) ≡ a % m + b % m + c = omega arith in
    ap (λ (u : ℕ). u % m) one
    ∙ sym (mod-add-mod a m (b + c))
    ∙ ap (λ (u : ℕ). u % m) two
    ∙ sym (mod-add-mod b m (a % m + c))
    ∙ ap (λ (u : ℕ). u % m) three

module _ (x y b0 : ℕ) (hb : b0 < 2) (h : y + b0 ≤ x) where
  back : x - (y + b0) + y + b0 ≡ x
  back = omega arith

  pub borrow_carry : (i : ℕ) → borrow x y b0 i ≡ carry (x - (y + b0)) y b0 i
  unfolding carry
  borrow_carry i = go (S / 2 ^ i) refl (carry_lt d y b0 hb i)
    where
      d : ℕ
      d = x - (y + b0)

      S : ℕ
      S = d % 2 ^ i + y % 2 ^ i + b0

      low_x : x % 2 ^ i ≡ S % 2 ^ i
      low_x = ap (λ (u : ℕ). u % 2 ^ i) (sym back) ∙ mod_sum d y b0 (2 ^ i)

      whole : (q : ℕ) → S / 2 ^ i ≡ q → q * 2 ^ i + x % 2 ^ i ≡ S
      whole q e = ap₂ (λ (u v : ℕ). u * 2 ^ i + v) (sym e) low_x ∙ div-add-mod' S (2 ^ i)

      go : (q : ℕ) → S / 2 ^ i ≡ q → q < 2 → borrow x y b0 i ≡ q
      go zero e l = borrow_none x y b0 i (omega (arith, whole zero e))
      go (suc zero) e l = borrow_one x y b0 i (omega (arith, whole 1 e, mod-lt d (pow_pos i)))
      go (suc (suc q)) e l = absurd (omega arith)

  back_bit : (i : ℕ) → bit x i ≡ (bit (x - (y + b0)) i + bit y i + carry (x - (y + b0)) y b0 i) % 2
  back_bit i = ap (λ (u : ℕ). bit u i) (sym back) ∙ sum_bit (x - (y + b0)) y b0 i

  pub difference_bit : (i : ℕ) → bit (x - (y + b0)) i ≡ (bit x i + bit y i + borrow x y b0 i) % 2
  difference_bit i = omega (arith, back_bit i, bit_lt (x - (y + b0)) i, borrow_carry i)
