-- The rounded sum of two finite words, in the standard's words: the exact sum is the integers' own, and c is it, rounded, or what an overflow
-- gives (IEEE 754, "Overflow"; document 01, "The rounded result"; document 02, W-201). Assumes nothing.
use Rattle.std.specs.Prelude.{◌≡◌, ℕ, zero, suc, ◌≤◌, ◌<◌, ℤ, pos, negsuc, nat_abs, ◌+ℤ◌, ◌-ℤ◌}
use Rattle.format.specs.declared.Format.{Format}
use Rattle.word.specs.Word.{sign}
use Rattle.standard.specs.Fields.{Infinity, LargestFinite, effective_sign}
use Rattle.standard.specs.Representable.{largest}
use Rattle.standard.specs.Number.{number, FiniteWord, RoundsTo}

-- operation 0 adds, 1 subtracts
abbrev pub exact_number : Format → ℕ → ℕ → ℕ → ℤ
exact_number F zero a b = number F a +ℤ number F b
exact_number F (suc operation) a b = number F a -ℤ number F b

-- the sign bit of a number that is not 0
abbrev pub sign_of : ℤ → ℕ
sign_of (pos n) = 0
sign_of (negsuc n) = 1

-- overflow: modes 0 and 4 give infinity, mode 1 the largest finite number, each of the exact sign; mode 2 plus infinity or the most
-- negative finite number, mode 3 minus infinity or the largest finite number; no other number is a mode
abbrev pub Overflow : Format → ℕ → ℕ → ℕ → Type 0
Overflow F zero s c = Infinity F s c
Overflow F (suc zero) s c = LargestFinite F s c
Overflow F (suc (suc zero)) zero c = Infinity F 0 c
Overflow F (suc (suc zero)) (suc s) c = LargestFinite F 1 c
Overflow F (suc (suc (suc zero))) zero c = LargestFinite F 0 c
Overflow F (suc (suc (suc zero))) (suc s) c = Infinity F 1 c
Overflow F (suc (suc (suc (suc zero)))) s c = Infinity F s c
Overflow F (suc (suc (suc (suc (suc m))))) s c = ⊥

-- c is the exact number z rounded to r as if exponents went on upward, or r overflows
pub record RoundedWord (F : Format) (mode : ℕ) (z : ℤ) (c : ℕ) : Type 0 where
  pub r : ℤ
  pub rounds : RoundsTo F mode z r
  pub within : nat_abs r ≤ largest F → FiniteWord F c × (number F c ≡ r)
  pub past : largest F < nat_abs r → Overflow F mode (sign_of z) c

-- the sign of c ("The sign bit"): that of the exact number where it is not 0; operands of like effective sign keep it; an exact zero of
-- operands of unlike sign is +, but - in mode 3
pub record SignOfSum (F : Format) (operation mode a b c : ℕ) : Type 0 where
  pub not_zero : (exact_number F operation a b ≡ pos 0 → ⊥) → sign F c ≡ sign_of (exact_number F operation a b)
  pub like : sign F a ≡ effective_sign F operation b → sign F c ≡ sign F a
  pub unlike_down : (sign F a ≡ effective_sign F operation b → ⊥) → exact_number F operation a b ≡ pos 0 → mode ≡ 3 → sign F c ≡ 1
  pub unlike_not_down : (sign F a ≡ effective_sign F operation b → ⊥) → exact_number F operation a b ≡ pos 0 → (mode ≡ 3 → ⊥) → sign F c ≡ 0
