-- A mask by its bits: a word meets a mask whose value lies inside care exactly when it agrees with each fixed bit.
-- Assumes nothing.
use mathlib.Core.Logic.{◌↔◌}
use mathlib.Core.Path.{◌≡◌, sym, ap, ◌∙◌}
use Prim.Native.Nat.{ℕ, ◌^◌, ◌<◌}
use native.Mathlib.Nat.{lt_of_le_of_lt}
use lib.Bits.{bit_and, and_zero_r, and_le_r}
use Rattle.bits.specs.Bit.{bit}
use Rattle.bits.proofs.Laws.{by_bits}
use Rattle.bits.proofs.Logic.{bit_of_and}
use Rattle.mask.specs.declared.Mask.{Mask}
use Rattle.mask.specs.Mask.{Inside, WellFormed, Meets}
use Rattle.mask.proofs.Bitwise.{bit_case, all_bits, and_one}

-- x agrees with every fixed bit of m
abbrev pub AgreesAt : ℕ → Mask → Type 0
AgreesAt x m = (i : ℕ) → bit m.care i ≡ 1 → bit x i ≡ bit m.value i

-- bit i of x under a care bit of 0 is gone, and of 1 is left
pub and_free : (x y i : ℕ) → bit y i ≡ 0 → bit (bit_and x y) i ≡ 0
and_free x y i e = bit_of_and x y i ∙ ap (bit_and (bit x i)) e ∙ and_zero_r (bit x i)

pub and_fixed : (x y i : ℕ) → bit y i ≡ 1 → bit (bit_and x y) i ≡ bit x i
and_fixed x y i e = bit_of_and x y i ∙ ap (bit_and (bit x i)) e ∙ and_one x i

pub inside_bits : (m : Mask) → Inside m ↔ ((i : ℕ) → bit m.care i ≡ 0 → bit m.value i ≡ 0)
inside_bits m = (
  (λ h i e. sym (ap (λ (u : ℕ). bit u i) h) ∙ and_free m.value m.care i e),
  λ none. all_bits (bit_and m.value m.care) m.value (λ i. bit_case m.care i (λ e. and_free m.value m.care i e ∙ sym (none i e)) (λ e. and_fixed m.value m.care i e)),
)

-- a mask that some word meets has its value inside care
pub meets_inside : (x : ℕ) (m : Mask) → Meets x m → Inside m
meets_inside x m met = (inside_bits m).1 (λ i e. sym (ap (λ (u : ℕ). bit u i) met) ∙ and_free x m.care i e)

pub meets_bits : (x : ℕ) (m : Mask) → Inside m → Meets x m ↔ AgreesAt x m
meets_bits x m h = (
  (λ met i e. sym (and_fixed x m.care i e) ∙ ap (λ (u : ℕ). bit u i) met),
  λ agrees. all_bits (bit_and x m.care) m.value (λ i. bit_case m.care i
      (λ e. and_free x m.care i e ∙ sym ((inside_bits m).0 h i e))
      (λ e. and_fixed x m.care i e ∙ agrees i e)),
)

-- a mask that fixes no bit has no value
pub free_value : (m : Mask) → Inside m → m.care ≡ 0 → m.value ≡ 0
free_value m inside none = sym inside ∙ ap (bit_and m.value) none ∙ and_zero_r m.value

-- and every number meets it
pub free_meets : (x : ℕ) (m : Mask) → Inside m → m.care ≡ 0 → Meets x m
free_meets x m inside none = ap (bit_and x) none ∙ and_zero_r x ∙ sym (free_value m inside none)

-- no bit of the value stands above the width either
pub value_below : (width : ℕ) (m : Mask) → WellFormed width m → m.value < 2 ^ width
value_below width m w = rw (← w.inside) (lt_of_le_of_lt (and_le_r m.value m.care) w.below)

-- a mask that fixes every bit below the width is met by exactly one word of that width, its value
pub meets_full : (width x : ℕ) (m : Mask) → WellFormed width m → ((i : ℕ) → i < width → bit m.care i ≡ 1) → x < 2 ^ width
    → Meets x m ↔ (x ≡ m.value)
meets_full width x m w full h = (
  (λ met. by_bits width h (value_below width m w) (λ i k. (meets_bits x m w.inside).0 met i (full i k))),
  λ e. rw e w.inside,
)
