-- What a format has in common with the interchange format of `lib.Ieee` whose parameters it has: the weights of the fields, the exponent field
-- of all ones, and where infinity begins; and single and double precision as such formats. Assumes nothing.
use mathlib.Core.Path.{◌≡◌, refl, sym, ap, ap₂, ◌∙◌}
use Prim.Native.Nat.{ℕ, suc, ◌+◌, ◌-◌, ◌*◌, ◌/◌, ◌^◌, ◌<◌}
use native.Mathlib.Nat.{mul_comm, pow-succ'}
use native.Mathlib.Omega.{arith}
use lib.Pow.{pow_pos, pow-add}
use lib.Ieee as ieee
use lib.Ieee.{binary32, binary64, prec, emax, low, hid, ones, top}
use lib.Ieee.Scale.{overflow}
use Rattle.format.specs.declared.Format.{Format}
use Rattle.format.specs.Format.{precision, format_cause}
use Rattle.format.proofs.Laws.{format_none}
use Rattle.word.specs.Word.{all_ones}
use Rattle.word.proofs.Bounds.{four_exponents}
use Rattle.standard.specs.Representable.{after_largest}
use Rattle.standard.specs.Ieee.{Interchange, single, double}

twice : (n : ℕ) → 0 < n → 2 ^ n ≡ 2 * 2 ^ (n - 1)
twice n h = let e : n ≡ suc (n - 1) = omega arith in ap (λ (m : ℕ). 2 ^ m) e ∙ pow-succ' 2 (n - 1)

module _ {F : Format} {B : ieee.Format} (tie : Interchange F B) where
  -- the exponent field of all ones, and the weights of the exponent field and of the sign
  pub ones_is : ones B ≡ all_ones F
  ones_is = omega (arith, twice F.w (omega arith), pow_pos (F.w - 1))

  pub hid_is : hid B ≡ 2 ^ F.f
  hid_is = let e : prec B - 1 ≡ F.f = omega arith in ap (λ (n : ℕ). 2 ^ n) e

  pub top_is : top B ≡ 2 ^ (F.w + F.f)
  top_is =
      let e : suc (ones B) ≡ 2 ^ F.w = omega (arith, ones_is, pow_pos F.w) in
      ap₂ ◌*◌ hid_is e ∙ mul_comm (2 ^ F.f) (2 ^ F.w) ∙ sym (pow-add 2 F.w F.f)

  -- half the weight of the exponent field is that of the top fraction bit
  pub half_hid_is : hid B / 2 ≡ 2 ^ (F.f - 1)
  half_hid_is = omega (arith, hid_is, twice F.f (omega arith))

  -- infinity begins where the number after the largest would be
  pub overflow_is : overflow B ≡ after_largest F
  overflow_is =
      let e : low B + suc (emax B) ≡ precision F + (2 ^ F.w - 3) = omega (arith, twice F.w (omega arith), four_exponents F tie.supported) in
      ap (λ (n : ℕ). 2 ^ n) e ∙ pow-add 2 (precision F) (2 ^ F.w - 3)

pub single_interchange : Interchange single binary32
unfolding format_cause
single_interchange = record { supported = (format_none single).0 refl; precision_is = refl; emax_is = refl }

pub double_interchange : Interchange double binary64
unfolding format_cause
double_interchange = record { supported = (format_none double).0 refl; precision_is = refl; emax_is = refl }
