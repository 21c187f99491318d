-- The largest finite number is that of the word before infinity's, and the one after it would be that of infinity's word. Assumes nothing.
use mathlib.Core.Path.{◌≡◌, sym, ap, ◌∙◌}
use Prim.Native.Nat.{ℕ, suc, ◌+◌, ◌-◌, ◌*◌, ◌^◌}
use native.Mathlib.Nat.{suc-mul}
use native.Mathlib.Omega.{arith}
use lib.Pow.{pow_pos, pow-add}
use Rattle.format.specs.declared.Format.{Format}
use Rattle.format.specs.Format.{Supported, precision}
use Rattle.word.specs.Word.{all_ones, infinity_word}
use Rattle.word.proofs.Bounds.{four_exponents}
use Rattle.standard.specs.Representable.{magnitude_of, largest, after_largest}
use Rattle.standard.proofs.Magnitudes.{magnitude_kept}

module _ (F : Format) (ok : Supported F) where
  -- infinity's word is where p + 1 bits would begin at the largest exponent
  infinity_kept : infinity_word F ≡ (2 ^ F.w - 3) * 2 ^ F.f + 2 ^ precision F
  infinity_kept =
      let e : all_ones F ≡ suc (suc (2 ^ F.w - 3)) = omega (arith, four_exponents F ok) in
      ap (λ (n : ℕ). n * 2 ^ F.f) e ∙ omega (arith, suc-mul (suc (2 ^ F.w - 3)) (2 ^ F.f), suc-mul (2 ^ F.w - 3) (2 ^ F.f), pow-add 2 F.f 1)

  pub largest_word : largest F ≡ magnitude_of F (infinity_word F - 1)
  largest_word =
      let p = pow-add 2 F.f 1 in
      let pos = pow_pos F.f in
      let e : infinity_word F - 1 ≡ (2 ^ F.w - 3) * 2 ^ F.f + (2 ^ precision F - 1) = omega (arith, infinity_kept) in
      sym (ap (magnitude_of F) e ∙ magnitude_kept F (2 ^ F.w - 3) (2 ^ precision F - 1) (omega arith) (λ h. absurd (omega arith)))

  pub after_largest_word : after_largest F ≡ magnitude_of F (infinity_word F)
  after_largest_word =
      let p = pow-add 2 F.f 1 in
      let pos = pow_pos F.f in
      sym (ap (magnitude_of F) infinity_kept ∙ magnitude_kept F (2 ^ F.w - 3) (2 ^ precision F) (omega arith) (λ h. absurd (omega arith)))
