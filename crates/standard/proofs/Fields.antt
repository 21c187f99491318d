-- The words of adder's definitions have the fields that the standard gives them, and fields leave one word. Assumes nothing.
use mathlib.Core.Path.{◌≡◌, refl, sym, ap, ◌∙◌, subst}
use Prim.Native.Nat.{ℕ, zero, suc, ◌+◌, ◌-◌, ◌*◌, ◌^◌, ◌≤◌, ◌<◌}
use native.Mathlib.Nat.{suc-mul}
use native.Mathlib.Omega.{arith}
use lib.Pow.{pow_pos, pow-add}
use Rattle.format.specs.declared.Format.{Format}
use Rattle.format.specs.Format.{Supported, word_bits}
use Rattle.format.specs.Limits.{most_mode}
use Rattle.word.specs.Word.{all_ones, signed, infinity_word}
use Rattle.rounding.specs.Rounding.{direction, overflow_word}
use Rattle.adder.specs.Result.{nan, infinity}
use Rattle.word.proofs.Bounds.{four_exponents}
use Rattle.word.proofs.Fields.{together_sign, together_biased, together_fraction, word_by_fields}
use Rattle.standard.specs.Fields.{Fields, TheNan, Infinity, LargestFinite}
use Rattle.standard.specs.Sum.{Overflow}

pub fields_unique : (F : Format) {s e t c d : ℕ} → c < 2 ^ word_bits F → d < 2 ^ word_bits F → Fields F c s e t → Fields F d s e t → c ≡ d
fields_unique F hc hd g h =
    word_by_fields F hc hd (g.sign_is ∙ sym h.sign_is) (g.exponent_is ∙ sym h.exponent_is) (g.fraction_is ∙ sym h.fraction_is)

-- a word put together from its fields has these
together : (F : Format) (s e t m : ℕ) → s < 2 → e < 2 ^ F.w → t < 2 ^ F.f → e * 2 ^ F.f + t ≡ m → Fields F (signed F s m) s e t
together F s e t m hs he ht q =
    subst (λ (n : ℕ). Fields F (signed F s n) s e t) q (record {
      sign_is = together_sign F s e t hs he ht;
      exponent_is = together_biased F s e t hs he ht;
      fraction_is = together_fraction F s e t hs he ht;
    })

module _ (F : Format) (ok : Supported F) where
  ones_lt : all_ones F < 2 ^ F.w
  ones_lt = omega (arith, pow_pos F.w)

  pub nan_fields : TheNan F (nan F)
  nan_fields =
      let f : F.f - 1 + 1 ≡ F.f = omega (arith, ok.f_least) in
      let double : 2 ^ F.f ≡ 2 ^ (F.f - 1) * 2 = ap (λ (n : ℕ). 2 ^ n) (sym f) ∙ pow-add 2 (F.f - 1) 1 in
      subst (TheNan F) (unsigned (nan F)) (together F 0 (all_ones F) (2 ^ (F.f - 1)) (nan F) (omega arith) ones_lt (omega (arith, pow_pos (F.f - 1))) refl)
    where
      unsigned : (m : ℕ) → signed F 0 m ≡ m
      unsigned m = omega arith

  module _ (s : ℕ) (hs : s < 2) where
    pub infinity_fields : Infinity F s (infinity F s)
    infinity_fields = together F s (all_ones F) 0 (infinity_word F) hs ones_lt (pow_pos F.f) (omega arith)

    pub largest_fields : LargestFinite F s (signed F s (infinity_word F - 1))
    largest_fields =
        let last : all_ones F ≡ suc (2 ^ F.w - 2) = omega (arith, four_exponents F ok) in
        let e : infinity_word F ≡ (2 ^ F.w - 2) * 2 ^ F.f + 2 ^ F.f = ap (λ (n : ℕ). n * 2 ^ F.f) last ∙ suc-mul (2 ^ F.w - 2) (2 ^ F.f) in
        let pos = pow_pos F.f in
        together F s (2 ^ F.w - 2) (2 ^ F.f - 1) (infinity_word F - 1) hs (omega (arith, pow_pos F.w)) (omega arith) (omega arith)

  -- what an overflow gives in each mode, by its direction
  pub overflow_fields : (mode s : ℕ) → mode ≤ most_mode → s < 2 → Overflow F mode s (signed F s (overflow_word F (direction mode s)))
  unfolding overflow_word direction
  overflow_fields zero s hm hs = infinity_fields s hs
  overflow_fields (suc zero) zero hm hs = largest_fields 0 hs
  overflow_fields (suc zero) (suc zero) hm hs = largest_fields 1 hs
  overflow_fields (suc (suc zero)) zero hm hs = infinity_fields 0 hs
  overflow_fields (suc (suc zero)) (suc zero) hm hs = largest_fields 1 hs
  overflow_fields (suc (suc (suc zero))) zero hm hs = largest_fields 0 hs
  overflow_fields (suc (suc (suc zero))) (suc zero) hm hs = infinity_fields 1 hs
  overflow_fields (suc (suc (suc (suc zero)))) s hm hs = infinity_fields s hs
  overflow_fields (suc (suc (suc (suc (suc m))))) s hm hs = absurd (omega arith)
  overflow_fields (suc zero) (suc (suc s)) hm hs = absurd (omega arith)
  overflow_fields (suc (suc zero)) (suc (suc s)) hm hs = absurd (omega arith)
  overflow_fields (suc (suc (suc zero))) (suc (suc s)) hm hs = absurd (omega arith)

-- and leaves one word
pub overflow_unique : (F : Format) (mode s : ℕ) {c d : ℕ} → c < 2 ^ word_bits F → d < 2 ^ word_bits F → Overflow F mode s c → Overflow F mode s d → c ≡ d
overflow_unique F zero s hc hd g h = fields_unique F hc hd g h
overflow_unique F (suc zero) s hc hd g h = fields_unique F hc hd g h
overflow_unique F (suc (suc zero)) zero hc hd g h = fields_unique F hc hd g h
overflow_unique F (suc (suc zero)) (suc s) hc hd g h = fields_unique F hc hd g h
overflow_unique F (suc (suc (suc zero))) zero hc hd g h = fields_unique F hc hd g h
overflow_unique F (suc (suc (suc zero))) (suc s) hc hd g h = fields_unique F hc hd g h
overflow_unique F (suc (suc (suc (suc zero)))) s hc hd g h = fields_unique F hc hd g h
overflow_unique F (suc (suc (suc (suc (suc m))))) s hc hd g h = absurd g
