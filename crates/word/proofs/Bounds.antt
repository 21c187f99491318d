-- Bounds that hold in every supported format. Assumes nothing.
use Rattle.std.proofs.Common.{◌≡◌, ℕ, ◌+◌, ◌%◌, ◌^◌, ◌<◌, ◌≤◌, sym, ◌∙◌, subst, lt_of_lt_of_le, mul-lt-mul_of_pos_right, mul-pos, arith, pow_pos, pow_mono, pow-add}
use Rattle.bits.proofs.Laws.{power_exact}
use Rattle.format.specs.declared.Format.{Format}
use Rattle.format.specs.Format.{Supported, word_bits}
use Rattle.format.proofs.Room.{word_room}
use Rattle.word.specs.Word.{infinity_word}

module _ (F : Format) (ok : Supported F) where
  -- the places of the fields lie in a 64-bit word
  pub place_bits : F.w + F.f ≤ 63
  place_bits = omega (arith, word_room F ok)

  pub place_power : 2 ^ (F.w + F.f) ≤ 2 ^ 63
  place_power = pow_mono place_bits

  -- and so does a word
  pub word_fits : {x : ℕ} → x < 2 ^ word_bits F → x < 2 ^ 64
  word_fits h = lt_of_lt_of_le h (pow_mono (word_room F ok))

  -- the powers that the code takes for the places
  pub sign_place : {p : ℕ} → p ≡ 2 ^ (F.w + F.f) % 2 ^ 64 → p ≡ 2 ^ (F.w + F.f)
  sign_place e = e ∙ power_exact (F.w + F.f) (omega (arith, place_bits))

  pub exponent_place : {p : ℕ} → p ≡ 2 ^ F.f % 2 ^ 64 → p ≡ 2 ^ F.f
  exponent_place e = e ∙ power_exact F.f (omega (arith, place_bits))

  pub exponents : {p : ℕ} → p ≡ 2 ^ F.w % 2 ^ 64 → p ≡ 2 ^ F.w
  exponents e = e ∙ power_exact F.w (omega (arith, place_bits))

  pub exponents_le : 2 ^ F.w ≤ 2 ^ 61
  exponents_le = pow_mono {i = F.w} {j = 61} (let f = ok.f_least in omega (arith, place_bits))

  pub four_exponents : 4 ≤ 2 ^ F.w
  four_exponents = pow_mono ok.w_least

  pub infinity_pos : 0 < infinity_word F
  infinity_pos = mul-pos (let h = four_exponents in omega arith) (pow_pos F.f)

  pub infinity_lt : infinity_word F < 2 ^ (F.w + F.f)
  infinity_lt =
      subst (λ (m : ℕ). infinity_word F < m) (sym (pow-add 2 F.w F.f))
      (mul-lt-mul_of_pos_right (let h = four_exponents in omega arith) (pow_pos F.f))
