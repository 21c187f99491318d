-- A word is put together from its sign, its exponent field and its fraction, and these are the fields of the word so made.
-- Subtracting turns the sign of b and nothing else. Assumes nothing.
use Rattle.std.proofs.Common.{◌≡◌, ℕ, ◌+◌, ◌*◌, ◌/◌, ◌%◌, ◌^◌, ◌<◌, sym, ap, ◌∙◌, subst, ap₂, add-zero, mod-lt, mod-eq_of_lt, add_comm, zero-mul, arith, pow_pos, pow-add}
use native.Mathlib.Nat.{mul-add-div_right, mul-add-mod_self_right}
use lib.Arith.{digits_lt}
use lib.Pow.{split, high, low, mod-pow-add, field, mod-mod-pow, shr_mod}
use Rattle.format.specs.declared.Format.{Format}
use Rattle.format.specs.Format.{word_bits}
use Rattle.word.specs.Word.{fraction, biased, sign, signed, effective}

-- the exponent field of a word has w bits
pub biased_lt : (F : Format) (x : ℕ) → (biased F x).0 < 2 ^ F.w
biased_lt F x = mod-lt (x / 2 ^ F.f) (pow_pos F.w)

-- the fields of a sign and the word of a magnitude
module _ (F : Format) (s m : ℕ) (hs : s < 2) (hm : m < 2 ^ (F.w + F.f)) where
  pub signed_sign : sign F (signed F s m) ≡ s
  signed_sign = ap (λ (n : ℕ). n % 2) (high s (F.w + F.f) hm) ∙ mod-eq_of_lt hs

  pub signed_biased : (biased F (signed F s m)).0 ≡ m / 2 ^ F.f
  signed_biased = sym (field (signed F s m) F.w F.f) ∙ ap (λ (n : ℕ). n / 2 ^ F.f) (low s (F.w + F.f) hm)

  pub signed_fraction : fraction F (signed F s m) ≡ m % 2 ^ F.f
  signed_fraction = sym (mod-mod-pow (signed F s m) F.w F.f) ∙ ap (λ (n : ℕ). n % 2 ^ F.f) (low s (F.w + F.f) hm)

-- a sign and a magnitude word make a word of the format
pub signed_lt : (F : Format) (s m : ℕ) → s < 2 → m < 2 ^ (F.w + F.f) → signed F s m < 2 ^ word_bits F
signed_lt F s m hs hm =
    let p = pow-add 2 (F.w + F.f) 1 in
    let q = native.Mathlib.Nat.mul-le-mul_right {m = s} {n = 1} (2 ^ (F.w + F.f)) (omega arith) in
    omega (arith, native.Mathlib.Nat.one-mul (2 ^ (F.w + F.f)))

-- the word of a magnitude from an exponent field and a fraction
pub together_lt : (F : Format) (e t : ℕ) → e < 2 ^ F.w → t < 2 ^ F.f → e * 2 ^ F.f + t < 2 ^ (F.w + F.f)
together_lt F e t he ht = subst (λ (n : ℕ). e * 2 ^ F.f + t < n) (sym (pow-add 2 F.w F.f)) (digits_lt he ht)

-- the fields of a word put together from fields are these
module _ (F : Format) (s e t : ℕ) (hs : s < 2) (he : e < 2 ^ F.w) (ht : t < 2 ^ F.f) where
  pub together_sign : sign F (signed F s (e * 2 ^ F.f + t)) ≡ s
  together_sign = signed_sign F s (e * 2 ^ F.f + t) hs (together_lt F e t he ht)

  pub together_biased : (biased F (signed F s (e * 2 ^ F.f + t))).0 ≡ e
  together_biased = signed_biased F s (e * 2 ^ F.f + t) hs (together_lt F e t he ht) ∙ high e F.f ht

  pub together_fraction : fraction F (signed F s (e * 2 ^ F.f + t)) ≡ t
  together_fraction = signed_fraction F s (e * 2 ^ F.f + t) hs (together_lt F e t he ht) ∙ low e F.f ht

-- the exponent field and the fraction are the word without its sign
pub biased_fraction : (F : Format) (x : ℕ) → (biased F x).0 * 2 ^ F.f + fraction F x ≡ x % 2 ^ (F.w + F.f)
biased_fraction F x = sym (mod-pow-add x F.w F.f)

-- the sign bit of a word is all that it has above
pub sign_high : (F : Format) (x : ℕ) → x < 2 ^ word_bits F → sign F x ≡ x / 2 ^ (F.w + F.f)
sign_high F x h = shr_mod 1 (F.w + F.f) (subst (λ (n : ℕ). x < 2 ^ n) (add_comm (F.w + F.f) 1) h)

-- every word is put together from its fields
pub word_together : (F : Format) (x : ℕ) → x < 2 ^ word_bits F → x ≡ signed F (sign F x) ((biased F x).0 * 2 ^ F.f + fraction F x)
word_together F x h = sym (ap₂ (λ (s m : ℕ). s * 2 ^ (F.w + F.f) + m) (sign_high F x h) (biased_fraction F x) ∙ split x (F.w + F.f))

-- words with the same fields are the same
pub word_by_fields : (F : Format) {x y : ℕ} → x < 2 ^ word_bits F → y < 2 ^ word_bits F
    → sign F x ≡ sign F y → (biased F x).0 ≡ (biased F y).0 → fraction F x ≡ fraction F y → x ≡ y
word_by_fields F {x} {y} hx hy s e t = word_together F x hx ∙ ap₂ (signed F) s (ap₂ (λ (m n : ℕ). m * 2 ^ F.f + n) e t) ∙ sym (word_together F y hy)

-- subtracting turns the sign of b, and b keeps its exponent field and its fraction
module _ (F : Format) (operation b : ℕ) where
  pub effective_signed : effective F operation b ≡ signed F ((sign F b + operation) % 2) (b % 2 ^ (F.w + F.f))
  effective_signed =
      ap (λ (n : ℕ). (b + operation * S) % 2 ^ n) (add_comm (F.w + F.f) 1) ∙ mod-pow-add (b + operation * S) 1 (F.w + F.f)
      ∙ ap (λ (n : ℕ). n % 2 * S + (b + operation * S) % S) quotient
      ∙ ap₂ (λ (q r : ℕ). q * S + r) parity (ap (λ (n : ℕ). n % S) (add_comm b (operation * S)) ∙ mul-add-mod_self_right operation S b)
    where
      S : ℕ
      S = 2 ^ (F.w + F.f)

      quotient : (b + operation * S) / S ≡ operation + b / S
      quotient = ap (λ (n : ℕ). n / S) (add_comm b (operation * S)) ∙ mul-add-div_right (pow_pos (F.w + F.f)) operation b

      parity : (operation + b / S) % 2 ≡ (b / S % 2 + operation) % 2
      parity = omega arith

  low_lt : b % 2 ^ (F.w + F.f) < 2 ^ (F.w + F.f)
  low_lt = mod-lt b (pow_pos (F.w + F.f))

  sign_lt : (sign F b + operation) % 2 < 2
  sign_lt = mod-lt (sign F b + operation) (omega arith)

  pub effective_sign_lem : sign F (effective F operation b) ≡ (sign F b + operation) % 2
  effective_sign_lem = ap (sign F) effective_signed ∙ signed_sign F ((sign F b + operation) % 2) (b % 2 ^ (F.w + F.f)) sign_lt low_lt

  pub effective_biased : (biased F (effective F operation b)).0 ≡ (biased F b).0
  effective_biased =
      ap (λ (n : ℕ). (biased F n).0) effective_signed
      ∙ signed_biased F ((sign F b + operation) % 2) (b % 2 ^ (F.w + F.f)) sign_lt low_lt ∙ field b F.w F.f

  pub effective_fraction : fraction F (effective F operation b) ≡ fraction F b
  effective_fraction =
      ap (fraction F) effective_signed ∙ signed_fraction F ((sign F b + operation) % 2) (b % 2 ^ (F.w + F.f)) sign_lt low_lt
      ∙ mod-mod-pow b F.w F.f

-- adding leaves b as it is
pub effective_add : (F : Format) (b : ℕ) → b < 2 ^ word_bits F → effective F 0 b ≡ b
effective_add F b h = ap (λ (n : ℕ). (b + n) % 2 ^ word_bits F) (zero-mul (2 ^ (F.w + F.f))) ∙ ap (λ (n : ℕ). n % 2 ^ word_bits F) (add-zero b) ∙ mod-eq_of_lt h
