-- Operands of a format are canonical, and canonical magnitudes are ordered as their exponents and then their significands are.
-- Assumes nothing.
use Rattle.std.proofs.Common.{◌≡◌, ℕ, zero, suc, ◌+◌, ◌-◌, ◌*◌, ◌/◌, ◌^◌, ◌<◌, ◌≤◌, cond, eqb, ltb, sym, refl, ap, ◌∙◌, subst, lt_of_lt_of_le, mul-le-mul_right, mod-lt, arith, pow_pos, pow_mono, pow-add, shl_lt, eq-eqb, ne_eqb}
use native.Mathlib.Decide.{dec_lt, ℕ_discrete}
use Rattle.format.specs.declared.Format.{Format}
use Rattle.format.specs.Format.{precision}
use Rattle.word.specs.declared.Finite as record_of
use Rattle.word.specs.declared.Unit as exponent
use Rattle.word.specs.declared.Operand.TheVariants.{Finite, Infinite, Nan}
use Rattle.word.specs.Word.{fraction, biased, sign, unit_of, significand, all_ones}
use Rattle.word.specs.Operand.{finite_of, operand_of, magnitude, Canonical, Sound}
use Rattle.bits.proofs.Division.{ltb_scale}
use Rattle.word.proofs.Fields.{biased_lt}

-- a significand has p bits, and its top bit stands exactly where e is not 0
pub significand_bounds : (f e t : ℕ) → t < 2 ^ f → (significand f e t < 2 ^ (f + 1)) × (e ≡ 0 → significand f e t < 2 ^ f) × (0 < e → 2 ^ f ≤ significand f e t)
unfolding significand
significand_bounds f zero t h = let p = pow-add 2 f 1 in (omega arith, λ z. h, λ l. absurd (omega arith))
significand_bounds f (suc e) t h = let p = pow-add 2 f 1 in (omega arith, λ z. absurd (omega arith), λ l. omega arith)

-- a word whose exponent field is not all ones stands for a canonical number
pub finite_canonical : (F : Format) (x : ℕ) → ((biased F x).0 ≡ all_ones F → ⊥) → Canonical F (finite_of F x)
finite_canonical F x ne =
    let e = biased_lt F x in
    let b = significand_bounds F.f (biased F x).0 (fraction F x) (mod-lt x (pow_pos F.f)) in
    record {
      sign_lt = mod-lt (x / 2 ^ (F.w + F.f)) (omega arith);
      exponent_lt = omega (arith, ne);
      significand_lt = b.0;
      subnormal = b.1;
      normal = b.2;
    }

-- a word whose exponent field is not all ones is finite
pub operand_finite : (F : Format) (x : ℕ) → ((biased F x).0 ≡ all_ones F → ⊥) → operand_of F x ≡ Finite (finite_of F x)
unfolding operand_of
operand_finite F x ne = rw (ne_eqb _ _ ne)

-- operands are sound
pub operand_sound : (F : Format) (x : ℕ) → Sound F (operand_of F x)
unfolding operand_of
operand_sound F x = go (ℕ_discrete (biased F x).0 (all_ones F)) (ℕ_discrete (fraction F x) 0)
  where
    go : Dec ((biased F x).0 ≡ all_ones F) → Dec (fraction F x ≡ 0)
        → Sound F (cond (eqb (biased F x).0 (all_ones F)) (cond (eqb (fraction F x) 0) (Infinite (sign F x)) Nan) (Finite (finite_of F x)))
    go (yes e) (yes t) = rw (eq-eqb _ _ e, eq-eqb _ _ t) (mod-lt (x / 2 ^ (F.w + F.f)) (omega arith))
    go (yes e) (no t) = rw (eq-eqb _ _ e, ne_eqb _ _ t) tt
    go (no e) t = rw (ne_eqb _ _ e) (finite_canonical F x e)

module _ (F : Format) (x y : record_of.Finite) (cx : Canonical F x) (cy : Canonical F y) where
  -- the larger exponent has the larger magnitude
  pub magnitude_lt : x.exponent.0 < y.exponent.0 → magnitude x < magnitude y
  magnitude_lt h = lt_of_lt_of_le (upper x.exponent.0 refl) lower
    where
      P : ℕ
      P = 2 ^ (F.f + (unit_of y.exponent).0)

      upper : (e : ℕ) → x.exponent.0 ≡ e → magnitude x < P
      upper zero z =
          lt_of_lt_of_le (shl_lt F.f (unit_of x.exponent).0 (cx.subnormal z))
          (pow_mono {i = F.f + (unit_of x.exponent).0} {j = F.f + (unit_of y.exponent).0} (omega arith))
      upper (suc e) z =
          lt_of_lt_of_le (shl_lt (precision F) (unit_of x.exponent).0 cx.significand_lt)
          (pow_mono {i = precision F + (unit_of x.exponent).0} {j = F.f + (unit_of y.exponent).0} (omega arith))

      lower : P ≤ magnitude y
      lower =
          subst (λ (n : ℕ). n ≤ magnitude y) (sym (pow-add 2 F.f (unit_of y.exponent).0))
          (mul-le-mul_right (2 ^ (unit_of y.exponent).0) (cy.normal (omega arith)))

  -- equal exponents: the larger significand
  pub magnitude_same : x.exponent.0 ≡ y.exponent.0 → ltb (magnitude x) (magnitude y) ≡ ltb x.significand y.significand
  magnitude_same e =
      ap (λ (n : ℕ). ltb (x.significand * 2 ^ (n - 1)) (magnitude y)) e
      ∙ ltb_scale (2 ^ (unit_of y.exponent).0) (pow_pos (unit_of y.exponent).0) x.significand y.significand

-- a number that is not the larger has not the larger exponent
pub exponent_le : (F : Format) (l r : record_of.Finite) → Canonical F l → Canonical F r → magnitude r ≤ magnitude l → r.exponent.0 ≤ l.exponent.0
exponent_le F l r cl cr h = go (dec_lt l.exponent.0 r.exponent.0)
  where
    go : Dec (l.exponent.0 < r.exponent.0) → r.exponent.0 ≤ l.exponent.0
    go (yes e) = absurd (native.Mathlib.Nat.not-le_of_lt (magnitude_lt F l r cl cr e) h)
    go (no e) = omega arith

-- nor the larger unit, as the code holds it
pub gap_le : (F : Format) (l r : record_of.Finite) → Canonical F l → Canonical F r → magnitude r ≤ magnitude l
    → (p q : exponent.Unit) → p ≡ unit_of l.exponent → q ≡ unit_of r.exponent → q.0 ≤ p.0
gap_le F l r cl cr le p q ep eq =
    let up : p.0 ≡ (unit_of l.exponent).0 = ap (λ (n : exponent.Unit). n.0) ep in
    let vq : q.0 ≡ (unit_of r.exponent).0 = ap (λ (n : exponent.Unit). n.0) eq in
    omega (arith, exponent_le F l r cl cr le)
