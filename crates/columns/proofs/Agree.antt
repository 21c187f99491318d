-- Numbers that agree in their low i bits, and in one bit more. A mask is carried through the columns as such an agreement, of
-- `bit_and x care` and `value`. Assumes nothing.
use mathlib.Core.Path.{◌≡◌, sym, ap, ap₂, ◌∙◌, subst}
use mathlib.Core.Bool.{true}
use mathlib.Core.Logic.{◌↔◌, ⊎_elim}
use Prim.Native.Nat.{ℕ, zero, suc, ◌+◌, ◌*◌, ◌/◌, ◌%◌, ◌^◌, ◌<◌}
use native.Mathlib.Nat.{mod-lt, mod-one, mod-eq_of_lt, lt_of_le_of_lt, le_refl, le_trans, le-suc, le_of_suc-le-suc, not-suc-le-zero, eq-or-lt_of_le}
use borrow.Author.Tests.{eqb-true, eq-eqb}
use lib.Bits.{bit_and, and_mod, and_le_l}
use lib.Pow.{pow_pos, high, low}
use Rattle.bits.specs.Bit.{bit}
use Rattle.bits.proofs.Laws.{low_suc}
use Rattle.bits.proofs.Logic.{bit_of_and}
use Rattle.columns.specs.Column.{allows}

pub agree_zero : (x y : ℕ) → x % 2 ^ 0 ≡ y % 2 ^ 0
agree_zero x y = mod-one x ∙ sym (mod-one y)

-- agreement in i + 1 low bits is agreement in i low bits and in bit i
module _ (x y i : ℕ) where
  pub agree_join : x % 2 ^ i ≡ y % 2 ^ i → bit x i ≡ bit y i → x % 2 ^ suc i ≡ y % 2 ^ suc i
  agree_join p q = low_suc x i ∙ ap₂ (λ (b l : ℕ). b * 2 ^ i + l) q p ∙ sym (low_suc y i)

  same : x % 2 ^ suc i ≡ y % 2 ^ suc i → bit x i * 2 ^ i + x % 2 ^ i ≡ bit y i * 2 ^ i + y % 2 ^ i
  same e = sym (low_suc x i) ∙ e ∙ low_suc y i

  pub agree_low : x % 2 ^ suc i ≡ y % 2 ^ suc i → x % 2 ^ i ≡ y % 2 ^ i
  agree_low e =
      sym (low (bit x i) i (mod-lt x (pow_pos i))) ∙ ap (λ (u : ℕ). u % 2 ^ i) (same e) ∙ low (bit y i) i (mod-lt y (pow_pos i))

  pub agree_top : x % 2 ^ suc i ≡ y % 2 ^ suc i → bit x i ≡ bit y i
  agree_top e =
      sym (high (bit x i) i (mod-lt x (pow_pos i))) ∙ ap (λ (u : ℕ). u / 2 ^ i) (same e) ∙ high (bit y i) i (mod-lt y (pow_pos i))

  pub agree_suc : (x % 2 ^ suc i ≡ y % 2 ^ suc i) ↔ ((x % 2 ^ i ≡ y % 2 ^ i) × (bit x i ≡ bit y i))
  agree_suc = (λ e. (agree_low e, agree_top e), λ h. agree_join h.0 h.1)

-- x meets the mask (care, value) in its low i bits
abbrev pub MetLow : ℕ → ℕ → ℕ → ℕ → Type 0
MetLow care value x i = bit_and (x % 2 ^ i) (care % 2 ^ i) ≡ value % 2 ^ i

module _ (care value : ℕ) where
  pub met_zero : (x : ℕ) → MetLow care value x 0
  met_zero x = sym (and_mod x care 0) ∙ agree_zero (bit_and x care) value

  -- one column more: the bit agrees
  pub met_suc : (x i : ℕ) → MetLow care value x (suc i) ↔ (MetLow care value x i × (bit_and (bit x i) (bit care i) ≡ bit value i))
  met_suc x i =
      let e = agree_suc (bit_and x care) value i in (
        λ m.
            let h = e.0 (and_mod x care (suc i) ∙ m) in
            (sym (and_mod x care i) ∙ h.0, sym (bit_of_and x care i) ∙ h.1),
        λ m. sym (and_mod x care (suc i)) ∙ e.1 (and_mod x care i ∙ m.0, bit_of_and x care i ∙ m.1),
      )

  pub met_column : (x i : ℕ) → MetLow care value x (suc i) ↔ (MetLow care value x i × (allows care value i (bit x i) ≡ true))
  met_column x i =
      let e = met_suc x i in
      let test = bit_and (bit x i) (bit care i) in (
        λ m. ((e.0 m).0, eq-eqb test (bit value i) (e.0 m).1),
        λ m. e.1 (m.0, eqb-true test (bit value i) m.1),
      )

  -- every column so far
  pub met_bits : (x i : ℕ) → MetLow care value x i ↔ ((j : ℕ) → j < i → allows care value j (bit x j) ≡ true)
  met_bits x i = (there i, back i)
    where
      there : (i : ℕ) → MetLow care value x i → (j : ℕ) → j < i → allows care value j (bit x j) ≡ true
      there zero m j h = absurd (not-suc-le-zero h)
      there (suc i) m j h =
          let e = (met_column x i).0 m in
          ⊎_elim (λ q. subst (λ (k : ℕ). allows care value k (bit x k) ≡ true) (sym q) e.1) (λ l. there i e.0 j l)
          (eq-or-lt_of_le (le_of_suc-le-suc h))

      back : (i : ℕ) → ((j : ℕ) → j < i → allows care value j (bit x j) ≡ true) → MetLow care value x i
      back zero all = met_zero x
      back (suc i) all = (met_column x i).1 (back i (λ j h. all j (le_trans h (le-suc i))), all i (le_refl (suc i)))

  -- only the low part of x is read
  pub met_agree : (x y i : ℕ) → x % 2 ^ i ≡ y % 2 ^ i → MetLow care value x i → MetLow care value y i
  met_agree x y i e m = ap (λ (u : ℕ). bit_and u (care % 2 ^ i)) (sym e) ∙ m

  -- from its width on, a mask is met where its low part is
  pub met_whole : (x i : ℕ) → value < 2 ^ i → x < 2 ^ i → MetLow care value x i ↔ (bit_and x care ≡ value)
  met_whole x i hv hx = (
    λ m. sym (mod-eq_of_lt (lt_of_le_of_lt (and_le_l x care) hx)) ∙ and_mod x care i ∙ m ∙ mod-eq_of_lt hv,
    λ e. sym (and_mod x care i) ∙ ap (λ (u : ℕ). u % 2 ^ i) e,
  )
