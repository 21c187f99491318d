-- The rank of a word by its sign and its other bits, and where the ranks of numbers lie. Assumes nothing.
use mathlib.Core.Path.{◌≡◌, refl, ap}
use mathlib.Core.Bool.{true, false}
use mathlib.Core.Logic.{◌↔◌}
use Prim.Native.Nat.{ℕ, suc, ◌+◌, ◌-◌, ◌*◌, ◌^◌, ◌≤◌, ◌<◌}
use native.Mathlib.Decide.{ℕ_discrete}
use native.Mathlib.Nat.{mod-lt, mul-le-mul_right, suc-mul}
use native.Mathlib.Omega.{arith}
use borrow.Author.Tests.{ltb-true, ltb-false, lt-ltb, le-ltb, eq-eqb, ne_eqb}
use lib.Pow.{pow_pos}
use Rattle.format.specs.declared.Format.{Format}
use Rattle.mask.proofs.Bitwise.{bit_case}
use Rattle.word.specs.declared.Operand.TheVariants.{Nan}
use Rattle.word.specs.Word.{sign, fraction, biased, all_ones, infinity_word}
use Rattle.word.specs.Operand.{operand_of}
use Rattle.word.proofs.Fields.{biased_lt, biased_fraction}
use Rattle.bounds.specs.declared.Ends.{Ends}
use Rattle.bounds.specs.Bounds.{unsigned, is_nan, rank, LiesBetween, ValidEnds}

module _ (F : Format) (x : ℕ) where
  pub unsigned_lt : unsigned F x < 2 ^ (F.w + F.f)
  unsigned_lt = mod-lt x (pow_pos (F.w + F.f))

  pub rank_positive : sign F x ≡ 0 → rank F x ≡ 2 ^ (F.w + F.f) + unsigned F x
  unfolding rank
  rank_positive e = rw (eq-eqb (sign F x) 0 e)

  pub rank_negative : sign F x ≡ 1 → rank F x ≡ 2 ^ (F.w + F.f) - unsigned F x
  unfolding rank
  rank_negative e = rw (ne_eqb (sign F x) 0 (λ z. omega (arith, e, z)))

  -- that of a number is no further from zero's than infinity's
  pub rank_number : is_nan F x ≡ false → (2 ^ (F.w + F.f) ≤ rank F x + infinity_word F) × (rank F x ≤ 2 ^ (F.w + F.f) + infinity_word F)
  rank_number n =
      let m = ltb-false (infinity_word F) (unsigned F x) n in
      bit_case x (F.w + F.f)
      (λ e. let r = rank_positive e in (omega (arith, r, m), omega (arith, r, m)))
      (λ e. let r = rank_negative e in (omega (arith, r, m), omega (arith, r, m)))

  -- and only numbers have such ranks
  number_rank : 2 ^ (F.w + F.f) ≤ rank F x + infinity_word F → rank F x ≤ 2 ^ (F.w + F.f) + infinity_word F → is_nan F x ≡ false
  number_rank above below =
      bit_case x (F.w + F.f)
      (λ e. le-ltb (infinity_word F) (unsigned F x) (let r = rank_positive e in omega (arith, r)))
      (λ e. le-ltb (infinity_word F) (unsigned F x) (let r = rank_negative e in let l = unsigned_lt in omega (arith, r, l)))

-- a NaN is what the kinds of operands say
pub nan_operand : (F : Format) (x : ℕ) → (is_nan F x ≡ true) ↔ (operand_of F x ≡ Nan)
unfolding operand_of
nan_operand F x = go (ℕ_discrete (biased F x).0 (all_ones F)) (ℕ_discrete (fraction F x) 0)
  where
    parts : (biased F x).0 * 2 ^ F.f + fraction F x ≡ unsigned F x
    parts = biased_fraction F x

    top : (biased F x).0 < 2 ^ F.w
    top = biased_lt F x

    rest : fraction F x < 2 ^ F.f
    rest = mod-lt x (pow_pos F.f)

    infinite : (biased F x).0 ≡ all_ones F → (biased F x).0 * 2 ^ F.f ≡ infinity_word F
    infinite e = ap (λ (n : ℕ). n * 2 ^ F.f) e

    go : Dec ((biased F x).0 ≡ all_ones F) → Dec (fraction F x ≡ 0) → (is_nan F x ≡ true) ↔ (operand_of F x ≡ Nan)
    go (no n) d =
        let l = mul-le-mul_right {m = suc (biased F x).0} {n = all_ones F} (2 ^ F.f) (omega (arith, top, n)) in
        let s = suc-mul (biased F x).0 (2 ^ F.f) in
        rw (ne_eqb (biased F x).0 (all_ones F) n)
        ((λ e. let h = ltb-true (infinity_word F) (unsigned F x) e in absurd (omega (arith, h, l, s, parts, rest))), λ e. let z : ◌≡◌ {A = ℕ} 0 1 = cc in absurd (omega (arith, z)))
    go (yes e) (yes z) =
        let i = infinite e in
        rw (eq-eqb (biased F x).0 (all_ones F) e, eq-eqb (fraction F x) 0 z)
        ((λ h. let l = ltb-true (infinity_word F) (unsigned F x) h in absurd (omega (arith, l, i, parts, z))), λ q. let w : ◌≡◌ {A = ℕ} 0 1 = cc in absurd (omega (arith, w)))
    go (yes e) (no n) =
        let i = infinite e in
        rw (eq-eqb (biased F x).0 (all_ones F) e, ne_eqb (fraction F x) 0 n)
        ((λ h. refl), λ q. lt-ltb (infinity_word F) (unsigned F x) (omega (arith, i, parts, n)))

-- so between two numbers lie only numbers, and the ranks alone decide
pub between_ranks : (F : Format) (x : ℕ) (e : Ends) → ValidEnds F e → rank F e.low ≤ rank F x → rank F x ≤ rank F e.high → LiesBetween F x e
between_ranks F x e v l h =
    let low = (rank_number F e.low v.low_number).0 in
    let high = (rank_number F e.high v.high_number).1 in
    record { number = number_rank F x (omega (arith, low)) (omega (arith, high)); above = l; below = h }
