-- The rank by which words are compared (document 02, W-207) is the order of the numbers that they stand for, in smallest steps and with their
-- signs; infinities lie at the ends. Assumes nothing.
use mathlib.Core.Bool.{false}
use mathlib.Core.Logic.{◌↔◌}
use mathlib.Core.Path.{◌≡◌, refl, sym, subst}
use Prim.Native.Nat.{ℕ, zero, suc, ◌+◌, ◌^◌, ◌≤◌}
use native.Mathlib.Nat.{zero-div, zero-mod}
use native.Mathlib.Omega.{arith}
use lib.Signed.{◌≤ℤ◌}
use Rattle.format.specs.declared.Format.{Format}
use Rattle.mask.proofs.Bitwise.{bit_case}
use Rattle.word.specs.Word.{sign, significand, infinity_word}
use Rattle.word.specs.Operand.{finite_of, magnitude}
use Rattle.bounds.specs.Bounds.{unsigned, is_nan, rank}
use Rattle.bounds.proofs.Ranks.{unsigned_lt, rank_positive, rank_negative, rank_number}
use Rattle.standard.specs.Representable.{magnitude_of}
use Rattle.standard.specs.Number.{signed_number, number}
use Rattle.standard.proofs.Integers.{like_order, unlike_below, unlike_not_above}
use Rattle.standard.proofs.Magnitudes.{word_order_le}
use Rattle.standard.proofs.Words.{word_magnitude}

-- numbers of unlike sign: the negative one is the smaller, but for zeros
negative_le : (a b : ℕ) → signed_number 1 a ≤ℤ signed_number 0 b
negative_le zero b = (like_order 0 0 b).1 (omega arith)
negative_le (suc a) b = unlike_below 0 a b

positive_le : (a b : ℕ) → (signed_number 0 a ≤ℤ signed_number 1 b) ↔ ((a ≡ 0) × (b ≡ 0))
positive_le a zero = (
  (λ h. (let l = (like_order 0 a 0).0 h in omega (arith, l), refl)),
  λ e. (like_order 0 a 0).1 (omega (arith, e.0)),
)
positive_le a (suc b) = ((λ h. absurd (unlike_not_above 0 b a h)), λ e. absurd (omega (arith, e.1)))

module _ (F : Format) where
  zero_magnitude : magnitude_of F 0 ≡ 0
  unfolding significand
  zero_magnitude = rw (zero-div (2 ^ F.f), zero-mod (2 ^ F.f))

  module _ (x y : ℕ) where
    abbrev X : ℕ
    X = magnitude (finite_of F x)

    abbrev Y : ℕ
    Y = magnitude (finite_of F y)

    -- words without their signs are ordered as magnitudes, and 0 is that of the word 0
    order : (a b : ℕ) → (unsigned F a ≤ unsigned F b) ↔ (magnitude (finite_of F a) ≤ magnitude (finite_of F b))
    order a b = rw (word_magnitude F a, word_magnitude F b) (word_order_le F (unsigned F a) (unsigned F b))

    zeros : (a : ℕ) → (unsigned F a ≡ 0) ↔ (magnitude (finite_of F a) ≡ 0)
    zeros a =
        let m = word_magnitude F a in
        let law = word_order_le F (unsigned F a) 0 in
        let z = zero_magnitude in (
          (λ e. let l = law.0 (omega (arith, e)) in omega (arith, m, l, z)),
          λ e. let l = law.1 (omega (arith, m, e, z)) in omega (arith, l),
        )

    pub rank_order : (rank F x ≤ rank F y) ↔ (number F x ≤ℤ number F y)
    rank_order = bit_case x (F.w + F.f) (λ e. bit_case y (F.w + F.f) (both e) (x_positive e)) (λ e. bit_case y (F.w + F.f) (x_negative e) (neither e))
      where
        law : ℕ → ℕ → Type 0
        law s t = (rank F x ≤ rank F y) ↔ (signed_number s X ≤ℤ signed_number t Y)

        back : (s t : ℕ) → sign F x ≡ s → sign F y ≡ t → law s t → law (sign F x) (sign F y)
        back s t e f h = subst (λ (u : ℕ). law u (sign F y)) (sym e) (subst (law s) (sym f) h)

        both : sign F x ≡ 0 → sign F y ≡ 0 → law (sign F x) (sign F y)
        both e f =
            let p = rank_positive F x e in
            let q = rank_positive F y f in
            let o = order x y in
            let l = like_order 0 X Y in
            back 0 0 e f ((λ h. l.1 (o.0 (omega (arith, p, q, h)))), λ h. let g = o.1 (l.0 h) in omega (arith, p, q, g))

        neither : sign F x ≡ 1 → sign F y ≡ 1 → law (sign F x) (sign F y)
        neither e f =
            let p = rank_negative F x e in
            let q = rank_negative F y f in
            let a = unsigned_lt F x in
            let b = unsigned_lt F y in
            let o = order y x in
            let l = like_order 1 Y X in
            back 1 1 e f ((λ h. l.1 (o.0 (omega (arith, p, q, a, b, h)))), λ h. let g = o.1 (l.0 h) in omega (arith, p, q, g))

        x_positive : sign F x ≡ 0 → sign F y ≡ 1 → law (sign F x) (sign F y)
        x_positive e f =
            let p = rank_positive F x e in
            let q = rank_negative F y f in
            let b = unsigned_lt F y in
            let l = positive_le X Y in
            back 0 1 e f (
              (λ h. l.1 ((zeros x).0 (omega (arith, p, q, b, h)), (zeros y).0 (omega (arith, p, q, b, h)))),
              λ h.
                  let z = l.0 h in
                  let u = (zeros x).1 z.0 in
                  let v = (zeros y).1 z.1 in
                  omega (arith, p, q, u, v),
            )

        x_negative : sign F x ≡ 1 → sign F y ≡ 0 → law (sign F x) (sign F y)
        x_negative e f =
            let p = rank_negative F x e in
            let q = rank_positive F y f in
            back 1 0 e f ((λ h. negative_le X Y), λ h. omega (arith, p, q))

  -- every number lies between the infinities
  pub infinities_at_ends : (x lowest highest : ℕ) → is_nan F x ≡ false → sign F lowest ≡ 1 → unsigned F lowest ≡ infinity_word F → sign F highest ≡ 0 → unsigned F highest ≡ infinity_word F
      → (rank F lowest ≤ rank F x) × (rank F x ≤ rank F highest)
  infinities_at_ends x lowest highest n ls lm hs hm =
      let r = rank_number F x n in
      let l = rank_negative F lowest ls in
      let h = rank_positive F highest hs in
      (omega (arith, r.0, l, lm), omega (arith, r.1, h, hm))
