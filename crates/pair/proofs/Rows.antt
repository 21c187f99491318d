-- The carry row of two finite numbers, of which x's has not the smaller exponent, from their aligned significands: by what carries from
-- column to column, or where it is reversed by the borrows of the difference the other way round. Assumes nothing.
use mathlib.Core.Path.{◌≡◌, refl, sym, ap, ap₂, ◌∙◌}
use mathlib.Core.Bool.{Bool, true, false, not, cond, ◌&&◌, and-eq-true_iff}
use mathlib.Core.Logic.{inl, inr}
use Prim.Native.Nat.{ℕ, suc, ◌+◌, ◌^◌, ◌≤◌, ◌<◌}
use native.Mathlib.Decide.{ℕ_discrete}
use native.Mathlib.Omega.{arith}
use package.borrow.Author.Tests.{eqb-true, eqb-false, eq-eqb, ne_eqb, not-true}
use lib.Dec.{eqb}
use Rattle.bits.specs.Bit.{bit}
use Rattle.format.specs.declared.Format.{Format}
use Rattle.format.specs.Format.{precision}
use Rattle.mask.specs.declared.Mask.{Mask}
use Rattle.word.specs.declared.Finite as record_of
use Rattle.word.specs.Word.{significand}
use Rattle.rounding.specs.Sticky.{head_at, tail_at}
use Rattle.rounding.proofs.Align.{tail_none}
use Rattle.adder.specs.Row.{finite_row}
use Rattle.adder.proofs.Aligned.{row_exchanged, row_lt, row_columns}
use Rattle.columns.specs.Carry.{borrow, carry_of}
use Rattle.making.specs.Making.{row_carry}
use Rattle.pair.specs.declared.Side.{Side}
use Rattle.pair.specs.Pair.{gap_of, reversed_of, aligned_of}

-- the finite number of a side and a fraction
abbrev pub number : Format → Side → ℕ → record_of.Finite
number F x t = record { sign = x.sign; exponent = x.exponent; significand = significand F.f x.exponent.0 t }

-- the row of the numbers X and Y of two sides, of which y is Y's: that of a comes first
abbrev pub row_from : Format → Side → record_of.Finite → record_of.Finite → ℕ
row_from F y X Y = cond y.lhs (finite_row F Y X) (finite_row F X Y)

-- where the row is reversed y is a, the exponents are equal and the signs unlike
pub reversed_parts : (x y : Side) → reversed_of x y ≡ true → (y.lhs ≡ true) × (x.exponent.0 ≡ y.exponent.0) × (eqb x.sign y.sign ≡ false)
reversed_parts x y e =
    let p = (and-eq-true_iff y.lhs (eqb x.exponent.0 y.exponent.0 && not (eqb x.sign y.sign))).0 e in
    let q = (and-eq-true_iff (eqb x.exponent.0 y.exponent.0) (not (eqb x.sign y.sign))).0 p.1 in
    (p.0, eqb-true x.exponent.0 y.exponent.0 q.0, not-true (eqb x.sign y.sign) q.1)

-- so with unlike fields no row is
pub forward_row : (x y : Side) → (x.exponent.0 ≡ y.exponent.0 → ⊥) → reversed_of x y ≡ false
forward_row x y n = go (reversed_of x y) refl
  where
    go : (t : Bool) → reversed_of x y ≡ t → t ≡ false
    go true e = absurd (n (reversed_parts x y e).1)
    go false e = refl

-- the row has p bits
pub row_from_lt : (F : Format) (y : Side) (X Y : record_of.Finite) → row_from F y X Y < 2 ^ precision F
row_from_lt F y X Y = go y.lhs
  where
    go : (t : Bool) → cond t (finite_row F Y X) (finite_row F X Y) < 2 ^ precision F
    go true = row_lt F Y X
    go false = row_lt F X Y

module _ (F : Format) (G : ℕ) (carries : Mask) (below : ℕ) (some : 0 < below) (x y : Side) (p q : ℕ) (le : y.exponent.0 ≤ x.exponent.0) (i : ℕ) (h : i < precision F) where
  abbrev H : ℕ
  H = head_at below (significand F.f x.exponent.0 p)

  abbrev T : ℕ
  T = tail_at below (significand F.f y.exponent.0 q) (gap_of x y)

  abbrev k : ℕ
  k = i + (1 + below)

  up : i + suc below ≡ i + (1 + below)
  up = omega arith

  -- x is L
  forward : bit (finite_row F (number F x p) (number F y q)) i ≡ carry_of (not (eqb x.sign y.sign)) H T k
  forward = row_columns F (number F x p) (number F y q) (omega (arith, le)) below some le i h ∙ ap (carry_of (not (eqb x.sign y.sign)) H T) up

  -- y is a, and the exponents are equal
  equal : x.exponent.0 ≡ y.exponent.0 → (t : Bool) → eqb x.sign y.sign ≡ t
      → bit (finite_row F (number F y q) (number F x p)) i ≡ cond (not t) (borrow T H 0 k) (carry_of (not t) H T k)
  equal e true s =
      ap (λ (n : ℕ). bit n i) (row_exchanged F (number F y q) (number F x p) (inr (sym (eqb-true x.sign y.sign s))))
      ∙ forward ∙ ap (λ (t : Bool). carry_of (not t) H T k) s
  equal e false s =
      row_columns F (number F y q) (number F x p) (omega (arith, e)) below some (omega (arith, e)) i h
      ∙ ap (carry_of (not (eqb y.sign x.sign)) (head_at below (number F y q).significand) (tail_at below (number F x p).significand (gap_of y x))) up
      ∙ ap (λ (t : Bool). carry_of (not t) (head_at below (number F y q).significand) (tail_at below (number F x p).significand (gap_of y x)) k) (ne_eqb y.sign x.sign (λ n. eqb-false x.sign y.sign s (sym n)))
      ∙ ap₂ (λ (l r : ℕ). borrow l r 0 k)
      (sym (ap (tail_at below (number F y q).significand) none_x ∙ tail_none below some (number F y q).significand))
      (ap (tail_at below (number F x p).significand) none_y ∙ tail_none below some (number F x p).significand)
    where
      none_x : gap_of x y ≡ 0
      none_x = omega (arith, e)

      none_y : gap_of y x ≡ 0
      none_y = omega (arith, e)

  -- the row's bit i is the carry of the aligned significands above the bits below them
  pub made_row : bit (row_from F y (number F x p) (number F y q)) i ≡ row_carry (aligned_of F G carries x y) H T k
  made_row = go y.lhs refl (ℕ_discrete x.exponent.0 y.exponent.0)
    where
      go : (t : Bool) → y.lhs ≡ t → Dec (x.exponent.0 ≡ y.exponent.0)
          → bit (cond y.lhs (finite_row F (number F y q) (number F x p)) (finite_row F (number F x p) (number F y q))) i
          ≡ cond (y.lhs && (eqb x.exponent.0 y.exponent.0 && not (eqb x.sign y.sign))) (borrow T H 0 k) (carry_of (not (eqb x.sign y.sign)) H T k)
      go false b e = rw b forward
      go true a (no n) =
          rw (a, ne_eqb x.exponent.0 y.exponent.0 n)
          (ap (λ (m : ℕ). bit m i) (row_exchanged F (number F y q) (number F x p) (inl (λ e. n (sym e)))) ∙ forward)
      go true a (yes e) = rw (a, eq-eqb x.exponent.0 y.exponent.0 e) (equal e (eqb x.sign y.sign) refl)
