-- What the adder publishes beside its contracts: c, the carry row and the dropped bits of two finite words, from their fields and from
-- their aligned significands. Of operands x and y, y's unit not above x's, H is x's significand with some bits below it, and T is y's aligned to it: c
-- and the dropped bits come from them with bits enough, where y is not the larger or the signs are like; the row with any number of bits,
-- where x is a and y has not the larger exponent. The search cites these laws and no other of the adder. Assumes nothing.
use Rattle.std.specs.Prelude.{Some, None}
use mathlib.Core.Path.{◌≡◌, refl, sym, ap, ap₂, ◌∙◌}
use mathlib.Core.Bool.{Bool, true, false, not, cond}
use mathlib.Core.Logic.{◌⊎◌, inl, inr, ◌↔◌}
use Prim.Native.Nat.{ℕ, suc, ◌+◌, ◌-◌, ◌%◌, ◌^◌, ◌≤◌, ◌<◌}
use native.Mathlib.Nat.{le_of_lt}
use native.Mathlib.Decide.{dec_lt, ℕ_discrete}
use native.Mathlib.Omega.{arith}
use borrow.Author.Tests.{le-ltb, eq-eqb, ne_eqb}
use lib.Dec.{eqb, ltb}
use lib.Pow.{pow_pos}
use Rattle.bits.specs.Bit.{bit}
use Rattle.format.specs.declared.Format.{Format}
use Rattle.format.specs.Format.{Supported, precision}
use Rattle.word.specs.declared.Finite as record_of
use Rattle.word.specs.Word.{fraction, biased, sign, unit_of, effective, all_ones, significand}
use Rattle.word.specs.Operand.{finite_of, magnitude, Canonical}
use Rattle.rounding.specs.Sticky.{head_at, tail_at, Held}
use Rattle.rounding.specs.Width.{sum_bits}
use Rattle.adder.specs.Row.{carry_in, carry_at, finite_row, kind_row, row_of}
use Rattle.adder.specs.Result.{finite_sum, kind_sum, result_of}
use Rattle.adder.specs.Exact.{exact_magnitude}
use Rattle.adder.specs.Below.{magnitude_below, finite_below, kind_below, below_of}
use Rattle.rounding.proofs.Outcome.{outcome_held}
use Rattle.rounding.proofs.Held.{Guards, held_pos}
use Rattle.rounding.proofs.Dropped.{dropped_held, normal_held}
use Rattle.rounding.proofs.Align as align
use Rattle.word.proofs.Canonical.{operand_finite}
use Rattle.word.proofs.Fields.{effective_sign_lem, effective_biased, effective_fraction}
use Rattle.adder.proofs.FiniteSum.{sum_like, sum_unlike, sum_cancelled, finite_sum_comm}
use Rattle.adder.proofs.RowBit.{row_bit}
use Rattle.adder.proofs.RowLaws.{gather_bit, finite_row_lt, finite_row_comm}
use Rattle.columns.specs.Carry.{combined, carry_of}
use Rattle.rounding.specs.Dropped.{dropped_word}
use Rattle.rounding.specs.Outcome.{outcome, NormalAt}
use Rattle.adder.proofs.BelowLaws.{normal_below, small_below, below_comm}
use Rattle.adder.proofs.AlignedTail.{tail_whole, tail_sticky}
use Rattle.adder.proofs.AlignedColumns.{flag, column_carry}

-- ---- c and the row of two finite words, from their fields

-- an operand with the sign that subtracting turns it to
abbrev pub turned_of : Format → ℕ → ℕ → record_of.Finite
turned_of F operation b = record { sign = (sign F b + operation) % 2; exponent = biased F b; significand = (finite_of F b).significand }

module _ (F : Format) (operation mode a b : ℕ) (na : (biased F a).0 ≡ all_ones F → ⊥) (nb : (biased F b).0 ≡ all_ones F → ⊥) where
  ne : (biased F (effective F operation b)).0 ≡ all_ones F → ⊥
  ne q = nb (sym (effective_biased F operation b) ∙ q)

  effective_finite : finite_of F (effective F operation b) ≡ turned_of F operation b
  effective_finite =
      ap₂ (λ (s e : ℕ). record { sign = s; exponent = record { 0 = e }; significand = significand F.f e (fraction F (effective F operation b)) }) (effective_sign_lem F operation b) (effective_biased F operation b)
      ∙ ap (λ (t : ℕ). record { sign = (sign F b + operation) % 2; exponent = biased F b; significand = significand F.f (biased F b).0 t }) (effective_fraction F operation b)

  pub result_finite : result_of F operation mode a b ≡ finite_sum F mode (finite_of F a) (turned_of F operation b)
  unfolding result_of kind_sum
  result_finite =
      ap₂ (kind_sum F mode) (operand_finite F a na) (operand_finite F (effective F operation b) ne) ∙ ap (finite_sum F mode (finite_of F a)) effective_finite

  pub row_finite : row_of F operation a b ≡ Some (finite_row F (finite_of F a) (turned_of F operation b))
  unfolding row_of kind_row
  row_finite =
      ap₂ (kind_row F) (operand_finite F a na) (operand_finite F (effective F operation b) ne)
      ∙ ap (λ (y : record_of.Finite). Some (finite_row F (finite_of F a) y)) effective_finite

  pub below_finite : (g : ℕ) → below_of F operation g a b ≡ finite_below F g (finite_of F a) (turned_of F operation b)
  unfolding below_of kind_below
  below_finite g =
      ap₂ (kind_below F g) (operand_finite F a na) (operand_finite F (effective F operation b) ne)
      ∙ ap (finite_below F g (finite_of F a)) effective_finite

-- which of them is a does not matter for c and the dropped bits, nor for the row where the exponents are unlike or the signs like; the row
-- has p bits
pub sum_exchanged : (F : Format) (mode : ℕ) (x y : record_of.Finite) → finite_sum F mode x y ≡ finite_sum F mode y x
sum_exchanged F mode x y = finite_sum_comm F mode x y

pub below_exchanged : (F : Format) (g : ℕ) (x y : record_of.Finite) → finite_below F g x y ≡ finite_below F g y x
below_exchanged F g x y = below_comm F g x y

pub row_exchanged : (F : Format) (x y : record_of.Finite) → (x.exponent.0 ≡ y.exponent.0 → ⊥) ⊎ (x.sign ≡ y.sign) → finite_row F x y ≡ finite_row F y x
row_exchanged F x y either = finite_row_comm F x y either

pub row_lt : (F : Format) (x y : record_of.Finite) → finite_row F x y < 2 ^ precision F
row_lt F x y = finite_row_lt F x y

-- ---- from aligned significands

module _ (F : Format) (x y : record_of.Finite) (units : (unit_of y.exponent).0 ≤ (unit_of x.exponent).0) where
  u : ℕ
  u = (unit_of x.exponent).0

  v : ℕ
  v = (unit_of y.exponent).0

  d : ℕ
  d = (unit_of x.exponent).0 - (unit_of y.exponent).0

  -- the significand of x with q bits below it, and that of y aligned to it
  abbrev pub head_of : ℕ → ℕ
  head_of q = head_at q x.significand

  abbrev pub tail_of : ℕ → ℕ
  tail_of q = tail_at q y.significand ((unit_of x.exponent).0 - (unit_of y.exponent).0)

  gap : d + v ≡ u
  unfolding u v d
  gap = omega arith

  -- the two are ordered as the magnitudes are
  pub tail_ordered : (q : ℕ) → 0 < q → tail_of q ≤ head_of q ↔ (magnitude y ≤ magnitude x)
  unfolding u v d
  tail_ordered q some = align.tail_ordered q some x.significand y.significand u v d gap

  -- and strictly so where these are
  pub tail_below : (q : ℕ) → 0 < q → magnitude y < magnitude x → tail_of q < head_of q
  unfolding u v d
  tail_below q some l =
      let o = (tail_ordered q some).1 (le_of_lt l) in
      let ne : (head_of q ≡ tail_of q → ⊥) = λ e. let m = (align.equal_tail q some x.significand y.significand u v d gap).1 e in omega (arith, l) in
      omega (arith, ne)

  -- the row, from what they make with any number of bits below
  module _ (q : ℕ) (some : 0 < q) where
    row_test : (i : ℕ) (t : Bool) → flag (carry_at t (magnitude x) (magnitude y) u i) ≡ carry_of (not t) (head_of q) (tail_of q) (i + suc q)
    unfolding u v d
    row_test i t =
        ap flag
        (row_bit x.significand y.significand u v d i gap t
        ∙ ap₂ (λ (r s : ℕ). carry_in t x.significand r s i) (sym (tail_whole q some y.significand d)) (sym (tail_sticky q some y.significand d)))
        ∙ sym (column_carry q x.significand (tail_of q) i t)

    pub row_columns : y.exponent.0 ≤ x.exponent.0 → (i : ℕ) → i < precision F
        → bit (finite_row F x y) i ≡ carry_of (not (eqb x.sign y.sign)) (head_of q) (tail_of q) (i + suc q)
    unfolding u finite_row
    row_columns le i h =
        rw (le-ltb x.exponent.0 y.exponent.0 le)
        (gather_bit (precision F) (carry_at (eqb x.sign y.sign) (magnitude x) (magnitude y) u) i h ∙ row_test i (eqb x.sign y.sign))

  -- c and the dropped bits, from what they make: with q above G for a sum, and above G + 1 for a difference
  module _ (ok : Supported F) (cx : Canonical F x) (cy : Canonical F y) (q G : ℕ) (guards : Guards q G) (more : eqb x.sign y.sign ≡ false → G + 1 < q) where
    normal : 0 < u → 2 ^ F.f ≤ x.significand
    unfolding u
    normal h = cx.normal (omega arith)

    pos : 0 < q
    pos = omega (arith, guards.few)

    -- what they make
    abbrev pub makes : ℕ
    makes = combined (not (eqb x.sign y.sign)) (head_of q) (tail_of q)

    makes_lt : makes < 2 ^ sum_bits q F.f
    unfolding u v d
    makes_lt = go (eqb x.sign y.sign)
      where
        lt : head_of q + tail_of q < 2 ^ sum_bits q F.f
        lt = align.sum_lt F q G guards.few x.significand y.significand u v d gap cx.significand_lt cy.significand_lt normal

        go : (t : Bool) → combined (not t) (head_of q) (tail_of q) < 2 ^ sum_bits q F.f
        go true = lt
        go false = omega (arith, lt)

    -- it holds the exact result
    makes_held : (eqb x.sign y.sign ≡ false → magnitude y ≤ magnitude x) → Held F q G (exact_magnitude x y) makes (unit_of x.exponent).0
    unfolding u v d exact_magnitude
    makes_held le = go (eqb x.sign y.sign) refl
      where
        go : (t : Bool) → eqb x.sign y.sign ≡ t
            → Held F q G (cond t (magnitude x + magnitude y) (cond (ltb (magnitude x) (magnitude y)) (magnitude y - magnitude x) (magnitude x - magnitude y))) (combined (not t) (head_of q) (tail_of q)) (unit_of x.exponent).0
        go true e = align.sum_held F q G guards.few x.significand y.significand u v d gap cx.significand_lt cy.significand_lt normal
        go false e =
            rw (le-ltb (magnitude x) (magnitude y) (le e))
            (align.difference_held F q G guards.few x.significand y.significand u v d gap cx.significand_lt cy.significand_lt normal (more e) (le e))

    pub sum_outcome : (mode : ℕ) → (eqb x.sign y.sign ≡ false → magnitude y ≤ magnitude x)
        → finite_sum F mode x y ≡ outcome q F mode (eqb x.sign y.sign) x.sign (unit_of x.exponent) makes
    unfolding u v d outcome exact_magnitude
    sum_outcome mode le = go (ℕ_discrete x.sign y.sign) (ℕ_discrete (magnitude x) (magnitude y))
      where
        go : Dec (x.sign ≡ y.sign) → Dec (magnitude x ≡ magnitude y) → finite_sum F mode x y ≡ outcome q F mode (eqb x.sign y.sign) x.sign (unit_of x.exponent) makes
        go (yes e) m =
            rw (eq-eqb _ _ e)
            (sum_like F mode x y e
            ∙ outcome_held F ok q G guards mode x.sign (magnitude x + magnitude y) (head_of q + tail_of q) (unit_of x.exponent) true
            (rw (eq-eqb _ _ e) at (makes_held le)) (rw (eq-eqb _ _ e) at makes_lt) (inl refl))
        go (no e) (yes m) =
            let t = (align.equal_tail q pos x.significand y.significand u v d gap).0 m in
            let z : head_of q - tail_of q ≡ 0 = omega arith in
            rw (ne_eqb _ _ e, z) (sum_cancelled F mode x y e m)
        go (no e) (no m) =
            let l = le (ne_eqb _ _ e) in
            let o = (tail_ordered q pos).1 l in
            let ne : (head_of q - tail_of q ≡ 0 → ⊥) = λ z. m ((align.equal_tail q pos x.significand y.significand u v d gap).1 (omega arith)) in
            rw (ne_eqb _ _ e)
            (sum_unlike F mode x y e (omega (arith, m))
            ∙ outcome_held F ok q G guards mode x.sign (magnitude x - magnitude y) (head_of q - tail_of q) (unit_of x.exponent) false
            (rw (ne_eqb _ _ e, le-ltb (magnitude x) (magnitude y) l) at (makes_held le)) (rw (ne_eqb _ _ e) at makes_lt) (inr ne))

    -- the dropped bits
    module _ (g : ℕ) (few : g ≤ G) (le : eqb x.sign y.sign ≡ false → magnitude y ≤ magnitude x) where
      pub below_bits : NormalAt q F.f (unit_of x.exponent) makes → finite_below F g x y ≡ Some (dropped_word F g makes)
      unfolding finite_below
      below_bits n =
          let u = (unit_of x.exponent).0 in
          let held = makes_held le in
          let some = held_pos F q G (exact_magnitude x y) makes u held (λ z. omega (arith, n.some, z)) in
          normal_below F g (exact_magnitude x y) ((normal_held F q G (exact_magnitude x y) makes u guards some held).1 n)
          ∙ ap Some (sym (dropped_held F q G (exact_magnitude x y) makes u guards some held g few))

      pub below_none : (NormalAt q F.f (unit_of x.exponent) makes → ⊥) → finite_below F g x y ≡ None
      unfolding finite_below
      below_none never = go (dec_lt (exact_magnitude x y) (2 ^ F.f))
        where
          go : Dec (exact_magnitude x y < 2 ^ F.f) → magnitude_below F g (exact_magnitude x y) ≡ None
          go (yes l) = small_below F g (exact_magnitude x y) l
          go (no l) =
              let h : 2 ^ F.f ≤ exact_magnitude x y = omega arith in
              absurd (never ((normal_held F q G (exact_magnitude x y) makes (unit_of x.exponent).0 guards (omega (arith, h, pow_pos F.f)) (makes_held le)).0 h))
