-- Laws of the carry row: its bit i is the carry at position i, it has p bits, it does not depend on the order of the operands where their
-- exponents are unlike or their signs like, and which rows W-205 left as they were. Assumes nothing.
use mathlib.Core.Logic.{◌⊎◌, ⊎_elim}
use mathlib.Core.Path.{◌≡◌, sym, ap, ◌∙◌, fun_ext}
use mathlib.Core.Bool.{Bool, true, false, cond}
use Prim.Native.Nat.{ℕ, zero, suc, ◌+◌, ◌*◌, ◌%◌, ◌^◌, ◌≤◌, ◌<◌}
use native.Mathlib.Nat.{add_comm, le_of_lt, not-le_of_lt}
use native.Mathlib.Decide.{dec_lt, ℕ_discrete}
use native.Mathlib.Omega.{arith}
use borrow.Author.Tests.{lt-ltb, le-ltb, eq-eqb}
use lib.Dec.{ltb, leb, eqb}
use Rattle.bits.specs.Bit.{bit}
use Rattle.bits.proofs.Laws.{top_bit_lem, low_bit}
use Rattle.format.specs.declared.Format.{Format}
use Rattle.format.specs.Format.{precision}
use Rattle.word.specs.declared.Finite as record_of
use Rattle.word.specs.Word.{unit_of}
use Rattle.word.specs.Operand.{magnitude, Canonical}
use Rattle.adder.specs.Row.{carry_at, gather, ordered_row, finite_row}
use Rattle.word.proofs.Canonical.{exponent_le}
use Rattle.adder.proofs.RowBit.{gather_lt}

-- the gathered number has the test at i as its bit i
pub gather_bit : (n : ℕ) (at : ℕ → Bool) (i : ℕ) → i < n → bit (gather n at) i ≡ cond (at i) 1 0
unfolding gather
gather_bit zero at i h = absurd (omega arith)
gather_bit (suc n) at i h =
    ap (λ (m : ℕ). bit m i) (add_comm (gather n at) (cond (at n) 1 0 * 2 ^ n)) ∙ go (ℕ_discrete i n) (λ (l : i < n). gather_bit n at i l)
  where
    test_lt : (t : Bool) → cond t 1 0 < 2
    test_lt true = omega arith
    test_lt false = omega arith

    go : Dec (i ≡ n) → (i < n → bit (gather n at) i ≡ cond (at i) 1 0) → bit (cond (at n) 1 0 * 2 ^ n + gather n at) i ≡ cond (at i) 1 0
    go (yes e) below = rw e (top_bit_lem (cond (at n) 1 0) (gather n at) n (test_lt (at n)) (gather_lt n at))
    go (no e) below =
        let l : i < n = omega arith in
        low_bit (cond (at n) 1 0) (gather n at) n (test_lt (at n)) (gather_lt n at) i l ∙ below l

-- the row of two finite operands has p bits
pub finite_row_lt : (F : Format) (x y : record_of.Finite) → finite_row F x y < 2 ^ precision F
unfolding finite_row
finite_row_lt F x y = go (ltb x.exponent.0 y.exponent.0)
  where
    ordered_lt : (l r : record_of.Finite) → ordered_row F l r < 2 ^ precision F
    ordered_lt l r = gather_lt (precision F) (carry_at (eqb l.sign r.sign) (magnitude l) (magnitude r) (unit_of l.exponent).0)

    go : (t : Bool) → cond t (ordered_row F y x) (ordered_row F x y) < 2 ^ precision F
    go true = ordered_lt y x
    go false = ordered_lt x y

-- ---- the order of the operands

-- of operands with equal exponents and like signs either is L
like_row : (F : Format) (x y : record_of.Finite) → x.exponent.0 ≡ y.exponent.0 → x.sign ≡ y.sign → ordered_row F x y ≡ ordered_row F y x
like_row F x y e s = ap (gather (precision F)) (fun_ext at)
  where
    at : (i : ℕ) → carry_at (eqb x.sign y.sign) (magnitude x) (magnitude y) (unit_of x.exponent).0 i
        ≡ carry_at (eqb y.sign x.sign) (magnitude y) (magnitude x) (unit_of y.exponent).0 i
    at i =
        let M = 2 ^ ((unit_of x.exponent).0 + suc i) in
        let same : (unit_of x.exponent).0 ≡ (unit_of y.exponent).0 = omega (arith, e) in
        ap (λ (t : Bool). carry_at t (magnitude x) (magnitude y) (unit_of x.exponent).0 i) (eq-eqb x.sign y.sign s)
        ∙ ap (leb M) (add_comm (magnitude x % M) (magnitude y % M))
        ∙ ap (λ (n : ℕ). carry_at true (magnitude y) (magnitude x) n i) same
        ∙ sym (ap (λ (t : Bool). carry_at t (magnitude y) (magnitude x) (unit_of y.exponent).0 i) (eq-eqb y.sign x.sign (sym s)))

-- with unlike exponents or like signs it does not matter which operand is a
pub finite_row_comm : (F : Format) (x y : record_of.Finite) → (x.exponent.0 ≡ y.exponent.0 → ⊥) ⊎ (x.sign ≡ y.sign) → finite_row F x y ≡ finite_row F y x
unfolding finite_row
finite_row_comm F x y either = go (dec_lt x.exponent.0 y.exponent.0) (dec_lt y.exponent.0 x.exponent.0)
  where
    go : Dec (x.exponent.0 < y.exponent.0) → Dec (y.exponent.0 < x.exponent.0)
        → cond (ltb x.exponent.0 y.exponent.0) (ordered_row F y x) (ordered_row F x y) ≡ cond (ltb y.exponent.0 x.exponent.0) (ordered_row F x y) (ordered_row F y x)
    go (yes l) g = rw (lt-ltb x.exponent.0 y.exponent.0 l, le-ltb y.exponent.0 x.exponent.0 (omega arith))
    go (no l) (yes g) = rw (le-ltb x.exponent.0 y.exponent.0 (omega arith), lt-ltb y.exponent.0 x.exponent.0 g)
    go (no l) (no g) =
        rw (le-ltb x.exponent.0 y.exponent.0 (omega arith), le-ltb y.exponent.0 x.exponent.0 (omega arith))
        (⊎_elim (λ n. absurd (n (omega arith))) (λ s. like_row F x y (omega arith) s) either)

-- ---- the rows that W-205 left as they were

-- document 01's row, where L is the operand of larger magnitude
abbrev pub row_by_magnitude : Format → record_of.Finite → record_of.Finite → ℕ
row_by_magnitude F x y = cond (ltb (magnitude x) (magnitude y)) (ordered_row F y x) (ordered_row F x y)

-- only with equal exponents, unlike signs and a as the smaller operand is the row another one
pub row_kept : (F : Format) (x y : record_of.Finite) → Canonical F x → Canonical F y
    → (x.exponent.0 ≡ y.exponent.0 → ⊥) ⊎ ((x.sign ≡ y.sign) ⊎ (magnitude y ≤ magnitude x)) → finite_row F x y ≡ row_by_magnitude F x y
unfolding finite_row
row_kept F x y cx cy either = go (dec_lt (magnitude x) (magnitude y)) (dec_lt x.exponent.0 y.exponent.0)
  where
    go : Dec (magnitude x < magnitude y) → Dec (x.exponent.0 < y.exponent.0)
        → cond (ltb x.exponent.0 y.exponent.0) (ordered_row F y x) (ordered_row F x y) ≡ cond (ltb (magnitude x) (magnitude y)) (ordered_row F y x) (ordered_row F x y)
    go (yes l) (yes e) = rw (lt-ltb (magnitude x) (magnitude y) l, lt-ltb x.exponent.0 y.exponent.0 e)
    go (yes l) (no e) =
        let same : x.exponent.0 ≡ y.exponent.0 = omega (arith, exponent_le F y x cy cx (le_of_lt l)) in
        rw (lt-ltb (magnitude x) (magnitude y) l, le-ltb x.exponent.0 y.exponent.0 (omega arith))
        (⊎_elim (λ n. absurd (n same)) (λ o. ⊎_elim (λ s. like_row F x y same s) (λ le. absurd (not-le_of_lt l le)) o) either)
    go (no l) e =
        rw
        (le-ltb (magnitude x) (magnitude y) (omega arith), le-ltb x.exponent.0 y.exponent.0 (exponent_le F x y cx cy (omega arith)))
