-- The question of a reversed row (document 02, W-205). The row is that of T - H, and T is even; so the chain is asked about H - (T + 1),
-- whose borrows are the other ones of the row's, and adds 1 to what that gives. Assumes nothing.
use mathlib.Core.Logic.{◌↔◌}
use mathlib.Core.Path.{◌≡◌, refl, sym, ap, ap₂, ◌∙◌, subst}
use mathlib.Core.Bool.{Bool, true, not}
use Prim.Native.Nat.{ℕ, zero, suc, ◌+◌, ◌-◌, ◌*◌, ◌/◌, ◌%◌, ◌^◌, ◌≤◌, ◌<◌}
use native.Mathlib.Nat.{lt_of_le_of_lt}
use native.Mathlib.Omega.{arith}
use lib.Bits.{bit_and, bit_xor, and_zero_r, and_mask}
use lib.Dec.{eqb}
use lib.Pow.{pow_pos, pow-add, pow_mono, mod-mod-pow}
use Rattle.bits.specs.Bit.{bit}
use Rattle.bits.proofs.Laws.{bit_lt}
use Rattle.bits.proofs.Logic.{bit_of_xor}
use Rattle.mask.specs.declared.Mask.{Mask}
use Rattle.mask.specs.Mask.{Inside, WellFormed, Meets, high, raised, free_mask}
use Rattle.mask.proofs.ByBits.{inside_bits, value_below}
use Rattle.mask.proofs.ByParts.{meets_parts}
use Rattle.columns.specs.Carry.{borrow, carry_of}
use Rattle.columns.specs.Column.{allows}
use Rattle.columns.proofs.Borrow.{borrow_reversed, borrow_even}
use Rattle.chain.specs.declared.Wires.{Wires}
use Rattle.chain.specs.Chain.{Solved, Answered}
use Rattle.rounding.specs.Width.{aligned_bits}
use Rattle.making.specs.declared.Aligned as pair
use Rattle.making.specs.Making.{Made, Making, columns_of, ZerosBelow, Formed}
use Rattle.making.specs.Question.{opposite, one_above}
use Rattle.making.proofs.Asked.{allows_moved, allows_back, most_aligned_lt, columns_below, row_allowed}
use Rattle.making.proofs.Made.{most_digits_bounds, aligned_lt, made_difference}
use Rattle.making.proofs.Zeros.{zeros_below}

-- ---- the fixed bits turned over

-- a care bit k with the value bit v
turned_bit : (k v b c : ℕ) → k < 2 → v < 2 → (k ≡ 0 → v ≡ 0) → b + c ≡ 1 → eqb (bit_and b k) (bit_xor k v) ≡ eqb (bit_and c k) v
turned_bit zero zero b c hk hv none s = rw (and_zero_r b, and_zero_r c)
turned_bit zero (suc v) b c hk hv none s = absurd (omega (arith, none refl))
turned_bit (suc zero) zero zero c hk hv none s = let q : c ≡ 1 = omega arith in rw q
turned_bit (suc zero) zero (suc zero) c hk hv none s = let q : c ≡ 0 = omega arith in rw q
turned_bit (suc zero) zero (suc (suc b)) c hk hv none s = absurd (omega arith)
turned_bit (suc zero) (suc zero) zero c hk hv none s = let q : c ≡ 1 = omega arith in rw q
turned_bit (suc zero) (suc zero) (suc zero) c hk hv none s = let q : c ≡ 0 = omega arith in rw q
turned_bit (suc zero) (suc zero) (suc (suc b)) c hk hv none s = absurd (omega arith)
turned_bit (suc zero) (suc (suc v)) b c hk hv none s = absurd (omega arith)
turned_bit (suc (suc k)) v b c hk hv none s = absurd (omega arith)

module _ (m : Mask) (inside : Inside m) where
  -- what allows a bit allows the other one, turned over
  allows_opposite : (i b c : ℕ) → b + c ≡ 1 → allows (opposite m).care (opposite m).value i b ≡ allows m.care m.value i c
  allows_opposite i b c s =
      ap (eqb (bit_and b (bit m.care i))) (bit_of_xor m.care m.value i)
      ∙ turned_bit (bit m.care i) (bit m.value i) b c (bit_lt m.care i) (bit_lt m.value i) ((inside_bits m).0 inside i) s

  opposite_inside : Inside (opposite m)
  opposite_inside = (inside_bits (opposite m)).1 (λ i e. bit_of_xor m.care m.value i ∙ ap₂ bit_xor e ((inside_bits m).0 inside i e))

opposite_formed : (p : ℕ) (m : Mask) → WellFormed p m → WellFormed p (opposite m)
opposite_formed p m w = record { below = w.below; inside = opposite_inside m w.inside }

-- ---- the numbers one above those of a mask that fixes the lowest bit to 0
module _ (m : Mask) (care : m.care % 2 ≡ 1) (value : m.value % 2 ≡ 0) where
  above_odd : (t : ℕ) → Meets t (one_above m) → t % 2 ≡ 1
  above_odd t met =
      let low_met : bit_and (t % 2) (m.care % 2) ≡ (m.value + 1) % 2 = ((meets_parts 1 t (one_above m)).0 met).0 in
      let kept : bit_and (t % 2) 1 ≡ t % 2 % 2 = and_mask (t % 2) 1 in
      omega (arith, sym kept ∙ ap (bit_and (t % 2)) (sym care) ∙ low_met)

  above_meets : (n : ℕ) → n % 2 ≡ 0 → Meets (n + 1) (one_above m) ↔ Meets n m
  above_meets n even = (
    (λ met. (meets_parts 1 n m).1 (lowest n even, high_down ((meets_parts 1 (n + 1) (one_above m)).0 met).1)),
    λ met. (meets_parts 1 (n + 1) (one_above m)).1 (lowest_above, high_back ((meets_parts 1 n m).0 met).1),
  )
    where
      half : (n + 1) / 2 ≡ n / 2
      half = omega (arith, even)

      half_value : (m.value + 1) / 2 ≡ m.value / 2
      half_value = omega (arith, value)

      lowest : (k : ℕ) → k % 2 ≡ 0 → bit_and (k % 2) (m.care % 2) ≡ m.value % 2
      lowest k e = ap₂ bit_and e care ∙ sym value

      lowest_above : bit_and ((n + 1) % 2) (m.care % 2) ≡ (m.value + 1) % 2
      lowest_above =
          let a : (n + 1) % 2 ≡ 1 = omega (arith, even) in
          let b : (m.value + 1) % 2 ≡ 1 = omega (arith, value) in
          ap₂ bit_and a care ∙ sym b

      high_down : Meets ((n + 1) / 2) (high 1 (one_above m)) → Meets (n / 2) (high 1 m)
      high_down e = ap (λ (k : ℕ). bit_and k (m.care / 2)) (sym half) ∙ e ∙ half_value

      high_back : Meets (n / 2) (high 1 m) → Meets ((n + 1) / 2) (high 1 (one_above m))
      high_back e = ap (λ (k : ℕ). bit_and k (m.care / 2)) half ∙ e ∙ sym half_value

-- the low q bits have the lowest one among them
module _ (q : ℕ) (some : 0 < q) where
  lowest : (n r : ℕ) → n % 2 ^ q ≡ r → n % 2 ≡ r % 2
  lowest n r e =
      let up : q - 1 + 1 ≡ q = omega arith in
      sym (mod-mod-pow n (q - 1) 1) ∙ ap (λ (k : ℕ). n % 2 ^ k % 2) up ∙ ap (λ (k : ℕ). k % 2) e

  -- a mask that fixes them to 0 fixes that
  lowest_fixed : (m : Mask) → ZerosBelow q m → m.care % 2 ≡ 1
  lowest_fixed m u =
      let half : 2 ^ q ≡ 2 ^ (q - 1) * 2 = ap (λ (k : ℕ). 2 ^ k) (omega arith) ∙ pow-add 2 (q - 1) 1 in
      lowest m.care (2 ^ q - 1) u.0 ∙ omega (arith, half, pow_pos (q - 1))

  lowest_zero : (m : Mask) → ZerosBelow q m → m.value % 2 ≡ 0
  lowest_zero m u = lowest m.value 0 u.1

-- ---- the question

-- its wires, where `tail` is T + 1's mask and `carries` the mask of the borrows
abbrev pub reversed_wires : pair.Aligned → Mask → Mask → Mask → Wires
reversed_wires A tail carries z = record {
  subtract = true;
  l = A.head;
  t = tail;
  x = free_mask;
  z = z;
  carries = carries;
  constant = 0;
  carry = 1;
}

-- H - (T + 1) and the row of T - H
other_borrow : (q H T i : ℕ) → T % 2 ≡ 0 → borrow H (T + 1) 0 (i + (1 + q)) + borrow T H 0 (i + (1 + q)) ≡ 1
other_borrow q H T i even =
    let up : i + q + 1 ≡ i + (1 + q) = omega arith in
    let e : borrow H (T + 1) 0 (i + (1 + q)) ≡ borrow H T 1 (i + (1 + q)) =
    subst (λ (k : ℕ). borrow H (T + 1) 0 k ≡ borrow H T 1 k) up (borrow_even H T (i + q) even) in
    omega (arith, e, borrow_reversed H T (i + (1 + q)))

module _ (f : ℕ) (A : pair.Aligned) (formed : Formed f A) (reversed : A.reversed ≡ true) (z : Mask) where
  even_tail : (T : ℕ) → Meets T A.tail → T % 2 ≡ 0
  even_tail T met = lowest A.below formed.room.some T 0 (zeros_below A.below A.tail (formed.one_unit reversed).tail T met)

  tail_above : (T : ℕ) → T % 2 ≡ 0 → Meets (T + 1) (one_above A.tail) ↔ Meets T A.tail
  tail_above =
      above_meets A.tail (lowest_fixed A.below formed.room.some A.tail (formed.one_unit reversed).tail) (lowest_zero A.below formed.room.some A.tail (formed.one_unit reversed).tail)

  pub reversed_sound : (l t : ℕ) → Solved (reversed_wires A (one_above A.tail) (raised (1 + A.below) (opposite A.carries)) z) (columns_of f A) l t → Making f A (λ (n : ℕ). Meets n z)
  reversed_sound l t s = record {
    x = l - T;
    made = record {
      H = l;
      T = T;
      head_lt = lt_of_le_of_lt (formed.head l (columns_below f A formed.room l s.l_lt) s.l_meets) (most_aligned_lt A.below f);
      tail_lt = lt_of_le_of_lt (formed.tail T (columns_below f A formed.room T (omega (arith, s.t_lt))) T-meets) (most_aligned_lt A.below f);
      head_meets = s.l_meets;
      tail_meets = T-meets;
      ordered = λ e. omega (arith, s.ordered refl);
      less = λ e. omega (arith, s.ordered refl, is);
      carries_allow = λ i h. (row_allowed A true reversed l T (i + (1 + A.below)) i).0
          (sym (allows_opposite A.carries formed.carries.inside i (borrow l t 0 (i + (1 + A.below))) (borrow T l 0 (i + (1 + A.below))) (one i))
          ∙ allows_back (1 + A.below) (opposite A.carries) (carry_of true l t) i (s.carries_allow (i + (1 + A.below)) (omega (arith, h, (most_digits_bounds A.below f A.like).0))));
      makes = ap (λ (b : Bool). Rattle.columns.specs.Carry.combined (not b) l T) (formed.one_unit reversed).unlike;
    };
    holds = subst (λ (n : ℕ). Meets n z) again s.z_meets;
  }
    where
      T : ℕ
      T = t - 1

      odd : t % 2 ≡ 1
      odd = above_odd A.tail (lowest_fixed A.below formed.room.some A.tail (formed.one_unit reversed).tail) (lowest_zero A.below formed.room.some A.tail (formed.one_unit reversed).tail) t s.t_meets

      is : t - 1 + 1 ≡ t
      is = omega (arith, odd)

      even : (t - 1) % 2 ≡ 0
      even = omega (arith, odd)

      again : l - t + 0 + 1 ≡ l - (t - 1)
      again = omega (arith, s.ordered refl, is)

      T-meets : Meets (t - 1) A.tail
      T-meets = (tail_above (t - 1) even).0 (subst (λ (n : ℕ). Meets n (one_above A.tail)) (sym is) s.t_meets)

      one : (i : ℕ) → borrow l t 0 (i + (1 + A.below)) + borrow (t - 1) l 0 (i + (1 + A.below)) ≡ 1
      one i = subst (λ (n : ℕ). borrow l n 0 (i + (1 + A.below)) + borrow (t - 1) l 0 (i + (1 + A.below)) ≡ 1) is (other_borrow A.below l (t - 1) i even)

  pub reversed_complete : (m : Making f A (λ (n : ℕ). Meets n z))
      → Solved (reversed_wires A (one_above A.tail) (raised (1 + A.below) (opposite A.carries)) z) (columns_of f A) m.made.H (m.made.T + 1)
  reversed_complete m = record {
    l_lt = omega (arith, w.head_lt, wide);
    t_lt = omega (arith, w.head_lt, wide, strict);
    ordered = λ e. strict;
    x_lt = omega (arith, w.head_lt, wide);
    z_lt = omega (arith, w.head_lt, wide, strict);
    l_meets = w.head_meets;
    t_meets = (tail_above w.T even).1 w.tail_meets;
    x_meets = and_zero_r (w.H - (w.T + 1));
    z_meets = subst (λ (n : ℕ). Meets n z) (sym (made_difference f A m.x m.made (formed.one_unit reversed).unlike) ∙ again) m.holds;
    carries_allow = λ i h. allows_moved (f + 1) (1 + A.below) (opposite A.carries) (opposite_formed (f + 1) A.carries formed.carries) (carry_of true w.H (w.T + 1))
        (λ k l.
        allows_opposite A.carries formed.carries.inside k (borrow w.H (w.T + 1) 0 (k + (1 + A.below))) (borrow w.T w.H 0 (k + (1 + A.below))) (other_borrow A.below w.H w.T k even)
        ∙ (row_allowed A true reversed w.H w.T (k + (1 + A.below)) k).1 (w.carries_allow k l))
        i;
  }
    where
      w : Made f A m.x
      w = m.made

      strict : m.made.T + 1 ≤ m.made.H
      strict = omega (arith, m.made.less reversed)

      again : m.made.H - m.made.T ≡ m.made.H - (m.made.T + 1) + 0 + 1
      again = omega (arith, strict)

      even : m.made.T % 2 ≡ 0
      even = even_tail m.made.T m.made.tail_meets

      wide : 2 ^ aligned_bits A.below f ≤ 2 ^ columns_of f A
      wide = pow_mono {i = aligned_bits A.below f} {j = columns_of f A} (most_digits_bounds A.below f A.like).0

-- the question as it is put, where the carry mask is moved up above the bits below unless that loses bits
pub reversed_asked : (f : ℕ) (A : pair.Aligned) (tail over carries z : Mask)
    → (A.tail.value % 2 ≡ 0 → tail ≡ one_above A.tail) → over ≡ opposite A.carries
    → ((k : ℕ) → k + (1 + A.below) ≤ 64 → over.care < 2 ^ k → over.value < 2 ^ k → carries ≡ raised (1 + A.below) over)
    → A.reversed ≡ true → Formed f A → Answered (reversed_wires A tail carries z) (columns_of f A) ↔ Making f A (λ (n : ℕ). Meets n z)
reversed_asked f A tail over carries z above turned moved reversed formed = (
  (λ s. reversed_sound f A formed reversed z s.l s.t (rw (tail_is, carries_are) at s.solved)),
  λ m. record {
    columns_lt = formed.room.columns;
    carry_lt = omega arith;
    l = m.made.H;
    t = m.made.T + 1;
    solved = rw (tail_is, carries_are) (reversed_complete f A formed reversed z m);
  },
)
  where
    tail_is : tail ≡ one_above A.tail
    tail_is = above (lowest_zero A.below formed.room.some A.tail (formed.one_unit reversed).tail)

    own : WellFormed (f + 1) (opposite A.carries)
    own = opposite_formed (f + 1) A.carries formed.carries

    carries_are : carries ≡ raised (1 + A.below) (opposite A.carries)
    carries_are =
        moved (f + 1) (omega (arith, aligned_lt f A formed.room)) (rw turned own.below) (rw turned (value_below (f + 1) (opposite A.carries) own))
        ∙ ap (raised (1 + A.below)) turned
