-- The question to the chain, where the row is not reversed: its wires carry two aligned significands, what they make, and that with a
-- constant and a carry added. Two significands that solve it make a number that meets both masks, and the other way round. Assumes
-- nothing.
use mathlib.Core.Logic.{◌↔◌}
use mathlib.Core.Path.{◌≡◌, refl, sym, ap, ap₂, ◌∙◌, subst}
use mathlib.Core.Bool.{Bool, true, false, not, cond, false≢true}
use Prim.Native.Nat.{ℕ, ◌+◌, ◌-◌, ◌*◌, ◌%◌, ◌^◌, ◌≤◌, ◌<◌}
use native.Mathlib.Nat.{add_comm, mul_comm, mul-mod_left, mul-lt-mul_of_pos_right, zero-div, lt_of_lt_of_le, lt_of_le_of_lt}
use native.Mathlib.Decide.{dec_lt}
use native.Mathlib.Omega.{arith}
use package.borrow.Author.Tests.{not-true, eq-eqb}
use lib.Bits.{bit_and, and_zero_r}
use lib.Dec.{eqb}
use lib.Pow.{pow_pos, pow_mono, pow-add, shl-shr}
use Rattle.bits.specs.Bit.{bit}
use Rattle.bits.proofs.Laws.{bit_mod, bit_shr, bit_above}
use Rattle.mask.specs.declared.Mask.{Mask}
use Rattle.mask.specs.Mask.{WellFormed, raised}
use Rattle.mask.proofs.ByBits.{value_below}
use Rattle.columns.specs.Column.{allows}
use Rattle.chain.specs.declared.Wires.{Wires}
use Rattle.columns.specs.Carry.{borrow, combined, carry_of}
use Rattle.chain.specs.Chain.{Solved, Answered}
use Rattle.making.specs.declared.Aligned as pair
use Rattle.rounding.specs.Width.{aligned_bits, mask_bits}
use Rattle.making.specs.Making.{row_carry, columns_of, Room, most_aligned, Formed, Making}
use Rattle.making.specs.Question.{Added}
use Rattle.making.proofs.Made.{most_digits_bounds, aligned_lt, made_lt}

-- the wires of a question
abbrev pub wires_of : pair.Aligned → Mask → Mask → Mask → ℕ → ℕ → Wires
wires_of A carries x z constant carry = record {
  subtract = not A.like;
  l = A.head;
  t = A.tail;
  x = x;
  z = z;
  carries = carries;
  constant = constant;
  carry = carry;
}

-- ---- a mask moved up, by bits
raised_low : (n d i : ℕ) → i < d → bit (n * 2 ^ d) i ≡ 0
raised_low n d i h = sym (bit_mod (n * 2 ^ d) i d h) ∙ ap (λ (m : ℕ). bit m i) (mul-mod_left n (2 ^ d)) ∙ ap (λ (m : ℕ). m % 2) (zero-div (2 ^ i))

raised_high : (n d i : ℕ) → bit (n * 2 ^ d) (d + i) ≡ bit n i
raised_high n d i = sym (bit_shr (n * 2 ^ d) d i) ∙ ap (λ (m : ℕ). bit m i) (shl-shr n d)

-- a bit that is not fixed may be anything
allows_free : (care value i b : ℕ) → bit care i ≡ 0 → bit value i ≡ 0 → allows care value i b ≡ true
allows_free care value i b c v = eq-eqb (bit_and b (bit care i)) (bit value i) (ap (bit_and b) c ∙ and_zero_r b ∙ sym v)

allows_raised : (m : Mask) (d i b : ℕ) → allows (m.care * 2 ^ d) (m.value * 2 ^ d) (d + i) b ≡ allows m.care m.value i b
allows_raised m d i b = ap₂ (λ (c v : ℕ). eqb (bit_and b c) v) (raised_high m.care d i) (raised_high m.value d i)

-- where a mask on p bits allows a wire's bits from column e on, the mask moved up by e places allows all of them
pub allows_moved : (p e : ℕ) (m : Mask) → WellFormed p m → (wire : ℕ → ℕ) → ((i : ℕ) → i < p → allows m.care m.value i (wire (i + e)) ≡ true)
    → (i : ℕ) → allows (m.care * 2 ^ e) (m.value * 2 ^ e) i (wire i) ≡ true
allows_moved p e m formed wire allow i = go (dec_lt i e) (dec_lt (i - e) p)
  where
    above : (n : ℕ) → n < 2 ^ p → p ≤ i - e → bit n (i - e) ≡ 0
    above n h k = bit_above (i - e) (lt_of_lt_of_le h (pow_mono {i = p} {j = i - e} k))

    at : (i < e → ⊥) → allows m.care m.value (i - e) (wire i) ≡ true → allows (m.care * 2 ^ e) (m.value * 2 ^ e) i (wire i) ≡ true
    at h a =
        let up : e + (i - e) ≡ i = omega arith in
        subst (λ (n : ℕ). allows (m.care * 2 ^ e) (m.value * 2 ^ e) n (wire i) ≡ true) up (allows_raised m e (i - e) (wire i) ∙ a)

    go : Dec (i < e) → Dec (i - e < p) → allows (m.care * 2 ^ e) (m.value * 2 ^ e) i (wire i) ≡ true
    go (yes h) k = allows_free (m.care * 2 ^ e) (m.value * 2 ^ e) i (wire i) (raised_low m.care e i h) (raised_low m.value e i h)
    go (no h) (yes k) =
        let back : i - e + e ≡ i = omega arith in
        at h (subst (λ (n : ℕ). allows m.care m.value (i - e) (wire n) ≡ true) back (allow (i - e) k))
    go (no h) (no k) = at h (allows_free m.care m.value (i - e) (wire i) (above m.care formed.below (omega arith)) (above m.value (value_below p m formed) (omega arith)))

-- and back
pub allows_back : (e : ℕ) (m : Mask) (wire : ℕ → ℕ) (i : ℕ) → allows (m.care * 2 ^ e) (m.value * 2 ^ e) (i + e) (wire (i + e)) ≡ true
    → allows m.care m.value i (wire (i + e)) ≡ true
allows_back e m wire i allow =
    sym (allows_raised m e i (wire (i + e)))
    ∙ subst (λ (k : ℕ). allows (m.care * 2 ^ e) (m.value * 2 ^ e) k (wire (i + e)) ≡ true) (add_comm i e) allow

-- the largest aligned significand has no more bits than an aligned significand
pub most_aligned_lt : (q f : ℕ) → most_aligned q f < 2 ^ aligned_bits q f
most_aligned_lt q f =
    let lt : 2 ^ (f + 1) - 1 < 2 ^ (f + 1) = omega (arith, pow_pos (f + 1)) in
    let m = mul-lt-mul_of_pos_right lt (pow_pos q) in
    let e : 2 ^ aligned_bits q f ≡ 2 ^ (f + 1) * 2 ^ q = ap (λ (n : ℕ). 2 ^ n) (omega arith) ∙ pow-add 2 (f + 1) q in
    omega (arith, m, e, mul_comm (2 ^ q) (2 ^ (f + 1) - 1))

-- a number that fits the columns is one that a mask on aligned significands speaks of
pub columns_below : (f : ℕ) (A : pair.Aligned) → Room f A → (n : ℕ) → n < 2 ^ columns_of f A → n < 2 ^ mask_bits
columns_below f A room n h = lt_of_lt_of_le h (pow_mono {i = columns_of f A} {j = mask_bits} (omega (arith, room.columns)))

-- what the carry mask allows in the row, said of the carries that the row has, reversed or not
pub row_allowed : (A : pair.Aligned) (t : Bool) → A.reversed ≡ t → (H T k i : ℕ)
    → allows A.carries.care A.carries.value i (cond t (borrow T H 0 k) (carry_of (not A.like) H T k)) ≡ true
    ↔ (allows A.carries.care A.carries.value i (row_carry A H T k) ≡ true)
row_allowed A t is H T k i = (λ e. subst at (sym is) e, λ e. subst at is e)
  where
    at : Bool → Type 0
    at b = allows A.carries.care A.carries.value i (cond b (borrow T H 0 k) (carry_of (not A.like) H T k)) ≡ true

module _ (f : ℕ) (A : pair.Aligned) (forward : A.reversed ≡ false) (formed : Formed f A) (x z : Mask) (constant carry : ℕ) where
  wide : aligned_bits A.below f ≤ columns_of f A
  wide = (most_digits_bounds A.below f A.like).0

  pub asked_sound : (l t : ℕ) → Solved (wires_of A (raised (1 + A.below) A.carries) x z constant carry) (columns_of f A) l t → Making f A (Added f A x z constant carry)
  asked_sound l t s = record {
    x = combined (not A.like) l t;
    made = record {
      H = l;
      T = t;
      head_lt = lt_of_le_of_lt (formed.head l (columns_below f A formed.room l s.l_lt) s.l_meets) (most_aligned_lt A.below f);
      tail_lt = lt_of_le_of_lt (formed.tail t (columns_below f A formed.room t s.t_lt) s.t_meets) (most_aligned_lt A.below f);
      head_meets = s.l_meets;
      tail_meets = s.t_meets;
      ordered = λ e. s.ordered (ap not e);
      less = λ e. absurd (false≢true (sym forward ∙ e));
      carries_allow = λ i h. (row_allowed A false forward l t (i + (1 + A.below)) i).0 (allows_back (1 + A.below) A.carries (carry_of (not A.like) l t) i (s.carries_allow (i + (1 + A.below)) (omega (arith, wide))));
      makes = refl;
    };
    holds = record { number = s.x_meets; fits = s.z_lt; sum = s.z_meets };
  }

  pub asked_complete : (m : Making f A (Added f A x z constant carry))
      → Solved (wires_of A (raised (1 + A.below) A.carries) x z constant carry) (columns_of f A) m.made.H m.made.T
  asked_complete m =
      let w = m.made in
      let p = pow_mono {i = aligned_bits A.below f} {j = columns_of f A} wide in
      record {
        l_lt = omega (arith, w.head_lt);
        t_lt = omega (arith, w.tail_lt);
        ordered = λ e. w.ordered (not-true A.like e);
        x_lt = rw w.makes (made_lt f A m.x w);
        z_lt = rw w.makes m.holds.fits;
        l_meets = w.head_meets;
        t_meets = w.tail_meets;
        x_meets = rw w.makes m.holds.number;
        z_meets = rw w.makes m.holds.sum;
        carries_allow = λ i h. allows_moved (f + 1) (1 + A.below) A.carries formed.carries (carry_of (not A.like) w.H w.T)
            (λ k l. (row_allowed A false forward w.H w.T (k + (1 + A.below)) k).1 (w.carries_allow k l)) i;
      }

-- the question as it is put, where the carry mask is moved up above the bits below unless that loses bits
pub asked : (f : ℕ) (A : pair.Aligned) (carries x z : Mask) (constant carry : ℕ) → carry < 2
    → ((k : ℕ) → k + (1 + A.below) ≤ 64 → A.carries.care < 2 ^ k → A.carries.value < 2 ^ k → carries ≡ raised (1 + A.below) A.carries)
    → A.reversed ≡ false → Formed f A → Answered (wires_of A carries x z constant carry) (columns_of f A) ↔ Making f A (Added f A x z constant carry)
asked f A carries x z constant carry small moved forward formed = (
  (λ s. asked_sound f A forward formed x z constant carry s.l s.t (rw same at s.solved)),
  λ m. record {
    columns_lt = formed.room.columns;
    carry_lt = small;
    l = m.made.H;
    t = m.made.T;
    solved = rw same (asked_complete f A forward formed x z constant carry m);
  },
)
  where
    same : carries ≡ raised (1 + A.below) A.carries
    same = moved (f + 1) (omega (arith, aligned_lt f A formed.room)) formed.carries.below (value_below (f + 1) A.carries formed.carries)
