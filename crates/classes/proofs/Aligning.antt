-- Significands that are aligned alike: the pair of exponent fields that stands for a class has the masks of every pair of the class, since
-- a far gap drops the whole smaller significand. With a gap of 2 places or more the sum has one digit less than the larger operand at the
-- least.
-- Assumes nothing.
use Rattle.std.proofs.Common.{◌≡◌, ℕ, zero, suc, ◌+◌, ◌-◌, ◌*◌, ◌^◌, ◌<◌, ◌≤◌, Bool, true, false, not, ◌&&◌, eqb, ◌⊎◌, sym, refl, ap, ◌∙◌, ap₂, inl, inr, lt_of_lt_of_le, mul_comm, div-lt_iff_lt-mul, mul-le-mul_left, mul-suc, arith, pow_pos, pow_mono, pow-add, eq-eqb, ne_eqb}
use native.Mathlib.Decide.{dec_le, ℕ_discrete}
use lib.Ieee.{size}
use Rattle.format.specs.declared.Format.{Format}
use Rattle.format.specs.Format.{precision}
use Rattle.mask.specs.declared.Mask.{Mask}
use Rattle.mask.specs.Mask.{Meets, WellFormed}
use Rattle.word.specs.declared.Biased.{Biased}
use Rattle.word.specs.Word.{unit_of, significand}
use Rattle.rounding.specs.Sticky.{guarded_at}
use Rattle.rounding.specs.Width.{aligned_bits, mask_bits}
use Rattle.rounding.proofs.Align.{tail_none}
use Rattle.rounding.proofs.Sticky.{with_sticky_bounds}
use Rattle.significand.specs.Significand.{top_bit, significand_mask}
use Rattle.significand.specs.Tail.{tail_mask}
use Rattle.significand.proofs.Significand.{significand_formed, significand_meets}
use Rattle.significand.proofs.Tail.{Room, tail_complete, tail_far}
use Rattle.making.specs.Making.{Made}
use Rattle.outcome.proofs.Range.{made_like, made_unlike}
use Rattle.pair.specs.declared.Side.{Side}
use Rattle.special.specs.Asked.{field_is}
use Rattle.pair.specs.Pair.{significands_of, gap_of, reversed_of, bits_below, aligned_of}
use Rattle.classes.specs.Class.{far_gap, top_field, lower_field, low_field, at_field}

-- the smaller field of the pair that stands for a class is at most its larger one
pub low_le : (f gap e : ℕ) → (lower_field f gap e).0 ≤ (top_field f).0
low_le f gap zero = omega arith
low_le f gap (suc e) = omega arith

-- and below it where the pair's smaller field is below its larger one
low_lt : (f E e : ℕ) → e < E → (lower_field f (E - 1 - (e - 1)) e).0 < (top_field f).0
low_lt f E zero l = omega arith
low_lt f E (suc e) l = omega arith

pub low_same : (f E : ℕ) → 1 ≤ E → lower_field f 0 E ≡ top_field f
low_same f zero l = absurd (omega arith)
low_same f (suc E) l = ap field_is (omega arith)

-- a gap of two places or more is kept as such
pub low_two : (f gap e : ℕ) → 1 ≤ e → 2 ≤ gap → (lower_field f gap e).0 + 2 ≤ (top_field f).0
low_two f gap zero some far = absurd (omega arith)
low_two f gap (suc e) some far = omega arith

-- and is one of the pair that stands for the class
pub gap_two : (f gap e : ℕ) → (lower_field f gap e).0 + 2 ≤ (top_field f).0 → 2 ≤ (unit_of (top_field f)).0 - (unit_of (lower_field f gap e)).0
gap_two f gap e l = omega arith

-- a near gap is that of the pair that stands for the class, and a far one is far there
near_gap : (far gap : ℕ) → gap ≤ far → gap ≡ far + 1 - 1 - (far - gap + 1 - 1)
near_gap far gap l = omega arith

past_gap : (far gap : ℕ) → far < gap → far ≤ far + 1 - 1 - (far - gap + 1 - 1)
past_gap far gap l = omega arith

-- ---- the masks of aligned significands
top_one : (e : ℕ) → 1 ≤ e → top_bit e ≡ 1
top_one zero h = absurd (omega arith)
top_one (suc e) h = refl

significand_normal : (f e t : ℕ) → 1 ≤ e → significand f e t ≡ 2 ^ f + t
unfolding significand
significand_normal f zero t h = absurd (omega arith)
significand_normal f (suc e) t h = refl

pub head_same : (f : ℕ) (m : Mask) (e k : Biased) → 1 ≤ e.0 → 1 ≤ k.0 → significand_mask f m e ≡ significand_mask f m k
unfolding significand_mask
head_same f m e k h l = ap (Rattle.mask.specs.Mask.fix m f) (top_one e.0 h ∙ sym (top_one k.0 l))

-- how the bits below a significand stand to the reach of a job: a far gap drops a significand with them all, and no more than one is spared
pub record Spans (f q r : ℕ) : Type 0 where
  pub least : f + q ≤ far_gap r
  pub most : far_gap r ≤ f + q + 1

-- those that two operands have
pub spans_of : (f G : ℕ) (like : Bool) → 1 ≤ G → Spans f (bits_below G like) (f + G - 1)
spans_of f G true least = record { least = omega arith; most = omega arith }
spans_of f G false least = record { least = omega arith; most = omega arith }

module _ (F : Format) (q r : ℕ) (spans : Spans F.f q r) (room : Room q (precision F)) (m : Mask) (formed : WellFormed F.f m) where
  f_most : F.f < 64
  f_most = omega (arith, room.short)

  pub far : (g : Biased) (d e : ℕ) → far_gap r ≤ d → far_gap r ≤ e → tail_mask q (precision F) (significand_mask F.f m g) d ≡ tail_mask q (precision F) (significand_mask F.f m g) e
  far g d e hd he =
      tail_far q (precision F) (significand_mask F.f m g) d e room (significand_formed F.f m f_most formed g) (omega (arith, spans.least, room.some)) (omega (arith, spans.least, room.some))

  -- the tail of a field e below the field E, and that of the pair that stands for the class
  tail_same : (E e : ℕ) → ((top_field r).0 ≤ E) ⊎ (1 ≤ e) → e ≤ E
      → tail_mask q (precision F) (significand_mask F.f m (field_is e)) (E - 1 - (e - 1))
      ≡ tail_mask q (precision F) (significand_mask F.f m (lower_field r (E - 1 - (e - 1)) e)) ((unit_of (top_field r)).0 - (unit_of (lower_field r (E - 1 - (e - 1)) e)).0)
  tail_same E zero (inl h) l = far (field_is 0) (E - 1 - (0 - 1)) ((unit_of (top_field r)).0 - (0 - 1)) (omega arith) (omega arith)
  tail_same E zero (inr h) l = absurd (omega arith)
  tail_same E (suc e) h l = go (dec_le (E - 1 - (suc e - 1)) (far_gap r))
    where
      lower : ℕ
      lower = (unit_of (top_field r)).0 - (unit_of (lower_field r (E - 1 - (suc e - 1)) (suc e))).0

      same : significand_mask F.f m (field_is (suc e)) ≡ significand_mask F.f m (lower_field r (E - 1 - (suc e - 1)) (suc e))
      same = head_same F.f m (field_is (suc e)) (lower_field r (E - 1 - (suc e - 1)) (suc e)) (omega arith) (omega arith)

      go : Dec (E - 1 - (suc e - 1) ≤ far_gap r)
          → tail_mask q (precision F) (significand_mask F.f m (field_is (suc e))) (E - 1 - (suc e - 1))
          ≡ tail_mask q (precision F) (significand_mask F.f m (lower_field r (E - 1 - (suc e - 1)) (suc e))) lower
      go (yes near) = ap₂ (tail_mask q (precision F)) same (near_gap (far_gap r) (E - 1 - (suc e - 1)) near)
      go (no past) =
          far (field_is (suc e)) (E - 1 - (suc e - 1)) lower (omega arith) (past_gap (far_gap r) (E - 1 - (suc e - 1)) (omega arith))
          ∙ ap (λ (n : Mask). tail_mask q (precision F) n lower) same

-- the fields of the pair that stands for a class are equal exactly where those of the pair are, so its row is reversed where theirs is
reversed_same : (f : ℕ) (x y : Side) → 1 ≤ x.exponent.0 → y.exponent.0 ≤ x.exponent.0 → reversed_of x y ≡ reversed_of (at_field x (top_field f)) (at_field y (low_field f x.exponent y.exponent))
reversed_same f x y some l = ap (λ (t : Bool). y.lhs && (t && not (eqb x.sign y.sign))) (go (ℕ_discrete x.exponent.0 y.exponent.0))
  where
    go : Dec (x.exponent.0 ≡ y.exponent.0) → eqb x.exponent.0 y.exponent.0 ≡ eqb (top_field f).0 (low_field f x.exponent y.exponent).0
    go (yes e) =
        eq-eqb x.exponent.0 y.exponent.0 e
        ∙ sym (eq-eqb (top_field f).0 (low_field f x.exponent y.exponent).0 (ap (λ (b : Biased). b.0) (sym (low_same f y.exponent.0 (omega (arith, some, e))) ∙ ap (λ (d : ℕ). lower_field f d y.exponent.0) (omega (arith, e)))))
    go (no n) =
        ne_eqb x.exponent.0 y.exponent.0 n
        ∙ sym (ne_eqb (top_field f).0 (low_field f x.exponent y.exponent).0 (λ e. let b = low_lt f x.exponent.0 y.exponent.0 (omega (arith, l, n)) in omega (arith, b, e)))

-- the sides of a pair, and those of the pair that stands for its class
pub aligned_same : (F : Format) (G r : ℕ) (carries : Mask) (x y : Side) → Spans F.f (bits_below G (eqb x.sign y.sign)) r → Room (bits_below G (eqb x.sign y.sign)) (precision F)
    → WellFormed F.f x.fraction → WellFormed F.f y.fraction
    → 1 ≤ x.exponent.0 → ((top_field r).0 ≤ x.exponent.0) ⊎ (1 ≤ y.exponent.0) → y.exponent.0 ≤ x.exponent.0
    → aligned_of F G carries x y ≡ aligned_of F G carries (at_field x (top_field r)) (at_field y (low_field r x.exponent y.exponent))
aligned_same F G r carries x y spans room fx fy some h l =
    ap₂ (λ (m t : Mask). record { like = like; reversed = reversed_of x y; below = q; head = m; tail = t; carries = carries })
    (ap (λ (k : Mask). tail_mask q (precision F) k 0) (head_same F.f x.fraction x.exponent (top_field r) some (omega arith)))
    (tail_same F q r spans room y.fraction fy x.exponent.0 y.exponent.0 h l)
    ∙ ap (λ (t : Bool). record { like = like; reversed = t; below = q; head = tail_mask q (precision F) (significands_of F x') 0; tail = tail_mask q (precision F) (significands_of F y') (gap_of x' y'); carries = carries })
    (reversed_same r x y some l)
  where
    like : Bool
    like = eqb x.sign y.sign

    q : ℕ
    q = bits_below G (eqb x.sign y.sign)

    x' : Side
    x' = at_field x (top_field r)

    y' : Side
    y' = at_field y (low_field r x.exponent y.exponent)

-- ---- with a gap of 2 places or more the sum has one digit less than the larger operand at the least
module _ (F : Format) (q : ℕ) (room : Room q (precision F)) (m : Mask) (formed : WellFormed F.f m) where
  short : (n : ℕ) → n < 2 ^ aligned_bits q F.f → n < 2 ^ mask_bits
  short n h = lt_of_lt_of_le h (pow_mono {i = aligned_bits q F.f} {j = mask_bits} (omega (arith, room.few, room.short)))

  own : (e : Biased) → WellFormed (precision F) (significand_mask F.f m e)
  own e = significand_formed F.f m (omega (arith, room.short)) formed e

  head_least : (e : Biased) → 1 ≤ e.0 → (H : ℕ) → H < 2 ^ aligned_bits q F.f → Meets H (tail_mask q (precision F) (significand_mask F.f m e) 0) → 2 ^ (F.f + q) ≤ H
  head_least e some H l met =
      let r = tail_complete q (precision F) (significand_mask F.f m e) 0 room (own e) H (short H l) met in
      let t = (significand_meets F.f m (omega (arith, room.short)) formed e r.0).0 (r.2, r.1) in
      let n : 2 ^ F.f ≤ r.0 = omega (arith, t.3, significand_normal F.f e.0 t.0 some) in
      omega (arith, tail_none q room.some r.0, r.3, pow-add 2 F.f q, mul-le-mul_left (2 ^ q) n, mul_comm (2 ^ q) (2 ^ F.f))

  tail_most : (g : Biased) (d T : ℕ) → 2 ≤ q → 2 ≤ d → T < 2 ^ aligned_bits q F.f → Meets T (tail_mask q (precision F) (significand_mask F.f m g) d) → T < 2 ^ (F.f + q - 1)
  tail_most g d T two far l met =
      let r = tail_complete q (precision F) (significand_mask F.f m g) d room (own g) T (short T l) met in
      let half : ℕ = F.f + (q - 2) in
      let w = mul-le-mul_left (2 ^ half) (pow_mono {i = 2} {j = d} far) in
      let a : 2 ^ (q - 1) * 2 ^ precision F ≡ 2 ^ half * 2 ^ 2 = sym (pow-add 2 (q - 1) (precision F)) ∙ ap (λ (n : ℕ). 2 ^ n) (omega arith) ∙ pow-add 2 half 2 in
      let b : 2 ^ (F.f + q - 1) ≡ 2 ^ half * 2 = ap (λ (n : ℕ). 2 ^ n) (omega arith) ∙ pow-add 2 half 1 in
      let z = mul-le-mul_left (2 ^ (q - 1)) r.1 in
      let h = (div-lt_iff_lt-mul {k = 2 ^ d} {x = guarded_at q r.0} {y = 2 ^ half} (pow_pos d)).1 (omega (arith, w, a, z, pow_pos (q - 1), mul-suc (2 ^ (q - 1)) r.0)) in
      omega (arith, with_sticky_bounds (guarded_at q r.0) d, r.3, b)

pub made_long : (F : Format) (G : ℕ) → 1 ≤ G → (carries : Mask) (x y : Side) (n : ℕ) → Room (bits_below G (eqb x.sign y.sign)) (precision F)
    → WellFormed F.f x.fraction → WellFormed F.f y.fraction
    → 1 ≤ x.exponent.0 → 2 ≤ gap_of x y → Made F.f (aligned_of F G carries x y) n → far_gap (F.f + G - 1) ≤ size n
made_long F G least carries x y n room fx fy some far made = go (eqb x.sign y.sign) refl
  where
    head : 2 ^ (F.f + bits_below G (eqb x.sign y.sign)) ≤ made.H
    head = head_least F (bits_below G (eqb x.sign y.sign)) room x.fraction fx x.exponent some made.H made.head_lt made.head_meets

    go : (like : Bool) → eqb x.sign y.sign ≡ like → far_gap (F.f + G - 1) ≤ size n
    go true e =
        let h = made_like F.f (aligned_of F G carries x y) n made e head in
        omega (arith, h, ap (bits_below G) e)
    go false e =
        let is : bits_below G (eqb x.sign y.sign) ≡ G + 2 = ap (bits_below G) e in
        let t = tail_most F (bits_below G (eqb x.sign y.sign)) room y.fraction fy y.exponent (gap_of x y) made.T (omega (arith, is, least)) far made.tail_lt made.tail_meets in
        let h = made_unlike F.f (aligned_of F G carries x y) n made room.some e head t in
        omega (arith, h, is)
