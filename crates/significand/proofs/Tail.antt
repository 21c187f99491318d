-- The tail mask is met by exactly the aligned forms of the significands that meet a mask. Aligning keeps parts, so each aligned form lies
-- between those of the least and the greatest. Back from a number t between these: its upper part is that of a significand, and below
-- that stands what the least has dropped if t's sticky bit is the least's, and else what the greatest has dropped. Assumes nothing.
use Rattle.std.proofs.Common.{◌≡◌, ℕ, ◌+◌, ◌-◌, ◌*◌, ◌/◌, ◌%◌, ◌^◌, ◌<◌, ◌≤◌, true, ◌&&◌, ltb, leb, ◌↔◌, sym, ap, ◌∙◌, subst, ap₂, lt_of_lt_of_le, lt_of_le_of_lt, add-zero, mul-le-mul_right, mod-lt, mod-eq_of_lt, mul_comm, lt_of_mul-lt-mul_right, mul-le-mul_left, mul-lt-mul_of_pos_right, one-mul, arith, pow_pos, pow_mono, pow-add, ltb-true, lt-ltb, le-leb, leb-true}
use mathlib.Core.Bool.{and-eq-true_iff}
use native.Mathlib.Nat.{div-eq_of_lt, mul-mod_left}
use native.Mathlib.Decide.{ℕ_discrete}
use lib.Arith.{digits_mod}
use lib.Bits.{and_self}
use lib.Pow.{split, high}
use lib.Pow as pow
use Rattle.bits.proofs.Division.{mul_sub_right}
use Rattle.mask.specs.declared.Mask.{Mask}
use Rattle.mask.specs.Mask.{WellFormed, Meets, low}
use Rattle.mask.proofs.ByBits.{value_below}
use Rattle.mask.proofs.Checks.{well_formed_true}
use Rattle.rounding.specs.Dropped.{sticky, with_sticky}
use Rattle.rounding.specs.Sticky.{guarded_at, head_at, tail_at}
use Rattle.rounding.specs.Width.{short_bits, mask_bits}
use Rattle.rounding.proofs.Sticky.{sticky_lt}
use Rattle.rounding.proofs.Align.{tail_none, tail_short, tail_ordered}
use Rattle.significand.specs.Tail.{complement, least, greatest, spanned, forms_mask, aligned_mask, roomy, tail_mask}
use Rattle.significand.proofs.Part.{Part, part_le, part_shr, part_mod, part_block, part_scale, part_unscale, part_with_sticky}
use Rattle.significand.proofs.Range.{greatest_lt, meets_range, spanned_meets}

-- ---- back from a number t between l and g with their sticky bits
module _ (l g d t : ℕ) (lg : Part l g) (above : Part (with_sticky l d) t) (under : Part t (with_sticky g d)) where
  -- the upper part and the sticky bit of a number with its sticky bit
  upper : (x : ℕ) → with_sticky x d / 2 ^ 1 ≡ x / 2 ^ d
  unfolding with_sticky
  upper x = high (x / 2 ^ d) 1 (sticky_lt (x % 2 ^ d))

  lower : (x : ℕ) → with_sticky x d % 2 ^ 1 ≡ sticky (x % 2 ^ d)
  unfolding with_sticky
  lower x = pow.low (x / 2 ^ d) 1 (sticky_lt (x % 2 ^ d))

  -- what may stand below t's upper part: between what l and g have there, with t's sticky bit
  record Dropped : Type 0 where
    rest : ℕ
    rest_lt : rest < 2 ^ d
    told : sticky rest ≡ t % 2
    over : Part (l % 2 ^ d) rest
    within : Part rest (g % 2 ^ d)

  dropped : Dropped
  dropped = go (ℕ_discrete (sticky (l % 2 ^ d)) (t % 2))
    where
      go : Dec (sticky (l % 2 ^ d) ≡ t % 2) → Dropped
      go (yes e) = record { rest = l % 2 ^ d; rest_lt = mod-lt l (pow_pos d); told = e; over = and_self (l % 2 ^ d); within = part_mod d l g lg }
      go (no n) =
          let a = subst (λ (s : ℕ). s ≤ t % 2) (lower l) (part_le (with_sticky l d % 2) (t % 2) (part_mod 1 (with_sticky l d) t above)) in
          let u = subst (λ (s : ℕ). t % 2 ≤ s) (lower g) (part_le (t % 2) (with_sticky g d % 2) (part_mod 1 t (with_sticky g d) under)) in
          record {
            rest = g % 2 ^ d;
            rest_lt = mod-lt g (pow_pos d);
            told = omega (arith, sticky_lt (g % 2 ^ d));
            over = part_mod d l g lg;
            within = and_self (g % 2 ^ d);
          }

  -- t is a number between l and g with its sticky bit
  pub with_sticky_back : (x : ℕ) × Part l x × Part x g × (with_sticky x d ≡ t)
  unfolding with_sticky
  with_sticky_back =
      let s = dropped in
      let x : ℕ = t / 2 * 2 ^ d + s.rest in
      let a = subst (λ (n : ℕ). Part n (t / 2)) (upper l) (part_shr 1 (with_sticky l d) t above) in
      let u = subst (λ (n : ℕ). Part (t / 2) n) (upper g) (part_shr 1 t (with_sticky g d) under) in (
        x,
        subst (λ (n : ℕ). Part n x) (split l d) (part_block d (l / 2 ^ d) (t / 2) (l % 2 ^ d) s.rest (mod-lt l (pow_pos d)) s.rest_lt a s.over),
        subst (λ (n : ℕ). Part x n) (split g d) (part_block d (t / 2) (g / 2 ^ d) s.rest (g % 2 ^ d) s.rest_lt (mod-lt g (pow_pos d)) u s.within),
        ap₂ (λ (q b : ℕ). q * 2 + sticky b) (high (t / 2) d s.rest_lt) (pow.low (t / 2) d s.rest_lt) ∙ ap (λ (b : ℕ). t / 2 * 2 + b) s.told ∙ omega arith,
      )

-- ---- the mask on n bits of the aligned forms of the significands of p bits that meet m, with q bits below the larger operand's last one
module _ (n q p : ℕ) (m : Mask) (d : ℕ) (some : 0 < q) (room : p + q ≤ n) (w : WellFormed p m) where
  least_part : Part (least m) (greatest p m)
  least_part = ((meets_range p m w (least m) (value_below p m w)).0 w.inside).1

  -- aligning keeps parts, and p bits become p + q
  aligned_part : (x y : ℕ) → Part x y → Part (tail_at q x d) (tail_at q y d)
  aligned_part x y h = part_with_sticky (guarded_at q x) (guarded_at q y) d (part_scale (q - 1) x y h)

  aligned_lt : (r : ℕ) → r < 2 ^ p → tail_at q r d < 2 ^ n
  aligned_lt r h = lt_of_lt_of_le (tail_short q some p r h d) (pow_mono room)

  -- the aligned forms of the least and of the greatest
  pub ends_part : Part (tail_at q (least m) d) (tail_at q (greatest p m) d)
  ends_part = aligned_part (least m) (greatest p m) least_part

  pub ends_lt : tail_at q (greatest p m) d < 2 ^ n
  ends_lt = aligned_lt (greatest p m) (greatest_lt p m w)

  forms_meets : (t : ℕ) → t < 2 ^ n → Meets t (forms_mask n q p m d) ↔ (Part (tail_at q (least m) d) t × Part t (tail_at q (greatest p m) d))
  forms_meets t h = spanned_meets n (tail_at q (least m) d) (tail_at q (greatest p m) d) ends_part ends_lt t h

  -- each aligned form meets the mask
  pub forms_sound : (r : ℕ) → r < 2 ^ p → Meets r m → Meets (tail_at q r d) (forms_mask n q p m d)
  forms_sound r h met =
      let range = (meets_range p m w r h).0 met in
      (forms_meets (tail_at q r d) (aligned_lt r h)).1 (aligned_part (least m) r range.0, aligned_part r (greatest p m) range.1)

  -- and each number of n bits that meets the mask is an aligned form
  pub forms_complete : (t : ℕ) → t < 2 ^ n → Meets t (forms_mask n q p m d) → (r : ℕ) × (r < 2 ^ p) × Meets r m × (tail_at q r d ≡ t)
  forms_complete t h met =
      let range = (forms_meets t h).0 met in
      let x = with_sticky_back (guarded_at q (least m)) (guarded_at q (greatest p m)) d t (part_scale (q - 1) (least m) (greatest p m) least_part) range.0 range.1 in
      let r = part_unscale (q - 1) (least m) (greatest p m) x.0 x.1 x.2 in
      let b = lt_of_le_of_lt (part_le r.0 (greatest p m) r.2) (greatest_lt p m w) in
      (r.0, b, (meets_range p m w r.0 b).1 (r.1, r.2), ap (λ (k : ℕ). with_sticky k d) r.3 ∙ x.3)

  -- so such a number is at most the largest significand with q zeros below it
  pub forms_most : (t : ℕ) → t < 2 ^ n → Meets t (forms_mask n q p m d) → t ≤ head_at q (2 ^ p - 1)
  forms_most t h met = let r = forms_complete t h met in subst (λ (k : ℕ). k ≤ head_at q (2 ^ p - 1)) r.3 (most r.0 r.1)
    where
      most : (r : ℕ) → r < 2 ^ p → tail_at q r d ≤ head_at q (2 ^ p - 1)
      most r b =
          let s = mul-le-mul_left (2 ^ p - 1) (pow_pos d) in
          (tail_ordered q some (2 ^ p - 1) r d 0 d (add-zero d)).1 (omega arith)

-- a gap of p + q - 1 places or more drops the whole significand: which one does not matter
far_sticky : (x d : ℕ) → x < 2 ^ d → with_sticky x d ≡ sticky x
unfolding with_sticky
far_sticky x d h = ap₂ (λ (q r : ℕ). q * 2 + sticky r) (div-eq_of_lt h) (mod-eq_of_lt h) ∙ omega arith

pub forms_far : (n q p : ℕ) (m : Mask) (d e : ℕ) → WellFormed p m → p + (q - 1) ≤ d → p + (q - 1) ≤ e → forms_mask n q p m d ≡ forms_mask n q p m e
forms_far n q p m d e w hd he = ap₂ (spanned n) (same (least m) (value_below p m w)) (same (greatest p m) (greatest_lt p m w))
  where
    below : (x k : ℕ) → x < 2 ^ p → p + (q - 1) ≤ k → guarded_at q x < 2 ^ k
    below x k h l =
        let a = pow-add 2 p (q - 1) in
        let b = mul-lt-mul_of_pos_right h (pow_pos (q - 1)) in
        lt_of_lt_of_le (omega arith) (pow_mono {i = p + (q - 1)} {j = k} l)

    same : (x : ℕ) → x < 2 ^ p → tail_at q x d ≡ tail_at q x e
    same x h = far_sticky (guarded_at q x) d (below x d h hd) ∙ sym (far_sticky (guarded_at q x) e (below x e h he))

-- ---- masks on aligned significands, where numbers of p bits have room for q more
pub record Room (q p : ℕ) : Type 0 where
  pub some : 0 < q
  pub few : q < mask_bits
  pub short : p ≤ short_bits q

module _ (q p : ℕ) where
  pub room_of : roomy q p ≡ true → Room q p
  unfolding roomy
  room_of t =
      let a = (and-eq-true_iff (ltb q mask_bits) (ltb 0 q && leb p (short_bits q))).0 t in
      let b = (and-eq-true_iff (ltb 0 q) (leb p (short_bits q))).0 a.1 in
      record { some = ltb-true 0 q b.0; few = ltb-true q mask_bits a.0; short = leb-true p (short_bits q) b.1 }

  pub roomy_of : Room q p → roomy q p ≡ true
  unfolding roomy
  roomy_of r = simp (lt-ltb 0 q r.some, lt-ltb q mask_bits r.few, le-leb p (short_bits q) r.short)

module _ (q p : ℕ) (m : Mask) (d : ℕ) (room : Room q p) (w : WellFormed p m) where
  fits : p + q ≤ mask_bits
  fits = omega (arith, room.few, room.short)

  pub tail_aligned : tail_mask q p m d ≡ aligned_mask q p m d
  unfolding tail_mask
  tail_aligned = simp (roomy_of q p room, (well_formed_true p m).1 w)

  pub tail_sound : (r : ℕ) → r < 2 ^ p → Meets r m → Meets (tail_at q r d) (tail_mask q p m d) × (tail_at q r d < 2 ^ (p + q))
  tail_sound r h met =
      (rw tail_aligned (forms_sound mask_bits q p m d room.some fits w r h met), tail_short q room.some p r h d)

  pub tail_complete : (t : ℕ) → t < 2 ^ mask_bits → Meets t (tail_mask q p m d) → (r : ℕ) × (r < 2 ^ p) × Meets r m × (tail_at q r d ≡ t)
  tail_complete t h met = forms_complete mask_bits q p m d room.some fits w t h (rw tail_aligned at met)

  pub tail_most : (t : ℕ) → t < 2 ^ mask_bits → Meets t (tail_mask q p m d) → t ≤ head_at q (2 ^ p - 1)
  tail_most t h met = forms_most mask_bits q p m d room.some fits w t h (rw tail_aligned at met)

-- with no gap the bits below are fixed to 0
module _ (q p : ℕ) (m : Mask) (room : Room q p) (w : WellFormed p m) where
  below_zeros : (k l g : ℕ) → q ≤ k → l ≤ g → head_at q g < 2 ^ k → (complement k (head_at q g - head_at q l) % 2 ^ q ≡ 2 ^ q - 1) × (head_at q l % 2 ^ q ≡ 0)
  below_zeros k l g few le lt =
      let e : 2 ^ k ≡ 2 ^ (k - q) * 2 ^ q = ap (λ (n : ℕ). 2 ^ n) (omega arith) ∙ pow-add 2 (k - q) q in
      let z : head_at q g - head_at q l ≡ (g - l) * 2 ^ q = ap₂ ◌-◌ (mul_comm (2 ^ q) g) (mul_comm (2 ^ q) l) ∙ sym (mul_sub_right g l (2 ^ q)) in
      let lt' : (g - l) * 2 ^ q < 2 ^ (k - q) * 2 ^ q = omega (arith, z, e) in
      let n = lt_of_mul-lt-mul_right (2 ^ q) lt' in
      let c : complement k (head_at q g - head_at q l) ≡ (2 ^ (k - q) - (g - l) - 1) * 2 ^ q + (2 ^ q - 1) =
      omega (arith, z, e, mul_sub_right (2 ^ (k - q) - (g - l)) 1 (2 ^ q), mul_sub_right (2 ^ (k - q)) (g - l) (2 ^ q), pow_pos q, one-mul (2 ^ q), mul-le-mul_right {m = 1} {n = 2 ^ (k - q) - (g - l)} (2 ^ q) (omega arith)) in
      (ap (λ (x : ℕ). x % 2 ^ q) c ∙ digits_mod (2 ^ (k - q) - (g - l) - 1) (omega (arith, pow_pos q)), ap (λ (x : ℕ). x % 2 ^ q) (mul_comm (2 ^ q) l) ∙ mul-mod_left l (2 ^ q))

  pub tail_below_zero : ((low q (tail_mask q p m 0)).care ≡ 2 ^ q - 1) × ((low q (tail_mask q p m 0)).value ≡ 0)
  tail_below_zero =
      let l = tail_none q room.some (least m) in
      let g = tail_none q room.some (greatest p m) in
      let h = subst (λ (n : ℕ). n < 2 ^ mask_bits) g (ends_lt mask_bits q p m 0 room.some (fits q p m 0 room w) w) in
      let z = below_zeros mask_bits (least m) (greatest p m) (omega (arith, room.few)) (part_le (least m) (greatest p m) (least_part mask_bits q p m 0 room.some (fits q p m 0 room w) w)) h in
      rw (tail_aligned q p m 0 room w, l, g) z

pub tail_far : (q p : ℕ) (m : Mask) (d e : ℕ) → Room q p → WellFormed p m → p + (q - 1) ≤ d → p + (q - 1) ≤ e → tail_mask q p m d ≡ tail_mask q p m e
tail_far q p m d e room w hd he = tail_aligned q p m d room w ∙ forms_far mask_bits q p m d e w hd he ∙ sym (tail_aligned q p m e room w)
