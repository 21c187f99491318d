-- Two operands l and r, r's unit not above l's. With q bits below l's last one, the last of them sticky, l's significand and r's aligned to
-- it hold the exact sum, and the exact difference where r is not the larger; this for any q. With q above G they hold enough of a sum to tell
-- G bits apart below the last kept one, and with q above G + 1 of a difference. Assumes nothing.
use mathlib.Core.Path.{◌≡◌, refl, sym, ap, ap₂, ◌∙◌, subst}
use mathlib.Core.Logic.{◌⊎◌, inl, inr, ◌↔◌}
use Prim.Native.Nat.{ℕ, zero, suc, ◌+◌, ◌-◌, ◌*◌, ◌/◌, ◌%◌, ◌^◌, ◌≤◌, ◌<◌}
use native.Mathlib.Nat.{mod-lt, mod-one, mul_assoc, mul_comm, mul-le-mul_left, le_of_mul-le-mul_right, lt_of_mul-lt-mul_right, mul-lt-mul_of_pos_right, mul-mod_left, div-add-mod', div-lt_iff_lt-mul, eq_of_mul-eq-mul_left, eq_of_mul-eq-mul_right, pow-suc}
use native.Mathlib.Decide.{dec_lt, dec_le}
use native.Mathlib.Omega.{arith}
use borrow.Author.Tests.{ltb-true, ltb-false, lt-ltb, le-ltb, eqb-true, eq-eqb}
use lib.Dec.{eqb}
use lib.Pow.{pow_pos, pow_mono, pow-add, add-lt-pow, shr_le}
use Rattle.format.specs.declared.Format.{Format}
use Rattle.format.specs.Format.{precision}
use Rattle.rounding.specs.Dropped.{sticky, with_sticky}
use Rattle.rounding.specs.Sticky.{guarded_at, head_at, tail_at, Held}
use Rattle.rounding.specs.Width.{aligned_bits, sum_bits, long_bits}
use Rattle.bits.proofs.Division.{mod_scale, mul_sub_right}
use Rattle.rounding.proofs.Widths.{aligned_width, sum_width}
use Rattle.rounding.proofs.Sticky.{above_sticky, equal_sticky, with_sticky_scale, with_sticky_add, with_sticky_sub, with_sticky_none, with_sticky_bounds}

-- above a number of units, or not: with the sticky bit too; and equal to it exactly when equal
pub with_sticky_lt : (L Z d : ℕ) → L * 2 ^ d < Z → 2 * L < with_sticky Z d
unfolding with_sticky
with_sticky_lt L Z d h =
    let w = div-add-mod' Z (2 ^ d) in
    let t = sym (above_sticky L (Z / 2 ^ d) (Z % 2 ^ d) (2 ^ d) (mod-lt Z (pow_pos d))) ∙ lt-ltb (L * 2 ^ d) (Z / 2 ^ d * 2 ^ d + Z % 2 ^ d) (omega arith) in
    omega (arith, ltb-true (2 * L) (2 * (Z / 2 ^ d) + sticky (Z % 2 ^ d)) t)

pub with_sticky_le : (L Z d : ℕ) → Z ≤ L * 2 ^ d → with_sticky Z d ≤ 2 * L
unfolding with_sticky
with_sticky_le L Z d h =
    let w = div-add-mod' Z (2 ^ d) in
    let t = sym (above_sticky L (Z / 2 ^ d) (Z % 2 ^ d) (2 ^ d) (mod-lt Z (pow_pos d))) ∙ le-ltb (L * 2 ^ d) (Z / 2 ^ d * 2 ^ d + Z % 2 ^ d) (omega arith) in
    omega (arith, ltb-false (2 * L) (2 * (Z / 2 ^ d) + sticky (Z % 2 ^ d)) t)

pub with_sticky_equal : (L Z d : ℕ) → eqb (with_sticky Z d) (2 * L) ≡ eqb Z (L * 2 ^ d)
unfolding with_sticky
with_sticky_equal L Z d =
    ap (λ (n : ℕ). eqb n (2 * L)) (omega arith)
    ∙ sym (equal_sticky L (Z / 2 ^ d) (Z % 2 ^ d) (2 ^ d) (mod-lt Z (pow_pos d)))
    ∙ ap (λ (n : ℕ). eqb n (L * 2 ^ d)) (div-add-mod' Z (2 ^ d))

-- ---- significands with q bits below them
module _ (q : ℕ) (some : 0 < q) where
  -- the sticky bit's place doubles what stands before it
  pub head_double : (m : ℕ) → head_at q m ≡ 2 * guarded_at q m
  head_double m =
      let up : q ≡ suc (q - 1) = omega arith in
      ap (λ (k : ℕ). 2 ^ k * m) up ∙ ap (λ (n : ℕ). n * m) (pow-suc 2 (q - 1)) ∙ omega arith

  -- with no gap the two are the same
  pub tail_none : (m : ℕ) → tail_at q m 0 ≡ head_at q m
  tail_none m = with_sticky_none (guarded_at q m) ∙ sym (head_double m)

  -- of a significand of p bits both have q more
  module _ (p m : ℕ) (short : m < 2 ^ p) where
    pub head_short : head_at q m < 2 ^ (p + q)
    head_short = let a = pow-add 2 p q in let b = mul-lt-mul_of_pos_right short (pow_pos q) in omega arith

    pub tail_short : (d : ℕ) → tail_at q m d < 2 ^ (p + q)
    tail_short d =
        let a = pow-add 2 p q in
        let b = mul-le-mul_left (2 ^ (q - 1)) short in
        let c = head_double (2 ^ p) in
        let t = with_sticky_bounds (guarded_at q m) d in
        let s = shr_le (guarded_at q m) d in
        omega (arith, pow_pos (q - 1))

  -- l and r in units 2^u and 2^v, u being d more than v
  module _ (L R u v d : ℕ) (units : d + v ≡ u) where
    -- in r's unit
    scaled : (n : ℕ) → n * 2 ^ u ≡ n * 2 ^ d * 2 ^ v
    scaled n = ap (λ (k : ℕ). n * 2 ^ k) (sym units) ∙ ap (λ (m : ℕ). n * m) (pow-add 2 d v) ∙ sym (mul_assoc n (2 ^ d) (2 ^ v))

    guarded_scaled : guarded_at q (L * 2 ^ u) ≡ guarded_at q L * 2 ^ d * 2 ^ v
    guarded_scaled = ap (guarded_at q) (scaled L) ∙ omega arith

    pub sum_stands : with_sticky (guarded_at q (L * 2 ^ u + R * 2 ^ v)) u ≡ head_at q L + tail_at q R d
    sum_stands =
        ap₂ with_sticky whole (sym units) ∙ with_sticky_scale (guarded_at q L * 2 ^ d + guarded_at q R) d v ∙ with_sticky_add (guarded_at q L) (guarded_at q R) d
        ∙ ap (λ (n : ℕ). n + tail_at q R d) (sym (head_double L))
      where
        whole : guarded_at q (L * 2 ^ u + R * 2 ^ v) ≡ (guarded_at q L * 2 ^ d + guarded_at q R) * 2 ^ v
        whole = let b = guarded_scaled in omega arith

    below : R * 2 ^ v ≤ L * 2 ^ u → guarded_at q R ≤ guarded_at q L * 2 ^ d
    below le =
        let h : R ≤ L * 2 ^ d = le_of_mul-le-mul_right (subst (λ (n : ℕ). R * 2 ^ v ≤ n) (scaled L) le) (pow_pos v) in
        omega (arith, mul-le-mul_left (2 ^ (q - 1)) h)

    -- the aligned significands are ordered as the operands are
    pub tail_ordered : tail_at q R d ≤ head_at q L ↔ (R * 2 ^ v ≤ L * 2 ^ u)
    tail_ordered = (λ h. back h (dec_le (R * 2 ^ v) (L * 2 ^ u)), there)
      where
        there : R * 2 ^ v ≤ L * 2 ^ u → tail_at q R d ≤ head_at q L
        there le = let t = with_sticky_le (guarded_at q L) (guarded_at q R) d (below le) in omega (arith, head_double L)

        back : tail_at q R d ≤ head_at q L → Dec (R * 2 ^ v ≤ L * 2 ^ u) → R * 2 ^ v ≤ L * 2 ^ u
        back h (yes l) = l
        back h (no l) =
            let s : L * 2 ^ d * 2 ^ v < R * 2 ^ v = subst (λ (n : ℕ). n < R * 2 ^ v) (scaled L) (omega arith) in
            let g : L * 2 ^ d < R = lt_of_mul-lt-mul_right (2 ^ v) s in
            let t = with_sticky_lt (guarded_at q L) (guarded_at q R) d (omega (arith, mul-le-mul_left (2 ^ (q - 1)) g, pow_pos (q - 1))) in
            absurd (omega (arith, head_double L))

    -- and equal exactly when they are
    pub equal_tail : L * 2 ^ u ≡ R * 2 ^ v ↔ (head_at q L ≡ tail_at q R d)
    equal_tail = (
      λ e.
          let h : R ≡ L * 2 ^ d = eq_of_mul-eq-mul_right (2 ^ v) (pow_pos v) R (L * 2 ^ d) (sym e ∙ scaled L) in
          let g : guarded_at q R ≡ guarded_at q L * 2 ^ d = ap (guarded_at q) h ∙ omega arith in
          let t = eqb-true (tail_at q R d) (2 * guarded_at q L) (with_sticky_equal (guarded_at q L) (guarded_at q R) d ∙ eq-eqb (guarded_at q R) (guarded_at q L * 2 ^ d) g) in
          head_double L ∙ sym t,
      λ e.
          let o : tail_at q R d ≡ 2 * guarded_at q L = sym e ∙ head_double L in
          let g = eqb-true (guarded_at q R) (guarded_at q L * 2 ^ d) (sym (with_sticky_equal (guarded_at q L) (guarded_at q R) d) ∙ eq-eqb (tail_at q R d) (2 * guarded_at q L) o) in
          let h : R ≡ L * 2 ^ d = eq_of_mul-eq-mul_left (2 ^ (q - 1)) (pow_pos (q - 1)) R (L * 2 ^ d) (g ∙ mul_assoc (2 ^ (q - 1)) L (2 ^ d)) in
          scaled L ∙ ap (λ (n : ℕ). n * 2 ^ v) (sym h),
    )

    -- ---- the difference, r being not the larger
    module _ (le : R * 2 ^ v ≤ L * 2 ^ u) where
      whole : guarded_at q (L * 2 ^ u - R * 2 ^ v) ≡ (guarded_at q L * 2 ^ d - guarded_at q R) * 2 ^ v
      whole =
          mul_comm (2 ^ (q - 1)) (L * 2 ^ u - R * 2 ^ v) ∙ mul_sub_right (L * 2 ^ u) (R * 2 ^ v) (2 ^ (q - 1))
          ∙ ap₂ ◌-◌ (mul_comm (L * 2 ^ u) (2 ^ (q - 1)) ∙ guarded_scaled) (omega arith)
          ∙ sym (mul_sub_right (guarded_at q L * 2 ^ d) (guarded_at q R) (2 ^ v))

      pub difference_stands : with_sticky (guarded_at q (L * 2 ^ u - R * 2 ^ v)) u ≡ head_at q L - tail_at q R d
      difference_stands =
          ap₂ with_sticky whole (sym units) ∙ with_sticky_scale (guarded_at q L * 2 ^ d - guarded_at q R) d v ∙ with_sticky_sub (guarded_at q L) (guarded_at q R) d (below le)
          ∙ ap (λ (n : ℕ). n - tail_at q R d) (sym (head_double L))

      -- a gap of fewer than q places drops nothing
      pub near_exact : d < q → guarded_at q (L * 2 ^ u - R * 2 ^ v) % 2 ^ u ≡ 0
      near_exact h =
          ap₂ (λ (m n : ℕ). m % 2 ^ n) whole (sym units) ∙ mod_scale (guarded_at q L * 2 ^ d - guarded_at q R) d v
          ∙ ap (λ (n : ℕ). n * 2 ^ v)
          (ap (λ (n : ℕ). (guarded_at q L * 2 ^ d - n) % 2 ^ d) units_of ∙ ap (λ (n : ℕ). n % 2 ^ d) (sym (mul_sub_right (guarded_at q L) (R * 2 ^ (q - 1 - d)) (2 ^ d)))
          ∙ mul-mod_left (guarded_at q L - R * 2 ^ (q - 1 - d)) (2 ^ d))
          ∙ native.Mathlib.Nat.zero-mul (2 ^ v)
        where
          back : q - 1 - d + d ≡ q - 1
          back = omega arith

          units_of : guarded_at q R ≡ R * 2 ^ (q - 1 - d) * 2 ^ d
          units_of =
              mul_comm (2 ^ (q - 1)) R ∙ ap (λ (n : ℕ). R * 2 ^ n) (sym back) ∙ ap (λ (n : ℕ). R * n) (pow-add 2 (q - 1 - d) d)
              ∙ sym (mul_assoc R (2 ^ (q - 1 - d)) (2 ^ d))

-- ---- two canonical operands, of which l is normal but in the least unit, with G bits to be told apart
module _ (F : Format) (q G : ℕ) (some : G < q) (L R u v d : ℕ) (units : d + v ≡ u) (hL : L < 2 ^ precision F) (hR : R < 2 ^ precision F) (normal : 0 < u → 2 ^ F.f ≤ L) where
  pos : 0 < q
  pos = omega arith

  head_lt : head_at q L < 2 ^ aligned_bits q F.f
  head_lt = subst (λ (k : ℕ). head_at q L < 2 ^ k) (aligned_width q F) (head_short q pos (precision F) L hL)

  tail_lt : tail_at q R d < 2 ^ aligned_bits q F.f
  tail_lt = subst (λ (k : ℕ). tail_at q R d < 2 ^ k) (aligned_width q F) (tail_short q pos (precision F) R hR d)

  pub sum_lt : head_at q L + tail_at q R d < 2 ^ sum_bits q F.f
  sum_lt = subst (λ (k : ℕ). head_at q L + tail_at q R d < 2 ^ k) (sum_width q F.f) (add-lt-pow (aligned_bits q F.f) head_lt tail_lt)

  -- l's top bit stands above all bits of a long number
  head_long : 0 < u → 2 ^ (F.f + q) ≤ head_at q L
  head_long p = rw (pow-add 2 F.f q) (omega (arith, mul-le-mul_left (2 ^ q) (normal p)))

  pub sum_held : Held F q G (L * 2 ^ u + R * 2 ^ v) (head_at q L + tail_at q R d) u
  sum_held = record { stands = sym (sum_stands q pos L R u v d units); exact_or_long = go u refl }
    where
      go : (n : ℕ) → u ≡ n → (guarded_at q (L * 2 ^ u + R * 2 ^ v) % 2 ^ u ≡ 0) ⊎ (2 ^ long_bits G F.f ≤ head_at q L + tail_at q R d)
      go zero e = inl (ap (λ (n : ℕ). guarded_at q (L * 2 ^ u + R * 2 ^ v) % 2 ^ n) e ∙ mod-one (guarded_at q (L * 2 ^ u + R * 2 ^ v)))
      go (suc n) e = inr (omega (arith, head_long (omega arith), pow_mono {i = long_bits G F.f} {j = F.f + q} (omega arith)))

  -- r being not the larger, with a bit more
  module _ (more : G + 1 < q) (le : R * 2 ^ v ≤ L * 2 ^ u) where
    -- a gap of as many places as there are bits below leaves the difference long
    far_long : q ≤ d → 2 ^ long_bits G F.f ≤ head_at q L - tail_at q R d
    far_long h =
        let n = head_long (omega arith) in
        let r = mul-le-mul_left (2 ^ (q - 1)) hR in
        let m = pow_mono {i = q + F.f} {j = F.f + d} (omega arith) in
        let e : 2 ^ (q - 1) * 2 ^ precision F ≡ 2 ^ (q + F.f) = sym (pow-add 2 (q - 1) (precision F)) ∙ ap (λ (k : ℕ). 2 ^ k) (omega arith) in
        let z = (div-lt_iff_lt-mul {k = 2 ^ d} {x = guarded_at q R} {y = 2 ^ F.f} (pow_pos d)).1 (omega (arith, pow-add 2 F.f d, pow_pos (q - 1))) in
        let b = with_sticky_bounds (guarded_at q R) d in
        let two = pow-add 2 F.f 1 in
        let half : 2 ^ (F.f + q) ≡ 2 * 2 ^ (F.f + (q - 1)) = ap (λ (k : ℕ). 2 ^ k) (omega arith) ∙ pow-suc 2 (F.f + (q - 1)) ∙ omega arith in
        let low = pow_mono {i = F.f + 1} {j = F.f + (q - 1)} (omega arith) in
        let long = pow_mono {i = long_bits G F.f} {j = F.f + (q - 1)} (omega arith) in
        omega arith

    pub difference_held : Held F q G (L * 2 ^ u - R * 2 ^ v) (head_at q L - tail_at q R d) u
    difference_held = record { stands = sym (difference_stands q pos L R u v d units le); exact_or_long = go (dec_lt d q) }
      where
        go : Dec (d < q) → (guarded_at q (L * 2 ^ u - R * 2 ^ v) % 2 ^ u ≡ 0) ⊎ (2 ^ long_bits G F.f ≤ head_at q L - tail_at q R d)
        go (yes h) = inl (near_exact q pos L R u v d units le h)
        go (no h) = inr (far_long (omega arith))
