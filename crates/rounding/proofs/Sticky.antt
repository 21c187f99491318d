-- Laws of the sticky bit: it tells zero from nonzero, so a comparison with a multiple of the unit, and a sum or difference with one, are
-- the same with it as with all that was dropped. Assumes nothing.
use mathlib.Core.Path.{◌≡◌, sym, ap, ap₂, ◌∙◌}
use mathlib.Core.Bool.{Bool, cond}
use Prim.Native.Nat.{ℕ, suc, ◌+◌, ◌-◌, ◌*◌, ◌/◌, ◌%◌, ◌^◌, ◌≤◌, ◌<◌}
use native.Mathlib.Nat.{add_comm, mod-lt, mod-one, div-one, mul-le-mul_right, suc-mul, add-mul, zero-mul, mul-add-div_right, mul-add-mod_self_right, div-add-mod', mul_right_comm}
use native.Mathlib.Decide.{dec_lt, ℕ_discrete}
use native.Mathlib.Omega.{arith}
use borrow.Author.Tests.{lt-ltb, le-ltb, eq-eqb, ne_eqb}
use lib.Arith.{digits_div, digits_mod}
use lib.Dec.{ltb, eqb}
use lib.Pow.{pow_pos, shr-shr, mod-pow-add}
use Rattle.rounding.specs.Dropped.{sticky, with_sticky}
use Rattle.bits.proofs.Division.{div_scale, mod_scale, eqb_scale, mul_sub_right}

pub sticky_zero : {s : ℕ} → s ≡ 0 → sticky s ≡ 0
sticky_zero {s} e = rw (eq-eqb s 0 e)

pub sticky_one : {s : ℕ} → 0 < s → sticky s ≡ 1
sticky_one {s} h = rw (ne_eqb s 0 (λ e. omega arith))

pub sticky_lt : (s : ℕ) → sticky s < 2
sticky_lt s = go (ℕ_discrete s 0)
  where
    go : Dec (s ≡ 0) → sticky s < 2
    go (yes e) = let t = sticky_zero e in omega arith
    go (no e) = let t = sticky_one {s = s} (omega arith) in omega arith

pub sticky_scale : (s c : ℕ) → 0 < c → sticky (s * c) ≡ sticky s
sticky_scale s c pos = ap (λ (t : Bool). cond t 0 1) (ap (λ (z : ℕ). eqb (s * c) z) (sym (zero-mul c)) ∙ eqb_scale c pos s 0)

-- a number of units and less than a unit, against a number of units
module _ (H h s U : ℕ) (below : s < U) where
  pub above_sticky : ltb (H * U) (h * U + s) ≡ ltb (2 * H) (2 * h + sticky s)
  above_sticky = go (ℕ_discrete s 0) (dec_lt H h) (dec_lt h H)
    where
      go : Dec (s ≡ 0) → Dec (H < h) → Dec (h < H) → ltb (H * U) (h * U + s) ≡ ltb (2 * H) (2 * h + sticky s)
      go z (yes l) o =
          let k = mul-le-mul_right U l in
          let e = suc-mul H U in
          lt-ltb (H * U) (h * U + s) (omega arith) ∙ sym (lt-ltb (2 * H) (2 * h + sticky s) (omega arith))
      go (yes z) (no l) o =
          let k = mul-le-mul_right {m = h} {n = H} U (omega arith) in
          le-ltb (H * U) (h * U + s) (omega arith) ∙ sym (le-ltb (2 * H) (2 * h + sticky s) (rw (sticky_zero z) (omega arith)))
      go (no z) (no l) (yes o) =
          let k = mul-le-mul_right U o in
          let e = suc-mul h U in
          le-ltb (H * U) (h * U + s) (omega arith) ∙ sym (le-ltb (2 * H) (2 * h + sticky s) (rw (sticky_one {s = s} (omega arith)) (omega arith)))
      go (no z) (no l) (no o) =
          let e : H ≡ h = omega arith in
          rw e (lt-ltb (h * U) (h * U + s) (omega arith) ∙ sym (lt-ltb (2 * h) (2 * h + sticky s) (rw (sticky_one {s = s} (omega arith)) (omega arith))))

  pub equal_sticky : eqb (h * U + s) (H * U) ≡ eqb (2 * h + sticky s) (2 * H)
  equal_sticky = go (ℕ_discrete s 0) (dec_lt H h) (dec_lt h H)
    where
      go : Dec (s ≡ 0) → Dec (H < h) → Dec (h < H) → eqb (h * U + s) (H * U) ≡ eqb (2 * h + sticky s) (2 * H)
      go z (yes l) o =
          let k = mul-le-mul_right U l in
          let e = suc-mul H U in
          ne_eqb (h * U + s) (H * U) (λ q. omega arith) ∙ sym (ne_eqb (2 * h + sticky s) (2 * H) (λ q. omega arith))
      go (yes z) (no l) (yes o) =
          let k = mul-le-mul_right U o in
          let e = suc-mul h U in
          ne_eqb (h * U + s) (H * U) (λ q. omega arith) ∙ sym (ne_eqb (2 * h + sticky s) (2 * H) (λ q. let t = sticky_zero z in omega arith))
      go (yes z) (no l) (no o) =
          let e : H ≡ h = omega arith in
          rw e (eq-eqb (h * U + s) (h * U) (omega arith) ∙ sym (eq-eqb (2 * h + sticky s) (2 * h) (rw (sticky_zero z) (omega arith))))
      go (no z) (no l) (yes o) =
          let k = mul-le-mul_right U o in
          let e = suc-mul h U in
          ne_eqb (h * U + s) (H * U) (λ q. omega arith)
          ∙ sym (ne_eqb (2 * h + sticky s) (2 * H) (λ q. let t = sticky_one {s = s} (omega arith) in omega arith))
      go (no z) (no l) (no o) =
          let e : H ≡ h = omega arith in
          rw e
          (ne_eqb (h * U + s) (h * U) (λ q. omega arith)
          ∙ sym (ne_eqb (2 * h + sticky s) (2 * h) (λ q. let t = sticky_one {s = s} (omega arith) in omega arith)))

-- half of a comparison with a sticky bit
pub halved : (l r s : ℕ) → s < 2 → ltb (2 * l) (2 * r + s) ≡ ltb l (r + s)
halved l r s h = go (dec_lt l (r + s))
  where
    go : Dec (l < r + s) → ltb (2 * l) (2 * r + s) ≡ ltb l (r + s)
    go (yes t) = lt-ltb (2 * l) (2 * r + s) (omega arith) ∙ sym (lt-ltb l (r + s) t)
    go (no t) = le-ltb (2 * l) (2 * r + s) (omega arith) ∙ sym (le-ltb l (r + s) (omega arith))

-- ---- what lies above and below i bits over the sticky bit
module _ (Z u i : ℕ) where
  half : with_sticky Z u / 2 ≡ Z / 2 ^ u
  unfolding with_sticky
  half = digits_div (Z / 2 ^ u) (sticky_lt (Z % 2 ^ u))

  last : with_sticky Z u % 2 ≡ sticky (Z % 2 ^ u)
  unfolding with_sticky
  last = digits_mod (Z / 2 ^ u) (sticky_lt (Z % 2 ^ u))

  pub with_sticky_above : with_sticky Z u / 2 ^ (i + 1) ≡ Z / 2 ^ (u + i)
  with_sticky_above =
      ap (λ (m : ℕ). with_sticky Z u / 2 ^ m) (add_comm i 1) ∙ sym (shr-shr (with_sticky Z u) 1 i) ∙ ap (λ (m : ℕ). m / 2 ^ i) half
      ∙ shr-shr Z u i

  pub with_sticky_below : with_sticky Z u % 2 ^ (i + 1) ≡ Z / 2 ^ u % 2 ^ i * 2 + sticky (Z % 2 ^ u)
  with_sticky_below = mod-pow-add (with_sticky Z u) i 1 ∙ ap₂ (λ (m n : ℕ). m % 2 ^ i * 2 + n) half last

-- ---- sums and differences with a number of units

pub with_sticky_scale : (Z d v : ℕ) → with_sticky (Z * 2 ^ v) (d + v) ≡ with_sticky Z d
unfolding with_sticky
with_sticky_scale Z d v =
    ap₂ (λ (q s : ℕ). q * 2 + s) (div_scale Z d v) (ap sticky (mod_scale Z d v) ∙ sticky_scale (Z % 2 ^ d) (2 ^ v) (pow_pos v))

pub with_sticky_add : (L Z d : ℕ) → with_sticky (L * 2 ^ d + Z) d ≡ 2 * L + with_sticky Z d
unfolding with_sticky
with_sticky_add L Z d =
    ap₂ (λ (q s : ℕ). q * 2 + s) (mul-add-div_right (pow_pos d) L Z) (ap sticky (mul-add-mod_self_right L (2 ^ d) Z))
    ∙ omega arith

-- L units less z units and s: as many units and a rest as 2 * L less z and the sticky bit say
module _ (L z s P : ℕ) (below : s < P) (fits : z * P + s ≤ L * P) where
  sub_sticky : (L * P - (z * P + s)) / P * 2 + sticky ((L * P - (z * P + s)) % P) ≡ 2 * L - (z * 2 + sticky s)
  sub_sticky = go (ℕ_discrete s 0) (dec_lt z L)
    where
      digits : (q r : ℕ) → r < P → L * P - (z * P + s) ≡ q * P + r → (L * P - (z * P + s)) / P * 2 + sticky ((L * P - (z * P + s)) % P) ≡ q * 2 + sticky r
      digits q r l e = ap (λ (n : ℕ). n / P * 2 + sticky (n % P)) e ∙ ap₂ (λ (a b : ℕ). a * 2 + sticky b) (digits_div q l) (digits_mod q l)

      go : Dec (s ≡ 0) → Dec (z < L) → (L * P - (z * P + s)) / P * 2 + sticky ((L * P - (z * P + s)) % P) ≡ 2 * L - (z * 2 + sticky s)
      go (yes e) l =
          let m = mul_sub_right L z P in
          digits (L - z) 0 (omega arith) (omega arith) ∙ rw (sticky_zero e) (omega arith)
      go (no e) (yes l) =
          let m = mul-le-mul_right P l in
          let n = suc-mul z P in
          let k = mul_sub_right L (suc z) P in
          digits (L - suc z) (P - s) (omega arith) (omega arith)
          ∙ ap (λ (b : ℕ). (L - suc z) * 2 + b) (sticky_one {s = P - s} (omega arith))
          ∙ rw (sticky_one {s = s} (omega arith)) (omega arith)
      go (no e) (no l) =
          let m = mul-le-mul_right {m = L} {n = z} P (omega arith) in
          absurd (omega arith)

pub with_sticky_sub : (L Z d : ℕ) → Z ≤ L * 2 ^ d → with_sticky (L * 2 ^ d - Z) d ≡ 2 * L - with_sticky Z d
unfolding with_sticky
with_sticky_sub L Z d h =
    let whole = div-add-mod' Z (2 ^ d) in
    ap (λ (n : ℕ). (L * 2 ^ d - n) / 2 ^ d * 2 + sticky ((L * 2 ^ d - n) % 2 ^ d)) (sym whole)
    ∙ sub_sticky L (Z / 2 ^ d) (Z % 2 ^ d) (2 ^ d) (mod-lt Z (pow_pos d)) (omega arith)

-- no bit is dropped
pub with_sticky_none : (Z : ℕ) → with_sticky Z 0 ≡ 2 * Z
unfolding with_sticky
with_sticky_none Z = ap₂ (λ (q s : ℕ). q * 2 + sticky s) (div-one Z) (mod-one Z) ∙ omega arith

-- where nothing was dropped
pub with_sticky_exact : (Z u : ℕ) → Z % 2 ^ u ≡ 0 → with_sticky Z u * 2 ^ u ≡ 2 * Z
unfolding with_sticky
with_sticky_exact Z u e =
    let w = div-add-mod' Z (2 ^ u) in
    let m = add-mul (Z / 2 ^ u * 2) (sticky (Z % 2 ^ u)) (2 ^ u) in
    let t = ap (λ (b : ℕ). b * 2 ^ u) (sticky_zero e) in
    let k = mul_right_comm (Z / 2 ^ u) 2 (2 ^ u) in
    omega (arith, zero-mul (2 ^ u))

pub with_sticky_bounds : (Z u : ℕ) → (2 * (Z / 2 ^ u) ≤ with_sticky Z u) × (with_sticky Z u < 2 * (Z / 2 ^ u) + 2)
unfolding with_sticky
with_sticky_bounds Z u = go (ℕ_discrete (Z % 2 ^ u) 0)
  where
    go : Dec (Z % 2 ^ u ≡ 0) → (2 * (Z / 2 ^ u) ≤ Z / 2 ^ u * 2 + sticky (Z % 2 ^ u)) × (Z / 2 ^ u * 2 + sticky (Z % 2 ^ u) < 2 * (Z / 2 ^ u) + 2)
    go (yes e) = let t = sticky_zero e in omega arith
    go (no e) = let t = sticky_one {s = Z % 2 ^ u} (omega arith) in omega arith
