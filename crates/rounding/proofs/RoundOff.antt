-- Rounding off depends on the kept part and on how the dropped part compares with half of the unit and with nothing. So it is the same
-- after scaling, and the same when everything below the round bit is replaced by its sticky bit. Assumes nothing.
use mathlib.Core.Path.{◌≡◌, refl, sym, ap, ap₂, ◌∙◌}
use mathlib.Core.Bool.{Bool, true, false, cond}
use Prim.Native.Nat.{ℕ, suc, ◌+◌, ◌*◌, ◌/◌, ◌%◌, ◌^◌, ◌≤◌, ◌<◌}
use native.Mathlib.Nat.{add_comm, mod-lt, mul_assoc, mul_comm, zero-mul, pow-suc, mod-one, div-one, add-zero, zero-add, div-lt_iff_lt-mul}
use native.Mathlib.Decide.{ℕ_discrete}
use native.Mathlib.Omega.{arith}
use lib.Dec.{ltb, eqb, lit<}
use lib.Pow.{pow_pos, pow-add, split, shr_le, mod-pow-add}
use Rattle.rounding.specs.declared.Direction.{Direction}
use Rattle.rounding.specs.declared.Direction.TheVariants.{NearestEven, NearestAway, TowardZero, Away}
use Rattle.rounding.specs.Rounding.{to_nearest, increment, round_off}
use Rattle.rounding.specs.Dropped.{sticky, with_sticky}
use Rattle.bits.proofs.Division.{div_scale, mod_scale, ltb_scale, eqb_scale}
use Rattle.rounding.proofs.Sticky.{above_sticky, equal_sticky, with_sticky_above, with_sticky_below}

cond_le : {b y z : ℕ} (t : Bool) → z ≤ b → y ≤ b → cond t y z ≤ b
cond_le true hz hy = hy
cond_le false hz hy = hz

-- going to the nearest goes by two tests, and it is a bit
nearest_by : (tie ρ M ρ' M' : ℕ) → ltb M (2 * ρ) ≡ ltb M' (2 * ρ') → eqb (2 * ρ) M ≡ eqb (2 * ρ') M' → to_nearest tie ρ M ≡ to_nearest tie ρ' M'
nearest_by tie ρ M ρ' M' above half = ap₂ (λ (a h : Bool). cond a 1 (cond h tie 0)) above half

nearest_le : (tie ρ M : ℕ) → tie ≤ 1 → to_nearest tie ρ M ≤ 1
nearest_le tie ρ M h = cond_le (ltb M (2 * ρ)) (cond_le (eqb (2 * ρ) M) (omega arith) h) (omega arith)

-- the increment goes by three tests
pub increment_by : (d : Direction) (q ρ M ρ' M' : ℕ) → ltb M (2 * ρ) ≡ ltb M' (2 * ρ') → eqb (2 * ρ) M ≡ eqb (2 * ρ') M' → eqb ρ 0 ≡ eqb ρ' 0
    → increment d q ρ M ≡ increment d q ρ' M'
unfolding increment
increment_by NearestEven q ρ M ρ' M' above half none = nearest_by (q % 2) ρ M ρ' M' above half
increment_by NearestAway q ρ M ρ' M' above half none = nearest_by 1 ρ M ρ' M' above half
increment_by TowardZero q ρ M ρ' M' above half none = refl
increment_by Away q ρ M ρ' M' above half none = ap (λ (t : Bool). cond t 0 1) none

pub increment_scale : (d : Direction) (q ρ M c : ℕ) → 0 < c → increment d q (ρ * c) (M * c) ≡ increment d q ρ M
increment_scale d q ρ M c pos =
    increment_by d q (ρ * c) (M * c) ρ M
    (ap (λ (m : ℕ). ltb (M * c) m) (sym (mul_assoc 2 ρ c)) ∙ ltb_scale c pos M (2 * ρ))
    (ap (λ (m : ℕ). eqb m (M * c)) (sym (mul_assoc 2 ρ c)) ∙ eqb_scale c pos (2 * ρ) M)
    (ap (λ (m : ℕ). eqb (ρ * c) m) (sym (zero-mul c)) ∙ eqb_scale c pos ρ 0)

pub round_off_scale : (d : Direction) (X k i : ℕ) → round_off d (X * 2 ^ i) (k + i) ≡ round_off d X k
unfolding round_off
round_off_scale d X k i =
    rw (div_scale X k i, mod_scale X k i, pow-add 2 k i)
    (ap (λ (n : ℕ). X / 2 ^ k + n) (increment_scale d (X / 2 ^ k) (X % 2 ^ k) (2 ^ k) (2 ^ i) (pow_pos i)))

-- the kept part goes up by 1 at most
pub increment_le : (d : Direction) (q ρ M : ℕ) → increment d q ρ M ≤ 1
unfolding increment
increment_le NearestEven q ρ M = nearest_le (q % 2) ρ M (omega arith)
increment_le NearestAway q ρ M = nearest_le 1 ρ M (omega arith)
increment_le TowardZero q ρ M = omega arith
increment_le Away q ρ M = cond_le (eqb ρ 0) (omega arith) (omega arith)

pub round_off_le : (d : Direction) (X k : ℕ) → round_off d X k ≤ X + 1
unfolding round_off
round_off_le d X k = omega (arith, increment_le d (X / 2 ^ k) (X % 2 ^ k) (2 ^ k), shr_le X k)

-- nothing is dropped
pub round_off_none : (d : Direction) (X : ℕ) → round_off d X 0 ≡ X
unfolding round_off increment
round_off_none NearestEven X = rw (mod-one X, div-one X) (add-zero X)
round_off_none NearestAway X = rw (mod-one X, div-one X) (add-zero X)
round_off_none TowardZero X = rw (div-one X) (add-zero X)
round_off_none Away X = rw (mod-one X, div-one X) (add-zero X)

-- only zeros are dropped
round_off_whole : (d : Direction) (M k : ℕ) → round_off d (M * 2 ^ k) k ≡ M
round_off_whole d M k = ap (round_off d (M * 2 ^ k)) (sym (zero-add k)) ∙ round_off_scale d M 0 k ∙ round_off_none d M

pub round_off_exact : (d : Direction) (X k : ℕ) → X % 2 ^ k ≡ 0 → round_off d X k ≡ X / 2 ^ k
round_off_exact d X k e =
    let whole : X ≡ X / 2 ^ k * 2 ^ k = omega (arith, split X k) in
    ap (λ (n : ℕ). round_off d n k) whole ∙ round_off_whole d (X / 2 ^ k) k

-- what is at most M units of 2^k is rounded off to M at most
pub round_off_most : (d : Direction) (X M k : ℕ) → X ≤ M * 2 ^ k → round_off d X k ≤ M
unfolding round_off
round_off_most d X M k h = go (ℕ_discrete X (M * 2 ^ k))
  where
    go : Dec (X ≡ M * 2 ^ k) → X / 2 ^ k + increment d (X / 2 ^ k) (X % 2 ^ k) (2 ^ k) ≤ M
    go (yes e) = omega (arith, ap (λ (n : ℕ). round_off d n k) e ∙ round_off_whole d M k)
    go (no e) =
        let q = (div-lt_iff_lt-mul {k = 2 ^ k} {x = X} {y = M} (pow_pos k)).1 (omega arith) in
        omega (arith, increment_le d (X / 2 ^ k) (X % 2 ^ k) (2 ^ k))

-- the increment of h whole units and s of 2^u, against that of h and the sticky bit
increment_sticky : (d : Direction) (q h s j u : ℕ) → s < 2 ^ u → increment d q (h * 2 + sticky s) (2 ^ (j + 2)) ≡ increment d q (h * 2 ^ u + s) (2 ^ (suc j + u))
increment_sticky d q h s j u below =
    increment_by d q (h * 2 + sticky s) (2 ^ (j + 2)) (h * 2 ^ u + s) (2 ^ (suc j + u))
    (ap₂ ltb quarter twice ∙ ltb_scale 2 (lit< tt) (2 * 2 ^ j) (2 * h + sticky s) ∙ sym (above_sticky (2 ^ j) h s (2 ^ u) below)
    ∙ sym (ltb_scale 2 (lit< tt) (2 ^ j * 2 ^ u) (h * 2 ^ u + s)) ∙ ap₂ ltb (sym half) (mul_comm (h * 2 ^ u + s) 2))
    (ap₂ eqb twice quarter ∙ eqb_scale 2 (lit< tt) (2 * h + sticky s) (2 * 2 ^ j) ∙ sym (equal_sticky (2 ^ j) h s (2 ^ u) below)
    ∙ sym (eqb_scale 2 (lit< tt) (h * 2 ^ u + s) (2 ^ j * 2 ^ u)) ∙ ap₂ eqb (mul_comm (h * 2 ^ u + s) 2) (sym half))
    (ap (λ (n : ℕ). eqb n 0) (order h) ∙ sym (equal_sticky 0 h s (2 ^ u) below) ∙ ap (eqb (h * 2 ^ u + s)) (zero-mul (2 ^ u)))
  where
    order : (n : ℕ) → n * 2 + sticky s ≡ 2 * n + sticky s
    order n = omega arith

    twice : 2 * (h * 2 + sticky s) ≡ (2 * h + sticky s) * 2
    twice = omega arith

    quarter : 2 ^ (j + 2) ≡ 2 * 2 ^ j * 2
    quarter = pow-add 2 j 2 ∙ omega arith

    half : 2 ^ (suc j + u) ≡ 2 ^ j * 2 ^ u * 2
    half = pow-add 2 (suc j) u ∙ ap (λ (n : ℕ). n * 2 ^ u) (pow-suc 2 j) ∙ native.Mathlib.Nat.mul_right_comm (2 ^ j) 2 (2 ^ u)

-- two bits or more below the last kept one, the last of them sticky, round as everything would
pub round_off_sticky : (d : Direction) (Z u j : ℕ) → round_off d (with_sticky Z u) (j + 2) ≡ round_off d Z (suc j + u)
unfolding round_off with_sticky
round_off_sticky d Z u j =
    ap₂ (λ (q r : ℕ). q + increment d q r (2 ^ (j + 2))) kept rest
    ∙ ap (λ (n : ℕ). Z / 2 ^ (suc j + u) + n) (increment_sticky d (Z / 2 ^ (suc j + u)) h (Z % 2 ^ u) j u (mod-lt Z (pow_pos u)))
    ∙ ap (λ (r : ℕ). Z / 2 ^ (suc j + u) + increment d (Z / 2 ^ (suc j + u)) r (2 ^ (suc j + u))) (sym (mod-pow-add Z (suc j) u))
  where
    h : ℕ
    h = Z / 2 ^ u % 2 ^ suc j

    up : j + 2 ≡ suc j + 1
    up = omega arith

    kept : with_sticky Z u / 2 ^ (j + 2) ≡ Z / 2 ^ (suc j + u)
    kept = ap (λ (m : ℕ). with_sticky Z u / 2 ^ m) up ∙ with_sticky_above Z u (suc j) ∙ ap (λ (m : ℕ). Z / 2 ^ m) (add_comm u (suc j))

    rest : with_sticky Z u % 2 ^ (j + 2) ≡ h * 2 + sticky (Z % 2 ^ u)
    rest = ap (λ (m : ℕ). with_sticky Z u % 2 ^ m) up ∙ with_sticky_below Z u (suc j)
