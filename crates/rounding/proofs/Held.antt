-- A magnitude X that is held as x, with q bits below its unit, the lowest of them sticky: x tells how many digits X has, and x shifted so that
-- q bits stand below the last kept one (one more after a carry) rounds as X does. With G bits told apart q is one more, or two. Assumes
-- nothing.
use mathlib.Core.Path.{◌≡◌, refl, sym, ap, ap₂, ◌∙◌, subst}
use mathlib.Core.Logic.{⊎_elim}
use Prim.Native.Nat.{ℕ, zero, suc, ◌+◌, ◌-◌, ◌*◌, ◌/◌, ◌%◌, ◌^◌, ◌≤◌, ◌<◌}
use native.Mathlib.Nat.{mod-lt, mod-one, mul_assoc, mul_comm, div-add-mod', mul-le-mul_right, suc-mul, pow-suc, not-le_of_lt}
use native.Mathlib.Decide.{dec_lt, ℕ_discrete}
use native.Mathlib.Omega.{arith}
use mathlib.Core.Bool.{cond}
use borrow.Author.Tests.{lt-ltb, le-ltb}
use lib.Dec.{ltb}
use lib.Ieee.{size}
use lib.Ieee.Digits.{size-le}
use lib.Pow.{pow_pos, pow-add, pow_mono}
use Rattle.format.specs.declared.Format.{Format}
use Rattle.rounding.specs.declared.Direction.{Direction}
use Rattle.rounding.specs.Rounding.{round_off, dropped}
use Rattle.rounding.specs.Dropped.{sticky, with_sticky}
use Rattle.rounding.specs.Sticky.{guarded_at, Held, kept_part}
use Rattle.rounding.specs.Width.{guard_bits, long_bits, sum_bits, most_rounded}
use Rattle.rounding.proofs.Size.{size_between, size_least, size_top, size_scale}
use Rattle.rounding.proofs.Sticky.{with_sticky_exact, with_sticky_bounds}
use Rattle.rounding.proofs.RoundOff.{round_off_scale, round_off_sticky}

-- the quotient of a number with n + 1 digits in it, with a bit after it, has n + 2, and the number n + 1 + u
digits_of : (Z u : ℕ) → 0 < Z / 2 ^ u → size (with_sticky Z u) + u ≡ size Z + 1
digits_of Z u pos =
    let t = size_top (Z / 2 ^ u) pos in
    let n = t.0 in
    let b = with_sticky_bounds Z u in
    let p₁ = pow-suc 2 n in
    let p₂ = pow-suc 2 (suc n) in
    let sx = size_between (with_sticky Z u) (suc n) (omega (arith, t.2)) (omega (arith, t.3)) in
    let w = div-add-mod' Z (2 ^ u) in
    let l = mul-le-mul_right (2 ^ u) t.2 in
    let r = mul-le-mul_right (2 ^ u) t.3 in
    let e₁ = suc-mul (Z / 2 ^ u) (2 ^ u) in
    let q₁ = pow-add 2 n u in
    let q₂ = pow-add 2 (suc n) u in
    let m = mod-lt Z (pow_pos u) in
    let up : suc n + u ≡ suc (n + u) = omega arith in
    let sz = size_between Z (n + u) (omega arith) (subst (λ (k : ℕ). Z < 2 ^ k) up (omega arith)) in
    omega arith

-- how q stands to G
pub record Guards (q G : ℕ) : Type 0 where
  pub least : 1 ≤ G
  pub few : G < q
  pub most : q ≤ G + 2

-- the adder's guard bits tell one bit apart
pub adder_guards : Guards guard_bits 1
adder_guards = record { least = omega arith; few = omega arith; most = omega arith }

-- twice what has one bit less below it
pub guarded_double : (q X : ℕ) → 0 < q → 2 * guarded_at q X ≡ X * 2 ^ q
guarded_double q X some =
    let up : q ≡ suc (q - 1) = omega arith in
    let p = ap (λ (k : ℕ). 2 ^ k) up ∙ pow-suc 2 (q - 1) in
    rw p (omega arith)

module _ (F : Format) (q G X x u : ℕ) (guards : Guards q G) (pos : 0 < X) (held : Held F q G X x u) where
  long_pos : 2 ≤ 2 ^ long_bits G F.f
  long_pos = pow_mono {i = 1} {j = long_bits G F.f} (omega arith)

  pub quotient_pos : 0 < guarded_at q X / 2 ^ u
  quotient_pos = ⊎_elim exact long held.exact_or_long
    where
      exact : guarded_at q X % 2 ^ u ≡ 0 → 0 < guarded_at q X / 2 ^ u
      exact e = go (ℕ_discrete (guarded_at q X / 2 ^ u) 0)
        where
          go : Dec (guarded_at q X / 2 ^ u ≡ 0) → 0 < guarded_at q X / 2 ^ u
          go (yes z) =
              let w = div-add-mod' (guarded_at q X) (2 ^ u) in
              let z' = ap (λ (n : ℕ). n * 2 ^ u) z in
              absurd (omega (arith, native.Mathlib.Nat.zero-mul (2 ^ u), native.Mathlib.Nat.mul-pos (pow_pos (q - 1)) pos))
          go (no z) = omega arith

      long : 2 ^ long_bits G F.f ≤ x → 0 < guarded_at q X / 2 ^ u
      long h = let b = with_sticky_bounds (guarded_at q X) u in omega (arith, held.stands, long_pos)

  pub held_size : size x + u ≡ size X + q
  held_size =
      let a = digits_of (guarded_at q X) u quotient_pos in
      let b = ap size (mul_comm (2 ^ (q - 1)) X) ∙ size_scale X (q - 1) pos in
      let c = ap size held.stands in
      omega (arith, guards.few)

  -- where x is long or a unit is a smallest step, X has p digits at least
  long_digits : 0 < u → 2 ^ long_bits G F.f ≤ x → dropped F X + (F.f + 1) ≡ size X
  long_digits some h = omega (arith, held_size, size_least x (long_bits G F.f) h, guards.most)

  -- after a carry one bit more than q stands below the last kept one
  pub held_carry : (d : Direction) → dropped F X ≡ suc u → round_off d x (most_rounded q) ≡ round_off d X (dropped F X)
  held_carry d k =
      ap₂ (round_off d) held.stands (omega (arith, guards.few)) ∙ round_off_sticky d (guarded_at q X) u (q - 1)
      ∙ ap₂ (round_off d) (mul_comm (2 ^ (q - 1)) X) (omega arith)
      ∙ round_off_scale d X (suc u) (q - 1) ∙ ap (round_off d X) (sym k)

  -- shifted up by u - k, q bits stand below it
  pub held_kept : (d : Direction) → dropped F X ≤ u → round_off d (x * 2 ^ (u - dropped F X)) q ≡ round_off d X (dropped F X)
  held_kept d le = go u refl
    where
      k : ℕ
      k = dropped F X

      exact : guarded_at q X % 2 ^ u ≡ 0 → round_off d (x * 2 ^ (u - k)) q ≡ round_off d X k
      exact e =
          sym (round_off_scale d (x * 2 ^ (u - k)) q k)
          ∙ ap₂ (round_off d)
          (mul_assoc x (2 ^ (u - k)) (2 ^ k) ∙ ap (λ (n : ℕ). x * n) (sym (pow-add 2 (u - k) k) ∙ ap (λ (n : ℕ). 2 ^ n) back)
          ∙ ap (λ (n : ℕ). n * 2 ^ u) held.stands ∙ with_sticky_exact (guarded_at q X) u e ∙ guarded_double q X (omega (arith, guards.few)))
          (native.Mathlib.Nat.add_comm q k)
          ∙ round_off_scale d X k q
        where
          back : u - k + k ≡ u
          back = omega arith

      long : 0 < u → 2 ^ long_bits G F.f ≤ x → round_off d (x * 2 ^ (u - k)) q ≡ round_off d X k
      long some h =
          ap (round_off d (x * 2 ^ (u - k))) split ∙ round_off_scale d x (j + 2) (u - k)
          ∙ ap (λ (n : ℕ). round_off d n (j + 2)) held.stands ∙ round_off_sticky d (guarded_at q X) u j
          ∙ ap₂ (round_off d) (mul_comm (2 ^ (q - 1)) X) rest ∙ round_off_scale d X k (q - 1)
        where
          -- as many bits of x are rounded off as it has more than p: two or more
          j : ℕ
          j = q - (u - k) - 2

          room : u - k + 2 ≤ q
          room = omega (arith, held_size, size_least x (long_bits G F.f) h, guards.least, long_digits some h)

          split : q ≡ j + 2 + (u - k)
          split = omega (arith, room)

          rest : suc j + u ≡ k + (q - 1)
          rest = omega (arith, room)

      go : (n : ℕ) → u ≡ n → round_off d (x * 2 ^ (u - k)) q ≡ round_off d X k
      go zero e = exact (ap (λ (n : ℕ). guarded_at q X % 2 ^ n) e ∙ mod-one (guarded_at q X))
      go (suc n) e = ⊎_elim exact (long (omega arith)) held.exact_or_long

  -- for the bits that x tells to be dropped
  pub held_part : (d : Direction) → x < 2 ^ sum_bits q F.f → kept_part q d x u (dropped F X) ≡ round_off d X (dropped F X)
  unfolding kept_part
  held_part d below = go (dec_lt u (dropped F X))
    where
      most : size x ≤ sum_bits q F.f
      most = size-le x (sum_bits q F.f) below

      go : Dec (u < dropped F X) → cond (ltb u (dropped F X)) (round_off d x (most_rounded q)) (round_off d (x * 2 ^ (u - dropped F X)) q) ≡ round_off d X (dropped F X)
      go (yes h) = rw (lt-ltb u (dropped F X) h) (held_carry d (omega (arith, held_size, most)))
      go (no h) = rw (le-ltb u (dropped F X) (omega arith)) (held_kept d (omega arith))

-- what is held as 0 is 0, and nothing else is
pub held_zero : (F : Format) (q G X u : ℕ) → Held F q G X 0 u → X ≡ 0
unfolding with_sticky
held_zero F q G X u held = ⊎_elim exact long held.exact_or_long
  where
    exact : guarded_at q X % 2 ^ u ≡ 0 → X ≡ 0
    exact e =
        let w = with_sticky_exact (guarded_at q X) u e in
        let z = ap (λ (n : ℕ). n * 2 ^ u) held.stands in
        let n : 2 ^ (q - 1) * X ≡ 2 ^ (q - 1) * 0 = omega (arith, native.Mathlib.Nat.zero-mul (2 ^ u)) in
        native.Mathlib.Nat.eq_of_mul-eq-mul_left (2 ^ (q - 1)) (pow_pos (q - 1)) X 0 n

    long : 2 ^ long_bits G F.f ≤ 0 → X ≡ 0
    long h = absurd (not-le_of_lt (pow_pos (long_bits G F.f)) h)

pub held_pos : (F : Format) (q G X x u : ℕ) → Held F q G X x u → (x ≡ 0 → ⊥) → 0 < X
unfolding with_sticky
held_pos F q G X x u held ne = go X refl
  where
    go : (n : ℕ) → X ≡ n → 0 < X
    go zero e =
        absurd
        (ne
        (held.stands
        ∙ ap (λ (n : ℕ). n / 2 ^ u * 2 + sticky (n % 2 ^ u)) (ap (λ (n : ℕ). 2 ^ (q - 1) * n) e ∙ native.Mathlib.Nat.mul-zero (2 ^ (q - 1)))
        ∙ ap₂ (λ (q r : ℕ). q * 2 + sticky r) (native.Mathlib.Nat.zero-div (2 ^ u)) (native.Mathlib.Nat.zero-mod (2 ^ u))))
    go (suc n) e = omega arith
