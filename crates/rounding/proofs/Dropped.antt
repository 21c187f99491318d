-- Laws of the dropped bits (document 02, W-206): they are what the request says, and decide the rounding; scaling by a power
-- of two keeps them, and so what holds a magnitude has the magnitude's own.
-- Assumes nothing.
use mathlib.Core.Bool.{Bool, cond}
use mathlib.Core.Path.{◌≡◌, refl, sym, ap, ap₂, ◌∙◌, subst}
use mathlib.Core.Logic.{⊎_elim, ◌↔◌}
use Prim.Native.Nat.{ℕ, zero, suc, ◌+◌, ◌-◌, ◌*◌, ◌/◌, ◌%◌, ◌^◌, ◌≤◌, ◌<◌}
use native.Mathlib.Nat.{add_comm, zero-add, mod-lt, mod-one, mul-one, zero-mul, mul_assoc, mul_comm, mul-mod_left, mul-pos, div-add-mod', le-div_iff_mul-le, div-lt_iff_lt-mul}
use native.Mathlib.Decide.{dec_le}
use native.Mathlib.Omega.{arith}
use lib.Arith.{digits_div, digits_mod}
use lib.Dec.{eqb}
use lib.Ieee.{size}
use lib.Ieee.Digits.{size_reaches}
use lib.Pow.{pow_pos, pow-add, shr-shr, mod-pow-add}
use Rattle.format.specs.declared.Format.{Format}
use Rattle.format.specs.Format.{precision}
use Rattle.rounding.specs.declared.Direction.{Direction}
use Rattle.rounding.specs.Rounding.{dropped, increment, round_off}
use Rattle.rounding.specs.Dropped.{sticky, with_sticky, dropped_word}
use Rattle.rounding.specs.Sticky.{guarded_at, Held}
use Rattle.rounding.specs.Width.{long_bits}
use Rattle.rounding.specs.Outcome.{NormalAt}
use Rattle.bits.proofs.Division.{div_scale}
use Rattle.rounding.proofs.Size.{size_least, size_top, size_scale}
use Rattle.rounding.proofs.Sticky.{sticky_lt, equal_sticky, with_sticky_above, with_sticky_below, with_sticky_scale, with_sticky_none, with_sticky_exact}
use Rattle.rounding.proofs.RoundOff.{round_off_scale, round_off_sticky}
use Rattle.rounding.proofs.Held.{Guards, guarded_double, held_size, held_zero}

-- the sticky bit of a units of P and s more, or of their sticky bit
sticky_twice : (a s P : ℕ) → s < P → sticky (a * 2 + sticky s) ≡ sticky (a * P + s)
sticky_twice a s P below =
    ap (λ (t : Bool). cond t 0 1)
    (ap (λ (n : ℕ). eqb n 0) (order a) ∙ sym (equal_sticky 0 a s P below) ∙ ap (eqb (a * P + s)) (zero-mul P))
  where
    order : (n : ℕ) → n * 2 + sticky s ≡ 2 * n + sticky s
    order n = omega arith

-- a sticky bit that is dropped with i bits above it
pub with_sticky_twice : (Z u i : ℕ) → with_sticky (with_sticky Z u) (suc i) ≡ with_sticky Z (u + i)
unfolding with_sticky
with_sticky_twice Z u i =
    ap (with_sticky (with_sticky Z u)) up ∙ ap₂ (λ (n b : ℕ). n * 2 + sticky b) (with_sticky_above Z u i) (with_sticky_below Z u i)
    ∙ ap (λ (b : ℕ). Z / 2 ^ (u + i) * 2 + b) below
  where
    up : suc i ≡ i + 1
    up = omega arith

    below : sticky (Z / 2 ^ u % 2 ^ i * 2 + sticky (Z % 2 ^ u)) ≡ sticky (Z % 2 ^ (u + i))
    below =
        sticky_twice (Z / 2 ^ u % 2 ^ i) (Z % 2 ^ u) (2 ^ u) (mod-lt Z (pow_pos u))
        ∙ ap sticky (sym (mod-pow-add Z i u) ∙ ap (λ (m : ℕ). Z % 2 ^ m) (add_comm i u))

-- ---- what the definition comes to, by the sentence of the request
module _ (F : Format) (X : ℕ) where
  -- "a leading 1, then f fraction bits": what is kept of a magnitude that is at least the smallest normal one
  pub kept_digits : 2 ^ F.f ≤ X → (2 ^ F.f ≤ X / 2 ^ dropped F X) × (X / 2 ^ dropped F X < 2 ^ precision F)
  kept_digits h = go (size_top X (omega (arith, h, pow_pos F.f)))
    where
      go : (n : ℕ) × (size X ≡ suc n) × (2 ^ n ≤ X) × (X < 2 ^ suc n) → (2 ^ F.f ≤ X / 2 ^ dropped F X) × (X / 2 ^ dropped F X < 2 ^ precision F)
      go (n, digits, least, most) =
          let least_digits : F.f + dropped F X ≡ n = omega (arith, digits, size_least X F.f h) in
          let most_digits : precision F + dropped F X ≡ suc n = omega (arith, least_digits) in (
            (le-div_iff_mul-le (pow_pos (dropped F X))).1 (omega (arith, least, pow-add 2 F.f (dropped F X), ap (λ (m : ℕ). 2 ^ m) least_digits)),
            (div-lt_iff_lt-mul (pow_pos (dropped F X))).1 (omega (arith, most, pow-add 2 (precision F) (dropped F X), ap (λ (m : ℕ). 2 ^ m) most_digits)),
          )

  above : (g : ℕ) → 2 ^ g * X / 2 ^ (dropped F X + g) ≡ X / 2 ^ dropped F X
  above g = ap (λ (n : ℕ). n / 2 ^ (dropped F X + g)) (mul_comm (2 ^ g) X) ∙ div_scale X (dropped F X) g

  -- "then g dropped bits": with what is kept above them they are the magnitude down to them
  pub dropped_bits : (g : ℕ) → 2 ^ g * X / 2 ^ dropped F X ≡ X / 2 ^ dropped F X * 2 ^ g + dropped_word F g X / 2
  unfolding dropped_word
  dropped_bits g =
      sym (div-add-mod' (2 ^ g * X / 2 ^ dropped F X) (2 ^ g))
      ∙ ap₂ (λ (m n : ℕ). m * 2 ^ g + n) (shr-shr (2 ^ g * X) (dropped F X) g ∙ above g)
      (sym (ap (λ (n : ℕ). n / 2) (with_sticky_below (2 ^ g * X) (dropped F X) g) ∙ digits_div (2 ^ g * X / 2 ^ dropped F X % 2 ^ g) (sticky_lt (2 ^ g * X % 2 ^ dropped F X))))

  -- "then a sticky bit that is 1 exactly when something nonzero lies further down"
  pub dropped_sticky : (g : ℕ) → dropped_word F g X % 2 ≡ sticky (2 ^ g * X % 2 ^ dropped F X)
  unfolding dropped_word
  dropped_sticky g =
      ap (λ (n : ℕ). n % 2) (with_sticky_below (2 ^ g * X) (dropped F X) g)
      ∙ digits_mod (2 ^ g * X / 2 ^ dropped F X % 2 ^ g) (sticky_lt (2 ^ g * X % 2 ^ dropped F X))

  -- with one dropped bit or more, these and the sticky bit decide the rounding, in every direction: a tie is 2^g, the first of them alone
  pub dropped_rounds : (d : Direction) (j : ℕ)
      → round_off d X (dropped F X) ≡ X / 2 ^ dropped F X + increment d (X / 2 ^ dropped F X) (dropped_word F (suc j) X) (2 ^ (suc j + 1))
  unfolding dropped_word round_off
  dropped_rounds d j =
      sym (round_off_scale d X (dropped F X) (suc j))
      ∙ ap₂ (round_off d) (mul_comm X (2 ^ suc j)) (add_comm (dropped F X) (suc j))
      ∙ sym (round_off_sticky d (2 ^ suc j * X) (dropped F X) j) ∙ ap (round_off d (with_sticky (2 ^ suc j * X) (dropped F X))) up
      ∙ ap (λ (q : ℕ). q + increment d q (with_sticky (2 ^ suc j * X) (dropped F X) % 2 ^ (suc j + 1)) (2 ^ (suc j + 1)))
      (with_sticky_above (2 ^ suc j * X) (dropped F X) (suc j) ∙ above (suc j))
    where
      up : j + 2 ≡ suc j + 1
      up = omega arith

-- ---- what holds a magnitude

-- nothing is dropped of a whole number of last kept bits
dropped_whole : (g Y k : ℕ) → with_sticky (2 ^ g * Y * 2 ^ k) k % 2 ^ (g + 1) ≡ 0
dropped_whole g Y k =
    ap (λ (n : ℕ). n % 2 ^ (g + 1)) (ap (with_sticky (2 ^ g * Y * 2 ^ k)) (sym (zero-add k)) ∙ with_sticky_scale (2 ^ g * Y) 0 k ∙ with_sticky_none (2 ^ g * Y) ∙ double)
    ∙ mul-mod_left Y (2 ^ (g + 1))
  where
    double : 2 * (2 ^ g * Y) ≡ Y * 2 ^ (g + 1)
    double = rw (pow-add 2 g 1) (omega arith)

module _ (F : Format) (g : ℕ) where
  -- of a number of p digits at most
  pub dropped_short : (X : ℕ) → size X ≤ precision F → dropped_word F g X ≡ 0
  unfolding dropped_word
  dropped_short X h =
      let k : dropped F X ≡ 0 = omega arith in
      ap (λ (n : ℕ). with_sticky (2 ^ g * X) n % 2 ^ (g + 1)) k
      ∙ ap (λ (n : ℕ). with_sticky n 0 % 2 ^ (g + 1)) (sym (mul-one (2 ^ g * X)))
      ∙ dropped_whole g X 0

  -- scaling keeps the dropped bits
  pub dropped_scale : (X i : ℕ) → 0 < X → dropped_word F g (X * 2 ^ i) ≡ dropped_word F g X
  unfolding dropped_word
  dropped_scale X i pos = go (dec_le (precision F) (size X))
    where
      long : size (X * 2 ^ i) ≡ size X + i
      long = size_scale X i pos

      go : Dec (precision F ≤ size X) → with_sticky (2 ^ g * (X * 2 ^ i)) (dropped F (X * 2 ^ i)) % 2 ^ (g + 1) ≡ with_sticky (2 ^ g * X) (dropped F X) % 2 ^ (g + 1)
      go (yes h) =
          let k : dropped F (X * 2 ^ i) ≡ dropped F X + i = omega (arith, long) in
          ap (λ (n : ℕ). n % 2 ^ (g + 1))
          (ap₂ with_sticky (sym (mul_assoc (2 ^ g) X (2 ^ i))) k ∙ with_sticky_scale (2 ^ g * X) (dropped F X) i)
      go (no h) =
          let k = dropped F (X * 2 ^ i) in
          let back : i ≡ i - k + k = omega (arith, long) in
          let e : 2 ^ g * (X * 2 ^ i) ≡ 2 ^ g * (X * 2 ^ (i - k)) * 2 ^ k =
          ap (λ (n : ℕ). 2 ^ g * (X * 2 ^ n)) back ∙ ap (λ (n : ℕ). 2 ^ g * (X * n)) (pow-add 2 (i - k) k)
          ∙ ap (λ (n : ℕ). 2 ^ g * n) (sym (mul_assoc X (2 ^ (i - k)) (2 ^ k))) ∙ sym (mul_assoc (2 ^ g) (X * 2 ^ (i - k)) (2 ^ k)) in
          ap (λ (n : ℕ). with_sticky n k % 2 ^ (g + 1)) e ∙ dropped_whole g (X * 2 ^ (i - k)) k ∙ sym (dropped_short X (omega arith))

-- the dropped bits of a long number that holds a magnitude
dropped_long : (F : Format) (q G X x u : ℕ) → Guards q G → 0 < X → Held F q G X x u → (g : ℕ) → g ≤ G → 0 < u → 2 ^ long_bits G F.f ≤ x → dropped_word F g x ≡ dropped_word F g X
unfolding dropped_word
dropped_long F q G X x u guards pos held g le some long =
    ap (λ (n : ℕ). n % 2 ^ (g + 1))
    (ap₂ with_sticky (mul_comm (2 ^ g) x) split ∙ with_sticky_scale x (suc i) g ∙ ap (λ (n : ℕ). with_sticky n (suc i)) held.stands
    ∙ with_sticky_twice (guarded_at q X) u i ∙ ap₂ with_sticky parts rest ∙ with_sticky_scale (2 ^ g * X) (dropped F X) (q - 1 - g))
  where
    digits : size x + u ≡ size X + q
    digits = held_size F q G X x u guards pos held

    i : ℕ
    i = size x - precision F - g - 1

    room : precision F + (g + 1) ≤ size x
    room = omega (arith, size_least x (long_bits G F.f) long)

    split : dropped F x ≡ suc i + g
    split = omega (arith, room)

    normal : precision F ≤ size X
    normal = omega (arith, digits, size_least x (long_bits G F.f) long, guards.most)

    rest : u + i ≡ dropped F X + (q - 1 - g)
    rest = omega (arith, digits, room, normal, guards.few)

    back : g + (q - 1 - g) ≡ q - 1
    back = omega (arith, guards.few)

    parts : guarded_at q X ≡ 2 ^ g * X * 2 ^ (q - 1 - g)
    parts = ap (λ (n : ℕ). 2 ^ n * X) (sym back) ∙ ap (λ (n : ℕ). n * X) (pow-add 2 g (q - 1 - g)) ∙ omega arith

-- what holds a magnitude with G bits told apart
module _ (F : Format) (q G X x u : ℕ) (guards : Guards q G) (pos : 0 < X) (held : Held F q G X x u) where
  -- has its dropped bits
  pub dropped_held : (g : ℕ) → g ≤ G → dropped_word F g x ≡ dropped_word F g X
  dropped_held g le = go u refl
    where
      whole : guarded_at q X % 2 ^ u ≡ 0 → x * 2 ^ u ≡ X * 2 ^ q
      whole e = ap (λ (n : ℕ). n * 2 ^ u) held.stands ∙ with_sticky_exact (guarded_at q X) u e ∙ guarded_double q X (omega (arith, guards.few))

      exact : guarded_at q X % 2 ^ u ≡ 0 → dropped_word F g x ≡ dropped_word F g X
      exact e = sym (dropped_scale F g x u (some x refl)) ∙ ap (dropped_word F g) (whole e) ∙ dropped_scale F g X q pos
        where
          some : (n : ℕ) → x ≡ n → 0 < x
          some zero z = absurd (omega (arith, ap (λ (n : ℕ). n * 2 ^ u) z ∙ zero-mul (2 ^ u), whole e, mul-pos pos (pow_pos q)))
          some (suc n) z = omega arith

      go : (n : ℕ) → u ≡ n → dropped_word F g x ≡ dropped_word F g X
      go zero e = exact (ap (λ (n : ℕ). guarded_at q X % 2 ^ n) e ∙ mod-one (guarded_at q X))
      go (suc n) e = ⊎_elim exact (λ h. dropped_long F q G X x u guards pos held g le (omega arith) h) held.exact_or_long

  -- and tells whether it is at least the smallest normal one
  pub normal_held : 2 ^ F.f ≤ X ↔ NormalAt q F.f (record { 0 = u }) x
  normal_held = (
    (λ h. record { some = some x refl; reaches = omega (arith, size_least X F.f h, held_size F q G X x u guards pos held) }),
    λ n. size_reaches X F.f (omega (arith, n.reaches, held_size F q G X x u guards pos held)),
  )
    where
      some : (n : ℕ) → x ≡ n → 0 < x
      some zero z = absurd (omega (arith, held_zero F q G X u (subst (λ (n : ℕ). Held F q G X n u) z held)))
      some (suc n) z = omega arith
