-- What IEEE 754 asks of each direction, of the rounded magnitude: it is representable; toward zero it is the greatest such number not
-- above X, away from zero the least not below; and in both nearest directions no such number is nearer, and of two as near the even one, or
-- the larger, is taken. Then a representable number rounds to itself, and rounding keeps the order. Assumes nothing.
use mathlib.Core.Path.{◌≡◌, refl, sym, ap, ◌∙◌, subst}
use mathlib.Core.Logic.{◌⊎◌, inl, inr}
use Prim.Native.Nat.{ℕ, zero, suc, ◌+◌, ◌-◌, ◌*◌, ◌/◌, ◌%◌, ◌^◌, ◌≤◌, ◌<◌}
use native.Mathlib.Nat.{mod-lt, add-mul, add-zero, one-mul, mul_assoc}
use native.Mathlib.Decide.{dec_lt, ℕ_discrete}
use native.Mathlib.Omega.{arith}
use borrow.Author.Tests.{lt-ltb, le-ltb, eq-eqb, ne_eqb}
use lib.Pow.{pow_pos, pow-add, split, mod-mod-pow}
use Rattle.format.specs.declared.Format.{Format}
use Rattle.format.specs.Format.{Supported, precision}
use Rattle.rounding.specs.declared.Direction as way
use Rattle.rounding.specs.declared.Direction.TheVariants.{NearestEven, NearestAway, TowardZero, Away}
use Rattle.word.specs.Word.{significand}
use Rattle.rounding.specs.Rounding.{to_nearest, increment, round_off, dropped, magnitude_word}
use Rattle.standard.specs.Representable.{Representable, EvenWord, rounded_magnitude}
use Rattle.standard.specs.Rounds.{GreatestNotAbove, LeastNotBelow, Closest, distance}
use Rattle.standard.proofs.Magnitudes.{magnitude_representable, rounded_kept}
use Rattle.standard.proofs.Gap.{neighbour_below, neighbour_above}

-- the unit of what is kept of X, what is kept and what is dropped, and the neighbour below
abbrev unit : Format → ℕ → ℕ
unit F X = 2 ^ dropped F X

abbrev kept : Format → ℕ → ℕ
kept F X = X / unit F X

abbrev rest : Format → ℕ → ℕ
rest F X = X % unit F X

abbrev floor : Format → ℕ → ℕ
floor F X = kept F X * unit F X

module _ (F : Format) (X : ℕ) where
  pub rounded_representable : (d : way.Direction) → Representable F (rounded_magnitude F d X)
  rounded_representable d = magnitude_representable F (magnitude_word F d X)

  -- the two neighbours, and which of them is taken
  stays : (d : way.Direction) → increment d (kept F X) (rest F X) (unit F X) ≡ 0 → rounded_magnitude F d X ≡ floor F X
  unfolding round_off
  stays d e =
      rounded_kept F d X
      ∙ ap (λ (i : ℕ). (kept F X + i) * unit F X) e ∙ ap (λ (q : ℕ). q * unit F X) (add-zero (kept F X))

  goes_up : (d : way.Direction) → increment d (kept F X) (rest F X) (unit F X) ≡ 1
      → rounded_magnitude F d X ≡ floor F X + unit F X
  unfolding round_off
  goes_up d e =
      rounded_kept F d X ∙ ap (λ (i : ℕ). (kept F X + i) * unit F X) e
      ∙ add-mul (kept F X) 1 (unit F X) ∙ ap (λ (m : ℕ). floor F X + m) (one-mul (unit F X))

  pub rounded_toward_zero : GreatestNotAbove ◌≤◌ (Representable F) X (rounded_magnitude F TowardZero X)
  unfolding increment
  rounded_toward_zero =
      let e = stays TowardZero refl in
      record {
        member = rounded_representable TowardZero;
        not_above = omega (arith, e, split X (dropped F X));
        greatest = λ n r h. rw e (neighbour_below F X n r h);
      }

  pub rounded_away : LeastNotBelow ◌≤◌ (Representable F) X (rounded_magnitude F Away X)
  unfolding increment
  rounded_away = go (ℕ_discrete (rest F X) 0)
    where
      go : Dec (rest F X ≡ 0) → LeastNotBelow ◌≤◌ (Representable F) X (rounded_magnitude F Away X)
      go (yes z) =
          let e = stays Away (rw (eq-eqb _ _ z)) in
          let s = split X (dropped F X) in
          record {
            member = rounded_representable Away;
            not_below = omega arith;
            least = λ n r h. omega arith;
          }
      go (no z) =
          let e = goes_up Away (rw (ne_eqb _ _ z)) in
          let s = split X (dropped F X) in
          let l = mod-lt X (pow_pos (dropped F X)) in
          record {
            member = rounded_representable Away;
            not_below = omega arith;
            least = λ n r h. rw e (neighbour_above F X n r (beyond n r h (dec_lt X n)));
          }
        where
          beyond : (n : ℕ) → Representable F n → X ≤ n → Dec (X < n) → X < n
          beyond n r h (yes l) = l
          beyond n r h (no l) = absurd (omega (arith, neighbour_below F X n r (omega arith), split X (dropped F X)))

  -- half a unit goes to the even one, or up
  half_even : 2 * rest F X ≡ unit F X → round_off NearestEven X (dropped F X) % 2 ≡ 0
  unfolding round_off increment
  half_even e = rw (le-ltb (unit F X) (2 * rest F X) (omega arith), eq-eqb _ _ e) (omega arith)

  half_away : 2 * rest F X ≡ unit F X → rounded_magnitude F NearestAway X ≡ floor F X + unit F X
  unfolding increment
  half_away e = goes_up NearestAway (rw (le-ltb (unit F X) (2 * rest F X) (omega arith), eq-eqb _ _ e))

-- a direction goes to the nearest where only a tie is left to it
abbrev pub GoesToNearest : way.Direction → Type 0
GoesToNearest d = (q ρ M : ℕ) → (tie : ℕ) × (tie < 2) × (increment d q ρ M ≡ to_nearest tie ρ M)

pub nearest_even : GoesToNearest NearestEven
unfolding increment
nearest_even q ρ M = (q % 2, omega arith, refl)

pub nearest_away : GoesToNearest NearestAway
unfolding increment
nearest_away q ρ M = (1, omega arith, refl)

module _ (F : Format) (X : ℕ) (d : way.Direction) (near : GoesToNearest d) where
  -- below half a unit stays, above half goes up, and half does one of the two
  abbrev Taken : Type 0
  Taken = ((rounded_magnitude F d X ≡ floor F X) × (2 * rest F X ≤ unit F X)) ⊎ ((rounded_magnitude F d X ≡ floor F X + unit F X) × (unit F X ≤ 2 * rest F X))

  taken : Taken
  taken =
      let t = near (kept F X) (rest F X) (unit F X) in
      go t.0 t.1 t.2 (dec_lt (unit F X) (2 * rest F X)) (ℕ_discrete (2 * rest F X) (unit F X))
    where
      go : (tie : ℕ) → tie < 2 → increment d (kept F X) (rest F X) (unit F X) ≡ to_nearest tie (rest F X) (unit F X) → Dec (unit F X < 2 * rest F X)
          → Dec (2 * rest F X ≡ unit F X) → Taken
      go tie h i (yes l) q = inr (goes_up F X d (i ∙ rw (lt-ltb _ _ l)), omega arith)
      go zero h i (no l) (yes e) = inl (stays F X d (i ∙ rw (le-ltb (unit F X) (2 * rest F X) (omega arith), eq-eqb _ _ e)), omega arith)
      go (suc zero) h i (no l) (yes e) = inr (goes_up F X d (i ∙ rw (le-ltb (unit F X) (2 * rest F X) (omega arith), eq-eqb _ _ e)), omega arith)
      go (suc (suc tie)) h i (no l) (yes e) = absurd (omega arith)
      go tie h i (no l) (no e) = inl (stays F X d (i ∙ rw (le-ltb (unit F X) (2 * rest F X) (omega arith), ne_eqb _ _ e)), omega arith)

  pub rounded_nearest : Closest distance (Representable F) X (rounded_magnitude F d X)
  rounded_nearest = record { member = rounded_representable F X d; closest = λ n r. go n r taken (dec_lt X n) }
    where
      go : (n : ℕ) → Representable F n → Taken → Dec (X < n) → distance (rounded_magnitude F d X) X ≤ distance n X
      go n r (inl t) (yes h) = omega (arith, t.0, t.1, neighbour_above F X n r h, split X (dropped F X))
      go n r (inl t) (no h) = omega (arith, t.0, neighbour_below F X n r (omega arith), split X (dropped F X))
      go n r (inr t) (yes h) = omega (arith, t.0, neighbour_above F X n r h, split X (dropped F X), mod-lt X (pow_pos (dropped F X)))
      go n r (inr t) (no h) = omega (arith, t.0, t.1, neighbour_below F X n r (omega arith), split X (dropped F X), mod-lt X (pow_pos (dropped F X)))

  -- another number is as near only where half a unit is dropped
  tie_half : (n : ℕ) → Representable F n → (n ≡ rounded_magnitude F d X → ⊥) → distance n X ≡ distance (rounded_magnitude F d X) X → 2 * rest F X ≡ unit F X
  tie_half n r ne e = go taken (dec_lt X n)
    where
      go : Taken → Dec (X < n) → 2 * rest F X ≡ unit F X
      go (inl t) (yes h) = omega (arith, t.0, t.1, neighbour_above F X n r h, split X (dropped F X))
      go (inl t) (no h) = absurd (ne (omega (arith, t.0, neighbour_below F X n r (omega arith), split X (dropped F X))))
      go (inr t) (yes h) = absurd (ne (omega (arith, t.0, neighbour_above F X n r h, split X (dropped F X), mod-lt X (pow_pos (dropped F X)))))
      go (inr t) (no h) = omega (arith, t.0, t.1, neighbour_below F X n r (omega arith), split X (dropped F X), mod-lt X (pow_pos (dropped F X)))

-- zero is a number of every format
pub zero_representable : (F : Format) → Representable F 0
zero_representable F = record { digits = 0; exponent = 0; digits_lt = pow_pos (precision F); is = refl }

-- the last bit of a significand is that of its word
pub significand_parity : (F : Format) → Supported F → (m : ℕ) → significand F.f (m / 2 ^ F.f) (m % 2 ^ F.f) % 2 ≡ m % 2
unfolding significand
significand_parity F ok m = go (m / 2 ^ F.f) (m % 2 ^ F.f) ∙ last
  where
    f : F.f - 1 + 1 ≡ F.f
    f = omega (arith, ok.f_least)

    last : m % 2 ^ F.f % 2 ≡ m % 2
    last = subst (λ (n : ℕ). m % 2 ^ n % 2 ≡ m % 2) f (mod-mod-pow m (F.f - 1) 1)

    go : (e t : ℕ) → significand F.f e t % 2 ≡ t % 2
    go zero t = refl
    go (suc e) t =
        let p : 2 ^ F.f ≡ 2 ^ (F.f - 1) * 2 = ap (λ (n : ℕ). 2 ^ n) (sym f) ∙ pow-add 2 (F.f - 1) 1 in
        omega arith

-- of two as near the one with the even significand is taken
pub tie_even : (F : Format) → Supported F → (X n : ℕ) → Representable F n → (n ≡ rounded_magnitude F NearestEven X → ⊥)
    → distance n X ≡ distance (rounded_magnitude F NearestEven X) X → EvenWord F (magnitude_word F NearestEven X)
unfolding magnitude_word
tie_even F ok X n r ne e =
    let y = half_even F X (tie_half F X NearestEven nearest_even n r ne e) in
    let f : F.f - 1 + 1 ≡ F.f = omega (arith, ok.f_least) in
    let p : 2 ^ F.f ≡ 2 ^ (F.f - 1) * 2 = ap (λ (m : ℕ). 2 ^ m) (sym f) ∙ pow-add 2 (F.f - 1) 1 in
    let q : dropped F X * 2 ^ F.f ≡ dropped F X * 2 ^ (F.f - 1) * 2 = ap (λ (m : ℕ). dropped F X * m) p ∙ sym (mul_assoc (dropped F X) (2 ^ (F.f - 1)) 2) in
    significand_parity F ok (dropped F X * 2 ^ F.f + round_off NearestEven X (dropped F X)) ∙ omega arith

-- or the larger one
pub tie_away : (F : Format) (X n : ℕ) → Representable F n → (n ≡ rounded_magnitude F NearestAway X → ⊥)
    → distance n X ≡ distance (rounded_magnitude F NearestAway X) X → n < rounded_magnitude F NearestAway X
tie_away F X n r ne e =
    let half = tie_half F X NearestAway nearest_away n r ne e in
    above n (rounded_magnitude F NearestAway X) X (omega (arith, half_away F X half, split X (dropped F X))) ne e
  where
    above : (n m x : ℕ) → x ≤ m → (n ≡ m → ⊥) → distance n x ≡ distance m x → n < m
    above n m x h q d = omega arith

-- a representable number is itself in every direction
pub representable_rounds_to_itself : (F : Format) (d : way.Direction) (X : ℕ) → Representable F X → rounded_magnitude F d X ≡ X
representable_rounds_to_itself F NearestEven X r = omega (arith, (rounded_nearest F X NearestEven nearest_even).closest X r)
representable_rounds_to_itself F NearestAway X r = omega (arith, (rounded_nearest F X NearestAway nearest_away).closest X r)
representable_rounds_to_itself F TowardZero X r = let g = rounded_toward_zero F X in omega (arith, g.greatest X r (omega arith))
representable_rounds_to_itself F Away X r = let g = rounded_away F X in omega (arith, g.least X r (omega arith))

-- a number that is as near to the larger of two lies at their middle or above, and to the smaller at their middle or below
middle_above : (a b X : ℕ) → b < a → distance a X ≤ distance b X → a + b ≤ 2 * X
middle_above a b X h d = omega arith

middle_below : (a b Y : ℕ) → b < a → distance b Y ≤ distance a Y → 2 * Y ≤ a + b
middle_below a b Y h d = omega arith

nearest_monotone : (F : Format) (d : way.Direction) → GoesToNearest d → (X Y : ℕ) → X ≤ Y → rounded_magnitude F d X ≤ rounded_magnitude F d Y
nearest_monotone F d near X Y h = go (ℕ_discrete X Y) (dec_lt (rounded_magnitude F d Y) (rounded_magnitude F d X))
  where
    go : Dec (X ≡ Y) → Dec (rounded_magnitude F d Y < rounded_magnitude F d X) → rounded_magnitude F d X ≤ rounded_magnitude F d Y
    go (yes e) l = let q = ap (rounded_magnitude F d) e in omega arith
    go (no e) (no l) = omega arith
    go (no e) (yes l) =
        let a = rounded_magnitude F d X in
        let b = rounded_magnitude F d Y in
        let x = middle_above a b X l ((rounded_nearest F X d near).closest b (rounded_representable F Y d)) in
        let y = middle_below a b Y l ((rounded_nearest F Y d near).closest a (rounded_representable F X d)) in
        absurd (omega arith)

-- rounding in one direction keeps the order
pub rounding_monotone : (F : Format) (d : way.Direction) (X Y : ℕ) → X ≤ Y → rounded_magnitude F d X ≤ rounded_magnitude F d Y
rounding_monotone F NearestEven X Y h = nearest_monotone F NearestEven nearest_even X Y h
rounding_monotone F NearestAway X Y h = nearest_monotone F NearestAway nearest_away X Y h
rounding_monotone F TowardZero X Y h =
    let g = rounded_toward_zero F X in
    (rounded_toward_zero F Y).greatest (rounded_magnitude F TowardZero X) g.member (omega arith)
rounding_monotone F Away X Y h =
    let g = rounded_away F Y in
    (rounded_away F X).least (rounded_magnitude F Away Y) g.member (omega arith)
