-- Where the rounded magnitude passes the largest finite number, in each direction: the standard's own bounds. Assumes nothing.
use mathlib.Core.Path.{◌≡◌, sym, ap, ◌∙◌}
use mathlib.Core.Logic.{◌↔◌}
use Prim.Native.Nat.{ℕ, ◌+◌, ◌-◌, ◌*◌, ◌%◌, ◌^◌, ◌≤◌, ◌<◌}
use native.Mathlib.Nat.{mul_assoc}
use native.Mathlib.Decide.{dec_lt}
use native.Mathlib.Omega.{arith}
use lib.Pow.{pow-add}
use Rattle.format.specs.declared.Format.{Format}
use Rattle.format.specs.Format.{Supported}
use Rattle.rounding.specs.declared.Direction.{Direction}
use Rattle.rounding.specs.declared.Direction.TheVariants.{NearestEven, NearestAway, TowardZero, Away}
use Rattle.word.specs.Word.{all_ones, infinity_word}
use Rattle.rounding.specs.Rounding.{magnitude_word}
use Rattle.word.proofs.Bounds.{infinity_pos}
use Rattle.standard.specs.Representable.{Representable, largest, after_largest, rounded_magnitude}
use Rattle.standard.specs.Rounds.{distance}
use Rattle.standard.proofs.Magnitudes.{magnitude_representable, word_order, word_order_le, word_by_magnitude}
use Rattle.standard.proofs.Largest.{largest_word, after_largest_word}
use Rattle.standard.proofs.Rounding.{rounded_toward_zero, rounded_away, GoesToNearest, nearest_even, nearest_away, rounded_nearest, significand_parity, tie_even, tie_away}

module _ (F : Format) (ok : Supported F) where
  largest_representable : Representable F (largest F)
  largest_representable = rw (largest_word F ok) (magnitude_representable F (infinity_word F - 1))

  after_representable : Representable F (after_largest F)
  after_representable = rw (after_largest_word F ok) (magnitude_representable F (infinity_word F))

  adjacent : largest F < after_largest F
  adjacent =
      rw (largest_word F ok, after_largest_word F ok) ((word_order F (infinity_word F - 1) (infinity_word F)).0 (omega (arith, infinity_pos F ok)))

  -- what passes the largest reaches the next
  passes : (d : Direction) (X : ℕ) → largest F < rounded_magnitude F d X → after_largest F ≤ rounded_magnitude F d X
  passes d X h =
      let l = (word_order F (infinity_word F - 1) (magnitude_word F d X)).1 (rw (largest_word F ok) at h) in
      rw (after_largest_word F ok) ((word_order_le F (infinity_word F) (magnitude_word F d X)).0 (omega arith))

  pub overflow_toward_zero : (X : ℕ) → (largest F < rounded_magnitude F TowardZero X) ↔ (after_largest F ≤ X)
  overflow_toward_zero X =
      let g = rounded_toward_zero F X in (
        λ h. omega (arith, passes TowardZero X h, g.not_above),
        λ h. omega (arith, adjacent, g.greatest (after_largest F) after_representable h),
      )

  pub overflow_away : (X : ℕ) → (largest F < rounded_magnitude F Away X) ↔ (largest F < X)
  overflow_away X = (to (dec_lt (largest F) X), λ h. omega (arith, (rounded_away F X).not_below))
    where
      to : Dec (largest F < X) → largest F < rounded_magnitude F Away X → largest F < X
      to (yes l) h = l
      to (no l) h = absurd (omega (arith, (rounded_away F X).least (largest F) largest_representable (omega arith)))

  -- the word of the largest is odd
  infinity_even : infinity_word F % 2 ≡ 0
  infinity_even =
      let f : F.f - 1 + 1 ≡ F.f = omega (arith, ok.f_least) in
      let e : infinity_word F ≡ all_ones F * 2 ^ (F.f - 1) * 2 =
      ap (λ (n : ℕ). all_ones F * 2 ^ n) (sym f) ∙ ap (λ (n : ℕ). all_ones F * n) (pow-add 2 (F.f - 1) 1) ∙ sym (mul_assoc (all_ones F) (2 ^ (F.f - 1)) 2) in
      omega arith

  -- to the nearest: so from the middle between the largest and the next on, where a tie goes up in both directions
  module _ (X : ℕ) where
    abbrev NotTied : Direction → Type 0
    NotTied d = largest F ≡ rounded_magnitude F d X → distance (after_largest F) X ≡ distance (rounded_magnitude F d X) X → ⊥

    even_not_tied : NotTied NearestEven
    even_not_tied e d =
        let even = tie_even F ok X (after_largest F) after_representable (λ q. omega (arith, adjacent)) d in
        let w = word_by_magnitude F (infinity_word F - 1) (magnitude_word F NearestEven X) (sym (largest_word F ok) ∙ e) in
        let l = sym (significand_parity F ok (magnitude_word F NearestEven X)) ∙ even in
        last (infinity_word F) (magnitude_word F NearestEven X) (infinity_pos F ok) infinity_even l w
      where
        last : (i m : ℕ) → 0 < i → i % 2 ≡ 0 → m % 2 ≡ 0 → i - 1 ≡ m → ⊥
        last i m h g k w = omega arith

    away_not_tied : NotTied NearestAway
    away_not_tied e d = omega (arith, adjacent, tie_away F X (after_largest F) after_representable (λ q. omega (arith, adjacent)) d)

    overflow_nearest : (d : Direction) → GoesToNearest d → NotTied d → (largest F < rounded_magnitude F d X) ↔ (largest F + after_largest F ≤ 2 * X)
    overflow_nearest d near not-tied = (
      λ h. to (largest F) (after_largest F) (rounded_magnitude F d X) adjacent (passes d X h)
          ((rounded_nearest F X d near).closest (largest F) largest_representable),
      λ h. back (dec_lt (largest F) (rounded_magnitude F d X)) h,
    )
      where
        to : (l a r : ℕ) → l < a → a ≤ r → distance r X ≤ distance l X → l + a ≤ 2 * X
        to l a r h g d = omega arith

        tied : (l a r : ℕ) → l < a → r ≤ l → l + a ≤ 2 * X → distance r X ≤ distance a X → (l ≡ r) × (distance a X ≡ distance r X)
        tied l a r h g m d = (omega arith, omega arith)

        back : Dec (largest F < rounded_magnitude F d X) → largest F + after_largest F ≤ 2 * X → largest F < rounded_magnitude F d X
        back (yes l) h = l
        back (no l) h =
            let t =
            tied (largest F) (after_largest F) (rounded_magnitude F d X) adjacent (omega arith) h
            ((rounded_nearest F X d near).closest (after_largest F) after_representable) in
            absurd (not-tied t.0 t.1)

    pub overflow_nearest_even : (largest F < rounded_magnitude F NearestEven X) ↔ (largest F + after_largest F ≤ 2 * X)
    overflow_nearest_even = overflow_nearest NearestEven nearest_even even_not_tied

    pub overflow_nearest_away : (largest F < rounded_magnitude F NearestAway X) ↔ (largest F + after_largest F ≤ 2 * X)
    overflow_nearest_away = overflow_nearest NearestAway nearest_away away_not_tied
