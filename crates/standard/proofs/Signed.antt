-- What each mode asks, of signed numbers: the laws of the directions, with a sign. Assumes nothing.
use mathlib.Core.Path.{◌≡◌, refl, sym, ap, ◌∙◌, subst, subst₂}
use Prim.Native.Nat.{ℕ, zero, suc, ◌+◌, ◌≤◌, ◌<◌}
use native.Mathlib.Omega.{arith}
use lib.Dec.{leb→le, le→leb}
use lib.IntN.{ℤ, pos, neg_ℤ, nat_abs}
use lib.Signed.{◌≤ℤ◌, le_z_yes}
use Rattle.format.specs.declared.Format.{Format}
use Rattle.format.specs.Format.{Supported}
use Rattle.format.specs.Limits.{most_mode}
use Rattle.rounding.specs.declared.Direction.{Direction}
use Rattle.rounding.specs.declared.Direction.TheVariants.{NearestEven, NearestAway, TowardZero, Away}
use Rattle.rounding.specs.Rounding.{direction, magnitude_word}
use Rattle.standard.specs.Representable.{Representable, rounded_magnitude}
use Rattle.standard.specs.Rounds.{GreatestNotAbove, LeastNotBelow, Closest, distance}
use Rattle.standard.specs.Number.{signed_number, OfFormat, apart, EvenNumber, Nearest, RoundsTo}
use Rattle.standard.proofs.Rounding.{rounded_toward_zero, rounded_away, GoesToNearest, nearest_even, nearest_away, rounded_nearest, zero_representable, tie_even, tie_away, representable_rounds_to_itself, rounding_monotone}
use Rattle.standard.proofs.Integers.{signed_magnitude, like_apart, unlike_apart, by_sign, outward, like_order, unlike_below, unlike_not_above}

-- a number of sign s is of the format where its magnitude is
module _ (F : Format) (s m : ℕ) where
  pub signed_format : Representable F m → OfFormat F (signed_number s m)
  signed_format r = subst (Representable F) (sym (signed_magnitude s m)) r

  pub format_magnitude : OfFormat F (signed_number s m) → Representable F m
  format_magnitude r = subst (Representable F) (signed_magnitude s m) r

module _ (F : Format) (s X : ℕ) where
  -- away from zero, and toward zero
  outward_least : LeastNotBelow (outward s) (OfFormat F) (signed_number s X) (signed_number s (rounded_magnitude F Away X))
  outward_least =
      let R = rounded_magnitude F Away X in
      let g = rounded_away F X in
      record {
        member = signed_format F s R g.member;
        not_below = (like_order s X R).1 g.not_below;
        least =
            by_sign s (λ n. OfFormat F n → outward s (signed_number s X) n → outward s (signed_number s R) n)
            (λ m r h. (like_order s R m).1 (g.least m (format_magnitude F s m r) ((like_order s X m).0 h)))
            (λ m r h. absurd (unlike_not_above s m X h));
      }

  inward_greatest : GreatestNotAbove (outward s) (OfFormat F) (signed_number s X) (signed_number s (rounded_magnitude F TowardZero X))
  inward_greatest =
      let R = rounded_magnitude F TowardZero X in
      let g = rounded_toward_zero F X in
      record {
        member = signed_format F s R g.member;
        not_above = (like_order s R X).1 g.not_above;
        greatest =
            by_sign s (λ n. OfFormat F n → outward s n (signed_number s X) → outward s n (signed_number s R))
            (λ m r h. (like_order s m R).1 (g.greatest m (format_magnitude F s m r) ((like_order s m X).0 h)))
            (λ m r h. unlike_below s m R);
      }

  -- to the nearest: no number of the format is nearer, of either sign, and another one that is as near has this sign
  module _ (d : Direction) (near : GoesToNearest d) where
    pub signed_closest : Closest apart (OfFormat F) (signed_number s X) (signed_number s (rounded_magnitude F d X))
    signed_closest =
        let R = rounded_magnitude F d X in
        let g = rounded_nearest F X d near in
        record {
          member = signed_format F s R g.member;
          closest =
              by_sign s (λ n. OfFormat F n → apart (signed_number s R) (signed_number s X) ≤ apart n (signed_number s X))
              (λ m r. rw (like_apart s R X, like_apart s m X) (g.closest m (format_magnitude F s m r)))
              (λ m r. rw (like_apart s R X, unlike_apart s (suc m) X) (omega (arith, g.closest 0 (zero_representable F))));
        }

    signed_nearest : (preferred : ℤ → ℤ → Type 0)
        → ((m : ℕ) → Representable F m → (m ≡ rounded_magnitude F d X → ⊥) → distance m X ≡ distance (rounded_magnitude F d X) X
        → preferred (signed_number s (rounded_magnitude F d X)) (signed_number s m))
        → Nearest preferred F (signed_number s X) (signed_number s (rounded_magnitude F d X))
    signed_nearest preferred tied =
        let R = rounded_magnitude F d X in
        record {
          nearest = signed_closest;
          tie =
              by_sign s
              (λ n. OfFormat F n → (n ≡ signed_number s R → ⊥) → apart n (signed_number s X) ≡ apart (signed_number s R) (signed_number s X) → preferred (signed_number s R) n)
              (λ m r ne e. tied m (format_magnitude F s m r) (λ q. ne (ap (signed_number s) q)) (sym (like_apart s m X) ∙ e ∙ like_apart s R X))
              (λ m r ne e.
              let q : suc m + X ≡ distance R X = sym (unlike_apart s (suc m) X) ∙ e ∙ like_apart s R X in
              absurd (omega (arith, (rounded_nearest F X d near).closest 0 (zero_representable F))));
        }

  -- of the numbers that are no greater in magnitude, none is nearer
  pub signed_toward_zero : Closest apart (λ n. OfFormat F n × (nat_abs n ≤ nat_abs (signed_number s X))) (signed_number s X) (signed_number s (rounded_magnitude F TowardZero X))
  signed_toward_zero =
      let R = rounded_magnitude F TowardZero X in
      let g = rounded_toward_zero F X in
      record {
        member = (signed_format F s R g.member, rw (signed_magnitude s R, signed_magnitude s X) g.not_above);
        closest =
            by_sign s (λ n. OfFormat F n × (nat_abs n ≤ nat_abs (signed_number s X)) → apart (signed_number s R) (signed_number s X) ≤ apart n (signed_number s X))
            (λ m p.
            let h : m ≤ X = subst₂ (λ (a b : ℕ). a ≤ b) (signed_magnitude s m) (signed_magnitude s X) p.1 in
            rw (like_apart s R X, like_apart s m X) (omega (arith, g.not_above, g.greatest m (format_magnitude F s m p.0) h)))
            (λ m p. rw (like_apart s R X, unlike_apart s (suc m) X) (omega (arith, g.not_above)));
      }

-- the least number not below in an order is the greatest not above in the order turned
turned : {A : Type 0} {le : A → A → Type 0} {S : A → Type 0} {x r : A} → LeastNotBelow le S x r → GreatestNotAbove (λ m n. le n m) S x r
turned g = record { member = g.member; not_above = g.not_below; greatest = g.least }

turned_back : {A : Type 0} {le : A → A → Type 0} {S : A → Type 0} {x r : A} → GreatestNotAbove le S x r → LeastNotBelow (λ m n. le n m) S x r
turned_back g = record { member = g.member; not_below = g.not_above; least = g.greatest }

-- mode 2 rounds up: to the least number of the format that is not below the exact one
pub rounded_up : (F : Format) (s X : ℕ) → s < 2 → LeastNotBelow ◌≤ℤ◌ (OfFormat F) (signed_number s X) (signed_number s (rounded_magnitude F (direction 2 s) X))
unfolding direction
rounded_up F zero X h = outward_least F 0 X
rounded_up F (suc zero) X h = turned_back (inward_greatest F 1 X)
rounded_up F (suc (suc s)) X h = absurd (omega arith)

-- mode 3 rounds down: to the greatest that is not above it
pub rounded_down : (F : Format) (s X : ℕ) → s < 2 → GreatestNotAbove ◌≤ℤ◌ (OfFormat F) (signed_number s X) (signed_number s (rounded_magnitude F (direction 3 s) X))
unfolding direction
rounded_down F zero X h = inward_greatest F 0 X
rounded_down F (suc zero) X h = turned (outward_least F 1 X)
rounded_down F (suc (suc s)) X h = absurd (omega arith)

-- mode 1 rounds toward zero whatever the sign
toward_zero : (s : ℕ) → s < 2 → direction 1 s ≡ TowardZero
unfolding direction
toward_zero zero h = refl
toward_zero (suc zero) h = refl
toward_zero (suc (suc s)) h = absurd (omega arith)

-- modes 0 and 4 round to the nearest
pub rounded_even : (F : Format) → Supported F → (s X : ℕ) → RoundsTo F 0 (signed_number s X) (signed_number s (rounded_magnitude F (direction 0 s) X))
unfolding direction
rounded_even F ok s X =
    signed_nearest F s X NearestEven nearest_even (λ r n. EvenNumber F r) (λ m r ne e. record {
      word = magnitude_word F NearestEven X;
      is = sym (signed_magnitude s (rounded_magnitude F NearestEven X));
      even = tie_even F ok X m r ne e;
    })

pub rounded_ties_away : (F : Format) (s X : ℕ) → RoundsTo F 4 (signed_number s X) (signed_number s (rounded_magnitude F (direction 4 s) X))
unfolding direction
rounded_ties_away F s X =
    signed_nearest F s X NearestAway nearest_away (λ r n. nat_abs n < nat_abs r)
    (λ m r ne e. rw (signed_magnitude s m, signed_magnitude s (rounded_magnitude F NearestAway X)) (tie_away F X m r ne e))

-- each mode does what the standard says
pub rounds_to : (F : Format) → Supported F → (mode s X : ℕ) → mode ≤ most_mode → s < 2 → RoundsTo F mode (signed_number s X) (signed_number s (rounded_magnitude F (direction mode s) X))
rounds_to F ok zero s X hm hs = rounded_even F ok s X
rounds_to F ok (suc zero) s X hm hs = rw (toward_zero s hs) (signed_toward_zero F s X)
rounds_to F ok (suc (suc zero)) s X hm hs = rounded_up F s X hs
rounds_to F ok (suc (suc (suc zero))) s X hm hs = rounded_down F s X hs
rounds_to F ok (suc (suc (suc (suc zero)))) s X hm hs = rounded_ties_away F s X
rounds_to F ok (suc (suc (suc (suc (suc m))))) s X hm hs = absurd (omega arith)

-- ---- order
negative_below : (a b : ℕ) → neg_ℤ (pos a) ≤ℤ pos b
negative_below zero b = le_z_yes (le→leb 0 b (omega arith))
negative_below (suc a) b = le_z_yes tt

-- a number that is not negative lies below one that is not positive only where both are 0
both_zero : (a b : ℕ) → pos a ≤ℤ neg_ℤ (pos b) → (a ≡ 0) × (b ≡ 0)
both_zero a zero h = let l = leb→le a 0 h.le in (omega arith, refl)
both_zero a (suc b) h = absurd h.le

-- rounding in one mode keeps the order of numbers
pub rounding_keeps_order : (F : Format) (mode s X t Y : ℕ) → s < 2 → t < 2 → signed_number s X ≤ℤ signed_number t Y
    → signed_number s (rounded_magnitude F (direction mode s) X) ≤ℤ signed_number t (rounded_magnitude F (direction mode t) Y)
rounding_keeps_order F mode zero X zero Y hs ht h =
    let d = direction mode 0 in
    (like_order 0 (rounded_magnitude F d X) (rounded_magnitude F d Y)).1 (rounding_monotone F d X Y ((like_order 0 X Y).0 h))
rounding_keeps_order F mode (suc zero) X (suc zero) Y hs ht h =
    let d = direction mode 1 in
    (like_order 1 (rounded_magnitude F d Y) (rounded_magnitude F d X)).1 (rounding_monotone F d Y X ((like_order 1 Y X).0 h))
rounding_keeps_order F mode (suc zero) X zero Y hs ht h = negative_below (rounded_magnitude F (direction mode 1) X) (rounded_magnitude F (direction mode 0) Y)
rounding_keeps_order F mode zero X (suc zero) Y hs ht h =
    let z = both_zero X Y h in
    subst₂ (λ (a b : ℕ). pos a ≤ℤ neg_ℤ (pos b)) (sym (stays_zero (direction mode 0) X z.0)) (sym (stays_zero (direction mode 1) Y z.1)) (le_z_yes tt)
  where
    stays_zero : (d : Direction) (n : ℕ) → n ≡ 0 → rounded_magnitude F d n ≡ 0
    stays_zero d n e = ap (rounded_magnitude F d) e ∙ representable_rounds_to_itself F d 0 (zero_representable F)
rounding_keeps_order F mode zero X (suc (suc t)) Y hs ht h = absurd (omega arith)
rounding_keeps_order F mode (suc zero) X (suc (suc t)) Y hs ht h = absurd (omega arith)
rounding_keeps_order F mode (suc (suc s)) X t Y hs ht h = absurd (omega arith)
