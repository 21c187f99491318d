-- The choice of a pair is the choice of its first number, and then of its second with the first fixed. Assumes nothing.
use mathlib.Core.Path.{◌≡◌, sym, subst}
use mathlib.Core.Logic.{◌⊎◌, inl, inr}
use Prim.Native.Nat.{ℕ, ◌<◌}
use native.Mathlib.Omega.{arith}
use lib.Bits.{bit_xor}
use Rattle.choice.specs.Choice.{Closest, Farther, ClosestPair}
use Rattle.choice.proofs.Closest.{farther, closest_unique, closest_self}

module _ (P : ℕ → ℕ → Type 0) where
  -- some pair has x as its first number
  abbrev pub First : ℕ → Type 0
  First x = (y : ℕ) × P x y

  module _ (r s x y : ℕ) where
    pub pair_of : Closest First r x → Closest (P x) s y → ClosestPair P r s x y
    pair_of cx cy = record {
      member = cy.member;
      least = λ x' y' m. farther r x x' (cx.least x' (y', m)) (λ e. cy.least y' (subst (λ (u : ℕ). P u y') e m));
    }

    pub first_of : ClosestPair P r s x y → Closest First r x
    first_of c = record { member = (y, c.member); least = λ x' m. go x' (c.least x' m.0 m.1) }
      where
        go : (x' : ℕ) {A : Type 0} → Farther r x x' A → (x' ≡ x) ⊎ (bit_xor x r < bit_xor x' r)
        go x' (inl l) = inr l
        go x' (inr e) = inl e.0

    pub second_of : ClosestPair P r s x y → Closest (P x) s y
    second_of c = record { member = c.member; least = λ y' m. go y' (c.least x y' m) }
      where
        go : (y' : ℕ) → Farther r x x ((y' ≡ y) ⊎ (bit_xor y s < bit_xor y' s)) → (y' ≡ y) ⊎ (bit_xor y s < bit_xor y' s)
        go y' (inl l) = absurd (omega arith)
        go y' (inr e) = e.1

  pub pair_unique : (r s x y x' y' : ℕ) → ClosestPair P r s x y → ClosestPair P r s x' y' → (x ≡ x') × (y ≡ y')
  pair_unique r s x y x' y' c c' =
      let e : x ≡ x' = closest_unique First r x x' (first_of r s x y c) (first_of r s x' y' c') in
      (e, closest_unique (P x) s y y' (second_of r s x y c) (subst (λ (u : ℕ). Closest (P u) s y') (sym e) (second_of r s x' y' c')))

  -- every member is the choice of some two words
  pub pair_self : (x y : ℕ) → P x y → ClosestPair P x y x y
  pair_self x y m = pair_of x y x y (closest_self First x (y, m)) (closest_self (P x) y m)
