-- Answers to whether two aligned significands make a number with a property: an answer moves to a property that comes to the same, `true`
-- is right where some number is made, and `false` where none is. Assumes nothing.
use mathlib.Core.Logic.{◌↔◌}
use mathlib.Core.Path.{◌≡◌, refl}
use mathlib.Core.Bool.{Bool, true, false, false≢true}
use Prim.Native.Nat.{ℕ}
use Rattle.making.specs.declared.Aligned as pair
use Rattle.making.specs.Making.{Made, Making}

module _ (f : ℕ) (A : pair.Aligned) (P : ℕ → Type 0) where
  pub some_made : Making f A P → (true ≡ true) ↔ Making f A P
  some_made m = ((λ t. m), λ p. refl)

  pub none_made : (Making f A P → ⊥) → (false ≡ true) ↔ Making f A P
  none_made never = ((λ t. absurd (false≢true t)), λ m. absurd (never m))

  module _ (Q : ℕ → Type 0) where
    pub making_map : ((x : ℕ) → P x → Q x) → Making f A P → Making f A Q
    making_map h m = record { x = m.x; made = m.made; holds = h m.x m.holds }

    pub making_answer : (r : Bool) → ((x : ℕ) → Made f A x → P x ↔ Q x) → ((r ≡ true) ↔ Making f A P) → (r ≡ true) ↔ Making f A Q
    making_answer r same asks = (
      (λ t. let m = asks.0 t in record { x = m.x; made = m.made; holds = (same m.x m.made).0 m.holds }),
      λ m. asks.1 (record { x = m.x; made = m.made; holds = (same m.x m.made).1 m.holds }),
    )
