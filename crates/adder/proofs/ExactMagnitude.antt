-- The magnitude of the exact result of two finite operands, by their signs and the order of their magnitudes. Assumes nothing.
use mathlib.Core.Path.{◌≡◌, sym, ◌∙◌}
use Prim.Native.Nat.{◌+◌, ◌-◌, ◌≤◌, ◌<◌}
use native.Mathlib.Decide.{dec_lt, ℕ_discrete}
use native.Mathlib.Nat.{add_comm}
use native.Mathlib.Omega.{arith}
use borrow.Author.Tests.{lt-ltb, le-ltb, eq-eqb, ne_eqb}
use Rattle.word.specs.declared.Finite as record_of
use Rattle.word.specs.Operand.{magnitude}
use Rattle.adder.specs.Exact.{exact_magnitude}

module _ (x y : record_of.Finite) where
  pub magnitude_like : x.sign ≡ y.sign → exact_magnitude x y ≡ magnitude x + magnitude y
  unfolding exact_magnitude
  magnitude_like e = rw (eq-eqb _ _ e)

  pub magnitude_unlike : (x.sign ≡ y.sign → ⊥) → magnitude y ≤ magnitude x → exact_magnitude x y ≡ magnitude x - magnitude y
  unfolding exact_magnitude
  magnitude_unlike ne le = rw (ne_eqb _ _ ne, le-ltb (magnitude x) (magnitude y) le)

  pub magnitude_second : (x.sign ≡ y.sign → ⊥) → magnitude x < magnitude y → exact_magnitude x y ≡ magnitude y - magnitude x
  unfolding exact_magnitude
  magnitude_second ne lt = rw (ne_eqb _ _ ne, lt-ltb (magnitude x) (magnitude y) lt)

-- it does not depend on the order
pub magnitude_comm : (x y : record_of.Finite) → exact_magnitude x y ≡ exact_magnitude y x
magnitude_comm x y = go (ℕ_discrete x.sign y.sign) (dec_lt (magnitude x) (magnitude y)) (dec_lt (magnitude y) (magnitude x))
  where
    go : Dec (x.sign ≡ y.sign) → Dec (magnitude x < magnitude y) → Dec (magnitude y < magnitude x) → exact_magnitude x y ≡ exact_magnitude y x
    go (yes e) l g = magnitude_like x y e ∙ add_comm (magnitude x) (magnitude y) ∙ sym (magnitude_like y x (sym e))
    go (no e) (yes l) g = magnitude_second x y e l ∙ sym (magnitude_unlike y x (λ q. e (sym q)) (omega arith))
    go (no e) (no l) (yes g) = magnitude_unlike x y e (omega arith) ∙ sym (magnitude_second y x (λ q. e (sym q)) g)
    go (no e) (no l) (no g) = magnitude_unlike x y e (omega arith) ∙ omega arith ∙ sym (magnitude_unlike y x (λ q. e (sym q)) (omega arith))
