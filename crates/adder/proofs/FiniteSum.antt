-- Laws of the sum of two finite numbers: it does not depend on their order, and each of its three cases. Assumes nothing.
use mathlib.Core.Path.{◌≡◌, sym, ap₂, ◌∙◌}
use Prim.Native.Nat.{ℕ, ◌+◌, ◌-◌, ◌<◌}
use native.Mathlib.Nat.{add_comm}
use native.Mathlib.Decide.{dec_lt, ℕ_discrete}
use native.Mathlib.Omega.{arith}
use borrow.Author.Tests.{lt-ltb, le-ltb, eq-eqb, ne_eqb}
use Rattle.format.specs.declared.Format.{Format}
use Rattle.word.specs.declared.Finite as record_of
use Rattle.word.specs.Word.{signed}
use Rattle.word.specs.Operand.{magnitude}
use Rattle.rounding.specs.Rounding.{rounded, cancelled_sign}
use Rattle.adder.specs.Result.{finite_sum}

module _ (F : Format) (mode : ℕ) (x y : record_of.Finite) where
  -- like signs
  pub sum_like : x.sign ≡ y.sign → finite_sum F mode x y ≡ rounded F mode x.sign (magnitude x + magnitude y)
  unfolding finite_sum
  sum_like e = rw (eq-eqb _ _ e)

  -- unlike signs, the first magnitude the larger
  pub sum_unlike : (x.sign ≡ y.sign → ⊥) → magnitude y < magnitude x → finite_sum F mode x y ≡ rounded F mode x.sign (magnitude x - magnitude y)
  unfolding finite_sum
  sum_unlike ne h = rw (ne_eqb _ _ ne, le-ltb (magnitude x) (magnitude y) (omega arith), lt-ltb (magnitude y) (magnitude x) h)

  -- unlike signs, the second magnitude the larger
  pub sum_unlike_second : (x.sign ≡ y.sign → ⊥) → magnitude x < magnitude y → finite_sum F mode x y ≡ rounded F mode y.sign (magnitude y - magnitude x)
  unfolding finite_sum
  sum_unlike_second ne h = rw (ne_eqb _ _ ne, lt-ltb (magnitude x) (magnitude y) h)

  -- unlike signs, equal magnitudes
  pub sum_cancelled : (x.sign ≡ y.sign → ⊥) → magnitude x ≡ magnitude y → finite_sum F mode x y ≡ signed F (cancelled_sign mode) 0
  unfolding finite_sum
  sum_cancelled ne e =
      rw (ne_eqb _ _ ne, le-ltb (magnitude x) (magnitude y) (omega arith), le-ltb (magnitude y) (magnitude x) (omega arith))

-- the order of the operands does not matter
pub finite_sum_comm : (F : Format) (mode : ℕ) (x y : record_of.Finite) → finite_sum F mode x y ≡ finite_sum F mode y x
finite_sum_comm F mode x y = go (ℕ_discrete x.sign y.sign) (dec_lt (magnitude x) (magnitude y)) (dec_lt (magnitude y) (magnitude x))
  where
    go : Dec (x.sign ≡ y.sign) → Dec (magnitude x < magnitude y) → Dec (magnitude y < magnitude x) → finite_sum F mode x y ≡ finite_sum F mode y x
    go (yes e) l g =
        sum_like F mode x y e ∙ ap₂ (rounded F mode) e (add_comm (magnitude x) (magnitude y)) ∙ sym (sum_like F mode y x (sym e))
    go (no e) (yes l) g = sum_unlike_second F mode x y e l ∙ sym (sum_unlike F mode y x (λ q. e (sym q)) l)
    go (no e) (no l) (yes g) = sum_unlike F mode x y e g ∙ sym (sum_unlike_second F mode y x (λ q. e (sym q)) g)
    go (no e) (no l) (no g) =
        let q : magnitude x ≡ magnitude y = omega arith in
        sum_cancelled F mode x y e q ∙ sym (sum_cancelled F mode y x (λ p. e (sym p)) (sym q))
