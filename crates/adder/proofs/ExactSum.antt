-- The rounded result of two finite words is their exact result, rounded: one equation for both operations, all modes, and zero.
-- Assumes nothing.
use mathlib.Core.Path.{◌≡◌, sym, ap₂, ◌∙◌}
use Prim.Native.Nat.{ℕ, ◌+◌, ◌-◌, ◌<◌}
use native.Mathlib.Decide.{dec_lt, ℕ_discrete}
use native.Mathlib.Omega.{arith}
use borrow.Author.Tests.{lt-ltb, le-ltb, eq-eqb, ne_eqb}
use Rattle.format.specs.declared.Format.{Format}
use Rattle.format.specs.Format.{Supported}
use Rattle.word.specs.declared.Finite as record_of
use Rattle.word.specs.Word.{biased, all_ones, effective}
use Rattle.word.specs.Operand.{finite_of, magnitude}
use Rattle.rounding.specs.Rounding.{rounded, cancelled_sign}
use Rattle.adder.specs.Result.{finite_sum, kind_sum, result_of}
use Rattle.adder.specs.Exact.{exact_magnitude, exact_sign}
use Rattle.adder.proofs.ExactMagnitude.{magnitude_like, magnitude_unlike, magnitude_second}
use Rattle.adder.proofs.FiniteSum.{sum_like, sum_unlike, sum_unlike_second, sum_cancelled}
use Rattle.rounding.proofs.Rounded.{rounded_zero, cancelled_lt}
use Rattle.word.proofs.Canonical.{operand_finite}
use Rattle.word.proofs.Fields.{effective_biased}

module _ (mode : ℕ) (x y : record_of.Finite) where
  exact_like : x.sign ≡ y.sign → (exact_sign mode x y ≡ x.sign) × (exact_magnitude x y ≡ magnitude x + magnitude y)
  unfolding exact_sign
  exact_like e = (rw (eq-eqb _ _ e), magnitude_like x y e)

  exact_first : (x.sign ≡ y.sign → ⊥) → magnitude y < magnitude x → (exact_sign mode x y ≡ x.sign) × (exact_magnitude x y ≡ magnitude x - magnitude y)
  unfolding exact_sign
  exact_first ne h =
      let n = le-ltb (magnitude x) (magnitude y) (omega arith) in
      (rw (ne_eqb _ _ ne, n, lt-ltb (magnitude y) (magnitude x) h), magnitude_unlike x y ne (omega arith))

  exact_second : (x.sign ≡ y.sign → ⊥) → magnitude x < magnitude y → (exact_sign mode x y ≡ y.sign) × (exact_magnitude x y ≡ magnitude y - magnitude x)
  unfolding exact_sign
  exact_second ne h = (rw (ne_eqb _ _ ne, lt-ltb (magnitude x) (magnitude y) h), magnitude_second x y ne h)

  exact_zero : (x.sign ≡ y.sign → ⊥) → magnitude x ≡ magnitude y → (exact_sign mode x y ≡ cancelled_sign mode) × (exact_magnitude x y ≡ 0)
  unfolding exact_sign
  exact_zero ne e =
      let n = le-ltb (magnitude x) (magnitude y) (omega arith) in
      let m = le-ltb (magnitude y) (magnitude x) (omega arith) in
      (rw (ne_eqb _ _ ne, n, m), magnitude_unlike x y ne (omega arith) ∙ omega arith)

  pub exact_sign_lt : x.sign < 2 → y.sign < 2 → exact_sign mode x y < 2
  exact_sign_lt hx hy = go (ℕ_discrete x.sign y.sign) (dec_lt (magnitude x) (magnitude y)) (dec_lt (magnitude y) (magnitude x))
    where
      go : Dec (x.sign ≡ y.sign) → Dec (magnitude x < magnitude y) → Dec (magnitude y < magnitude x) → exact_sign mode x y < 2
      go (yes e) l g = rw (exact_like e).0 hx
      go (no e) (yes l) g = rw (exact_second e l).0 hy
      go (no e) (no l) (yes g) = rw (exact_first e g).0 hx
      go (no e) (no l) (no g) = rw (exact_zero e (omega arith)).0 (cancelled_lt mode)

  pub finite_sum_exact : (F : Format) → Supported F → finite_sum F mode x y ≡ rounded F mode (exact_sign mode x y) (exact_magnitude x y)
  finite_sum_exact F ok = go (ℕ_discrete x.sign y.sign) (dec_lt (magnitude x) (magnitude y)) (dec_lt (magnitude y) (magnitude x))
    where
      by : (s X : ℕ) → (exact_sign mode x y ≡ s) × (exact_magnitude x y ≡ X) → rounded F mode s X ≡ rounded F mode (exact_sign mode x y) (exact_magnitude x y)
      by s X e = sym (ap₂ (rounded F mode) e.0 e.1)

      go : Dec (x.sign ≡ y.sign) → Dec (magnitude x < magnitude y) → Dec (magnitude y < magnitude x)
          → finite_sum F mode x y ≡ rounded F mode (exact_sign mode x y) (exact_magnitude x y)
      go (yes e) l g = sum_like F mode x y e ∙ by x.sign (magnitude x + magnitude y) (exact_like e)
      go (no e) (yes l) g = sum_unlike_second F mode x y e l ∙ by y.sign (magnitude y - magnitude x) (exact_second e l)
      go (no e) (no l) (yes g) = sum_unlike F mode x y e g ∙ by x.sign (magnitude x - magnitude y) (exact_first e g)
      go (no e) (no l) (no g) =
          let q : magnitude x ≡ magnitude y = omega arith in
          sum_cancelled F mode x y e q ∙ sym (rounded_zero F ok mode (cancelled_sign mode)) ∙ by (cancelled_sign mode) 0 (exact_zero e q)

-- c of two finite words
pub result_exact : (F : Format) → Supported F → (operation mode a b : ℕ) → ((biased F a).0 ≡ all_ones F → ⊥) → ((biased F b).0 ≡ all_ones F → ⊥)
    → result_of F operation mode a b
    ≡ rounded F mode (exact_sign mode (finite_of F a) (finite_of F (effective F operation b))) (exact_magnitude (finite_of F a) (finite_of F (effective F operation b)))
unfolding result_of kind_sum
result_exact F ok operation mode a b na nb =
    let e = effective F operation b in
    ap₂ (kind_sum F mode) (operand_finite F a na) (operand_finite F e (λ q. nb (sym (effective_biased F operation b) ∙ q)))
    ∙ finite_sum_exact mode (finite_of F a) (finite_of F e) F ok
