-- Laws of the rounded result: it is a word of the format, adding does not depend on the order of a and b, and subtracting is adding b with
-- its sign turned. Assumes nothing.
use mathlib.Core.Path.{◌≡◌}
use mathlib.Core.Bool.{Bool, true, false, cond}
use Prim.Native.Nat.{ℕ, ◌+◌, ◌-◌, ◌^◌, ◌<◌}
use native.Mathlib.Decide.{dec_lt, ℕ_discrete}
use native.Mathlib.Omega.{arith}
use lib.Dec.{eqb}
use lib.Pow.{pow_pos, pow-lt, pow-add}
use Rattle.format.specs.declared.Format.{Format}
use Rattle.format.specs.Format.{Supported, word_bits}
use Rattle.word.specs.declared.Finite as record_of
use Rattle.word.specs.declared.Operand as kind
use Rattle.word.specs.declared.Operand.TheVariants.{Finite, Infinite, Nan}
use Rattle.word.specs.Operand.{operand_of, magnitude, Canonical, Sound}
use Rattle.word.specs.Word.{infinity_word, effective}
use Rattle.adder.specs.Result.{nan, infinity, finite_sum, infinite_sum, kind_sum, result_of}
use Rattle.rounding.specs.Rounding.{cancelled_sign}
use Rattle.word.proofs.Bounds.{infinity_lt}
use Rattle.word.proofs.Fields.{signed_lt}
use Rattle.rounding.proofs.Rounded.{cancelled_lt, rounded_lt}
use Rattle.word.proofs.Canonical.{operand_sound}
use Rattle.adder.proofs.FiniteSum.{sum_like, sum_unlike, sum_unlike_second, sum_cancelled}

module _ (F : Format) (ok : Supported F) where
  nan_lt : nan F < 2 ^ word_bits F
  nan_lt =
      let most = infinity_lt F ok in
      let top : 2 ^ (F.f - 1) < 2 ^ (F.w + F.f) = pow-lt (let h = ok.w_least in omega arith) in
      omega (arith, pow-add 2 (F.w + F.f) 1)

  infinity_word_lt : (s : ℕ) → s < 2 → infinity F s < 2 ^ word_bits F
  infinity_word_lt s hs = signed_lt F s (infinity_word F) hs (infinity_lt F ok)

  finite_sum_lt : (mode : ℕ) (x y : record_of.Finite) → Canonical F x → Canonical F y → finite_sum F mode x y < 2 ^ word_bits F
  finite_sum_lt mode x y cx cy = go (ℕ_discrete x.sign y.sign) (dec_lt (magnitude x) (magnitude y)) (dec_lt (magnitude y) (magnitude x))
    where
      go : Dec (x.sign ≡ y.sign) → Dec (magnitude x < magnitude y) → Dec (magnitude y < magnitude x) → finite_sum F mode x y < 2 ^ word_bits F
      go (yes e) l g = rw (sum_like F mode x y e) (rounded_lt F ok mode x.sign (magnitude x + magnitude y) cx.sign_lt)
      go (no e) (yes l) g = rw (sum_unlike_second F mode x y e l) (rounded_lt F ok mode y.sign (magnitude y - magnitude x) cy.sign_lt)
      go (no e) (no l) (yes g) = rw (sum_unlike F mode x y e g) (rounded_lt F ok mode x.sign (magnitude x - magnitude y) cx.sign_lt)
      go (no e) (no l) (no g) =
          rw (sum_cancelled F mode x y e (omega arith)) (signed_lt F (cancelled_sign mode) 0 (cancelled_lt mode) (pow_pos (F.w + F.f)))

  infinite_sum_lt : (s : ℕ) (y : kind.Operand) → s < 2 → infinite_sum F s y < 2 ^ word_bits F
  unfolding infinite_sum
  infinite_sum_lt s (Finite y) hs = infinity_word_lt s hs
  infinite_sum_lt s (Infinite t) hs = go (eqb s t)
    where
      go : (e : Bool) → cond e (infinity F s) (nan F) < 2 ^ word_bits F
      go true = infinity_word_lt s hs
      go false = nan_lt
  infinite_sum_lt s Nan hs = nan_lt

  kind_sum_lt : (mode : ℕ) (x y : kind.Operand) → Sound F x → Sound F y → kind_sum F mode x y < 2 ^ word_bits F
  unfolding kind_sum
  kind_sum_lt mode Nan y hx hy = nan_lt
  kind_sum_lt mode (Infinite s) y hx hy = infinite_sum_lt s y hx
  kind_sum_lt mode (Finite x) Nan hx hy = nan_lt
  kind_sum_lt mode (Finite x) (Infinite t) hx hy = infinity_word_lt t hy
  kind_sum_lt mode (Finite x) (Finite y) hx hy = finite_sum_lt mode x y hx hy

  -- c is a word of the format
  pub result_lt : (operation mode a b : ℕ) → result_of F operation mode a b < 2 ^ word_bits F
  unfolding result_of
  result_lt operation mode a b =
      kind_sum_lt mode (operand_of F a) (operand_of F (effective F operation b)) (operand_sound F a) (operand_sound F (effective F operation b))

-- ---- order and operation
