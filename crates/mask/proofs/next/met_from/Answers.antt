-- `mask::next::met_from` meets its contract: n is the answer where it meets the mask or is past the numbers of so many bits, and else
-- the number with one more than n has from a position on.
-- Assumes nothing.
use borrow.Author.Tests.{ltb-true, lt-ltb, eqb-true, eq-eqb}
use mathlib.Core.Path.{◌≡◌, sym, ap₂, ◌∙◌, subst}
use mathlib.Core.Bool.{Bool, true, false, ◌&&◌, and-eq-true_iff, false≢true}
use Prim.Native.Nat.{ℕ, ◌+◌, ◌*◌, ◌/◌, ◌%◌, ◌^◌, ◌≤◌, ◌<◌}
use native.Mathlib.Nat.{div-eq_of_lt, div-lt_iff_lt-mul, lt_of_lt_of_le}
use native.Mathlib.Omega.{arith}
use lib.Bits.{bit_or}
use lib.Dec.{ltb, eqb}
use lib.Pow.{pow_pos, pow_mono, shr_le}
use Rattle.mask.specs.declared.Mask.{Mask}
use Rattle.mask.specs.Mask.{WellFormed, well_formed}
use Rattle.mask.specs.Next.{MetFrom}
use Rattle.mask.proofs.Checks.{meets_true, well_formed_true}
use Rattle.mask.proofs.Stepping.{met_here, met_stepped, word_stepped}
use Rattle.mask.proofs.next.met_from.Goals as goal

-- the test that n and the mask are of so many bits
module _ (width : ℕ) (m : Mask) (n : ℕ) {s : Bool} {q : ℕ} (es : s ≡ well_formed width m) (eq : q ≡ n / 2 ^ width) where
  fit : (ltb width 64 && s) && eqb q 0 ≡ true → WellFormed 63 m × (n < 2 ^ 63)
  fit t =
      let both = (and-eq-true_iff (ltb width 64 && s) (eqb q 0)).0 t in
      let two = (and-eq-true_iff (ltb width 64) s).0 both.0 in
      let w : WellFormed width m = (well_formed_true width m).0 (sym es ∙ two.1) in
      let none : n / 2 ^ width ≡ 0 = sym eq ∙ eqb-true q 0 both.1 in
      let below : n < 1 * 2 ^ width = (div-lt_iff_lt-mul {k = 2 ^ width} {x = n} {y = 1} (pow_pos width)).0 (omega arith) in
      let up : 2 ^ width ≤ 2 ^ 63 = pow_mono {i = width} {j = 63} (omega (arith, ltb-true width 64 two.0)) in
      (record { below = lt_of_lt_of_le w.below up; inside = w.inside }, omega arith)

  past : width < 64 → WellFormed width m → (ltb width 64 && s) && eqb q 0 ≡ false → n < 2 ^ width → ⊥
  past l w t h =
      false≢true (sym t ∙ ap₂ ◌&&◌ (ap₂ ◌&&◌ (lt-ltb width 64 l) (es ∙ (well_formed_true width m).1 w)) (eq-eqb q 0 (eq ∙ div-eq_of_lt h)))

pub returns-then-meets : goal.returns-then-meets
returns-then-meets c =
    let a = c.args in
    (omega arith, λ l w. met_here a.width a.m a.n (λ _. (meets_true a.n a.m).0 (sym c.meets.ensures ∙ c.if-meets.true)))

pub step_at-at-requires : goal.step_at-at-requires
step_at-at-requires c =
    let a = c.args in
    let f = fit a.width a.m a.n c.well_formed-2.ensures c.high.ensures c.if-width-well_formed.true in
    (f.0, f.1, λ met. false≢true (sym c.if-meets.false ∙ c.meets.ensures ∙ (meets_true a.n a.m).1 met))

pub overflow_add-result : goal.overflow_add-result
overflow_add-result c =
    let a = c.args in
    let f = fit a.width a.m a.n c.well_formed-2.ensures c.high.ensures c.if-width-well_formed.true in
    omega (arith, c.high-then-width-well_formed.ensures, shr_le a.n c.step_at-at.result, f.1)

pub returns-then-width-well_formed : goal.returns-then-width-well_formed
returns-then-width-well_formed c =
    let a = c.args in
    let at : ℕ = c.step_at-at.result in
    let f = fit a.width a.m a.n c.well_formed-2.ensures c.high.ensures c.if-width-well_formed.true in
    let parts = ap₂ (λ (u v : ℕ). bit_or ((u + 1) * 2 ^ at % 2 ^ 64) v) c.high-then-width-well_formed.ensures c.low.ensures in
    let met = subst (λ (r : ℕ). MetFrom a.width a.m a.n r)
    (sym (parts ∙ word_stepped a.n a.m.value at f.1 c.step_at-at.ensures.0))
    (met_stepped a.width a.m a.n at f.0.inside c.step_at-at.ensures.1) in
    (met.from, λ l w. met)

pub returns : goal.returns
returns c =
    let a = c.args in (
      omega arith,
      λ l w. met_here a.width a.m a.n
          (λ h. absurd (past a.width a.m a.n c.well_formed-2.ensures c.high.ensures l w c.if-width-well_formed.false h)),
    )
