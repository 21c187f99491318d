-- `pair::finite::signs_admit` meets its contract: the signs are tested, and either side is tried as the larger. Assumes nothing.
use mathlib.Core.Bool.{Bool, true, false≢true}
use mathlib.Core.Logic.{◌↔◌, inl, inr, ⊎_elim}
use mathlib.Core.Path.{◌≡◌, refl, sym, ◌∙◌, subst₂}
use borrow.Author.Tests.{not-true, not-false}
use Rattle.mask.proofs.Checks.{meets_tested}
use Rattle.job.specs.declared.Job.{Job}
use Rattle.job.specs.Job.{Valid}
use Rattle.pair.specs.declared.Side.{Side}
use Rattle.pair.specs.Pair.{FiniteSide, Larger}
use Rattle.pair.proofs.Finites.{finite_a, finite_b}
use Rattle.pair.proofs.finite.signs_admit.Goals as goal

-- an answer about two sides is one about those that they equal
asked : (j : Job) (r : Bool) {x x' y y' : Side} → x ≡ x' → y ≡ y'
    → (Valid j → FiniteSide j.setting.format x → FiniteSide j.setting.format y → (r ≡ true) ↔ Larger j x y)
    → Valid j → FiniteSide j.setting.format x' → FiniteSide j.setting.format y' → (r ≡ true) ↔ Larger j x' y'
asked j r ex ey h = subst₂ (λ (x y : Side). Valid j → FiniteSide j.setting.format x → FiniteSide j.setting.format y → (r ≡ true) ↔ Larger j x y) ex ey h

pub returns-then-not-meets : goal.returns-then-not-meets
returns-then-not-meets c valid =
    let a = c.args in
    let m = c.meets in
    let t = meets_tested a.sa m.ensures c.sign_mask.ensures in
    ((λ e. absurd (false≢true e)), λ P. absurd (false≢true (sym (not-true m.result c.if-not-meets.true-raw) ∙ t.1 P.a_sign)))

pub returns-then-not-meets-2 : goal.returns-then-not-meets-2
returns-then-not-meets-2 c valid =
    let a = c.args in
    let m = c.meets-2 in
    let t = meets_tested a.sb m.ensures c.sign_mask-2.ensures in
    ((λ e. absurd (false≢true e)), λ P. absurd (false≢true (sym (not-true m.result c.if-not-meets-2.true-raw) ∙ t.1 P.b_sign)))

pub larger-requires : goal.larger-requires
larger-requires c = c.requires.0.supported

pub returns-then-larger : goal.returns-then-larger
returns-then-larger c valid =
    let a = c.args in
    let ma = (meets_tested a.sa c.meets.ensures c.sign_mask.ensures).0 (not-false c.meets.result c.if-not-meets.false-raw) in
    let mb = (meets_tested a.sb c.meets-2.ensures c.sign_mask-2.ensures).0 (not-false c.meets-2.result c.if-not-meets-2.false-raw) in
    let l = asked a.job c.larger.result c.side_a-x.ensures c.side_b-y.ensures c.larger.ensures valid
    (finite_a a.job valid a.ea a.eb c.requires.0 a.sa c.requires.1) (finite_b a.job valid a.ea a.eb c.requires.0 a.sb) in
    ((λ e. record { a_sign = ma; b_sign = mb; sums = inl (l.0 c.if-larger.true) }), λ P. refl)

pub larger-requires-2 : goal.larger-requires-2
larger-requires-2 c = c.requires.0.supported

pub returns : goal.returns
returns c valid =
    let a = c.args in
    let fa = finite_a a.job valid a.ea a.eb c.requires.0 a.sa c.requires.1 in
    let fb = finite_b a.job valid a.ea a.eb c.requires.0 a.sb in
    let ma = (meets_tested a.sa c.meets.ensures c.sign_mask.ensures).0 (not-false c.meets.result c.if-not-meets.false-raw) in
    let mb = (meets_tested a.sb c.meets-2.ensures c.sign_mask-2.ensures).0 (not-false c.meets-2.result c.if-not-meets-2.false-raw) in
    let one = asked a.job c.larger.result c.side_a-x.ensures c.side_b-y.ensures c.larger.ensures valid fa fb in
    let two = asked a.job c.larger-2.result c.side_b-y.ensures c.side_a-x.ensures c.larger-2.ensures valid fb fa in (
      (λ e. record { a_sign = ma; b_sign = mb; sums = inr (two.0 e) }),
      λ P. ⊎_elim (λ l. absurd (false≢true (sym c.if-larger.false ∙ one.1 l))) two.1 P.sums,
    )
