-- `outcome::some_from` meets its contract. The invariant: no number of digits that was passed has an answer. Assumes nothing.
use mathlib.Core.Path.{refl, sym, ◌∙◌}
use mathlib.Core.Bool.{false≢true}
use native.Mathlib.Omega.{arith}
use Rattle.std.proofs.Common.{below_more}
use lib.Ieee.{size}
use Rattle.outcome.proofs.Range.{made_digits}
use Rattle.outcome.proofs.some_from.Goals as goal

pub loop-count-preserved : goal.loop-count-preserved
loop-count-preserved c = below_more _ _ c.loop-count.invariant (λ least formed valid m. false≢true (sym c.if-fits.false ∙ (c.fits.ensures formed valid).1 m))

pub returns-else-fits : goal.returns-else-fits
returns-else-fits c =
    let a = c.args in
    λ formed valid. (
      (λ t. absurd (false≢true t)),
      λ p. absurd (below_more _ _ c.loop-count.invariant (λ least formed valid m. false≢true (sym c.if-fits.false ∙ (c.fits.ensures formed valid).1 m)) (size p.x)
          (omega (arith, c.columns-last.ensures formed.room, made_digits a.format.f a.aligned p.x p.made)) p.holds.0 formed valid
          (record { x = p.x; made = p.made; holds = (refl, p.holds.1) })),
    )

pub returns : goal.returns
returns c =
    let a = c.args in
    λ formed valid. (
      (λ t. absurd (false≢true t)),
      λ p. absurd (c.loop-count.invariant (size p.x) (omega (arith, c.columns-last.ensures formed.room, made_digits a.format.f a.aligned p.x p.made)) p.holds.0 formed valid
          (record { x = p.x; made = p.made; holds = (refl, p.holds.1) })),
    )
