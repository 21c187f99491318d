-- `special::extreme` meets its contract. Assumes nothing.
use mathlib.Core.Path.{sym, ap, ◌∙◌}
use Rattle.significand.proofs.Range.{greatest_word}
use Rattle.special.specs.Special.{extreme}
use Rattle.special.proofs.Representatives.{extreme_greatest}
use Rattle.special.proofs.extreme.Goals as goal

pub returns-then-which-eq0 : goal.returns-then-which-eq0
returns-then-which-eq0 c h w = let a = c.args in ap (extreme a.f a.m) (sym c.if-which-eq0.true)

pub returns-else-which-eq0 : goal.returns-else-which-eq0
returns-else-which-eq0 c h w =
    let a = c.args in
    c.greatest.ensures.0 h ∙ greatest_word a.f a.m h w ∙ extreme_greatest a.f a.m a.which c.if-which-eq0.false
