-- `answers::known::opened` meets its contract. Assumes nothing.
use mathlib.Core.Bool.{true≢false, false≢true}
use mathlib.Core.Path.{sym, ◌∙◌}
use Rattle.classes.proofs.ClassMasks.{any_formed}
use Rattle.answers.proofs.Keeping.{marked}
use Rattle.answers.proofs.known.opened.Goals as goal

pub returns-then-known-ne0 : goal.returns-then-known-ne0
returns-then-known-ne0 c = λ p kept. (kept, λ e. absurd (true≢false e))

pub returns : goal.returns
returns c =
    let a = c.args in
    λ p kept. (
      marked a.job a.class,
      λ e q. false≢true (sym e ∙ (c.class_admits-possible.ensures p (any_formed a.job.setting.format)).1 q),
    )
