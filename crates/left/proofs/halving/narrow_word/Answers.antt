-- `left::halving::narrow_word` meets its contract. Assumes nothing.
use mathlib.Core.Path.{sym, subst}
use Rattle.job.specs.declared.Wanted.{Wanted}
use Rattle.job.specs.declared.Job.{Job}
use Rattle.job.specs.Job.{ValidWanted}
use Rattle.job.proofs.Roles.{valid_wanted}
use Rattle.narrowing.specs.Narrowing.{Narrows}
use Rattle.left.specs.Narrower.{Narrower, Keeps}
use Rattle.left.proofs.Laws.{narrows_narrower}
use Rattle.left.proofs.halving.narrow_word.Goals as goal

pub returns : goal.returns
returns c =
    let a = c.args in
    let F = a.job.setting.format in
    let e = c.wanted-own.ensures in
    let law = c.narrowed-mask.ensures c.requires.setting.format (subst (ValidWanted F) (sym e) (valid_wanted a.role a.job c.requires)) in
    subst (λ (t : Job). Narrower a.job t × Keeps a.job t) (sym c.with_word_mask.ensures)
    (narrows_narrower a.role a.job c.requires c.narrowed-mask.result (subst (λ (u : Wanted). Narrows F u c.narrowed-mask.result) e law))
