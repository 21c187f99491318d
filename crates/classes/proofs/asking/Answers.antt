-- `classes::asking` meets its contract. Assumes nothing.
use Rattle.std.proofs.Common.{ap, ◌∙◌}
use Rattle.job.specs.declared.Role.TheVariants.{C}
use Rattle.job.specs.declared.Wanted.{Wanted}
use Rattle.job.specs.Role.{with_wanted, with_mask}
use Rattle.classes.proofs.asking.Goals as goal

pub returns : goal.returns
returns c ok wc wn =
    let a = c.args in
    c.with_wanted.ensures
    ∙ ap (λ (w : Wanted). with_wanted C a.job w) (c.with_mask-wanted.ensures ∙ ap (with_mask a.job.c) (c.with_exponent.ensures ok wc wn))
