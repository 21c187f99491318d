-- `search::walk::follow` meets its contract: as many steps as there are open bits end the walk, by `steps_follow`. Assumes nothing.
use mathlib.Core.Path.{ap, ◌∙◌}
use native.Mathlib.Omega.{arith}
use Rattle.job.specs.declared.Job.{Job}
use Rattle.job.specs.declared.Wanted.{Wanted}
use Rattle.job.proofs.Roles.{word_mask_setting}
use Rattle.search.proofs.Walking.{all_started, steps_follow}
use Rattle.search.proofs.walk.follow.Goals as goal

pub follow_bits-end-requires : goal.follow_bits-end-requires
follow_bits-end-requires c = (c.requires, omega arith)

pub returns : goal.returns
returns c =
    let a = c.args in
    let m = c.wanted-own.result.mask in
    let own = ap (λ (u : Wanted). u.mask) c.wanted-own.ensures in (
      ap (λ (j : Job). j.setting) c.with_word_mask.ensures ∙ word_mask_setting a.role a.job c.follow_bits-end.result.mask,
      λ o.
          steps_follow a.job a.role a.open_bits a.start o m own a.word c.follow_bits-end.result
          (c.follow_bits-end.ensures (all_started a.job a.role a.open_bits a.start o m own)) c.with_word_mask.result c.with_word_mask.ensures,
    )
