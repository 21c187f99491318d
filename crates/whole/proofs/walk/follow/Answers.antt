-- `whole::walk::follow` meets its contract: as many steps as there are open bits end the walk, by `steps_follow`. Assumes nothing.
use native.Mathlib.Omega.{arith}
use Rattle.whole.proofs.Walking.{all_open, steps_follow}
use Rattle.whole.proofs.walk.follow.Goals as goal

pub follow_bits-end-requires : goal.follow_bits-end-requires
follow_bits-end-requires c =
    let a = c.args in
    (all_open a.n a.s a.role a.open_bits c.requires c.mask_of.result c.mask_of.ensures, omega arith)

pub returns : goal.returns
returns c =
    let a = c.args in
    steps_follow a.n a.s a.role a.open_bits c.requires c.mask_of.result c.mask_of.ensures a.word c.follow_bits-end.result c.follow_bits-end.ensures c.with_mask.result c.with_mask.ensures
