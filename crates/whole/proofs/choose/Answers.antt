-- `whole::choose` meets its contract: its three walks end at the chosen case, by `walks_choose`. Assumes nothing.
use mathlib.Core.Path.{sym, subst}
use Prim.Native.Nat.{◌^◌, ◌≤◌}
use native.Mathlib.Nat.{lt_of_lt_of_le}
use lib.Pow.{pow_mono}
use Rattle.whole.specs.Choice.{Chosen}
use Rattle.whole.proofs.Choosing.{chosen_lt, walks_choose}
use Rattle.whole.proofs.choose.Goals as goal

pub case_of-requires : goal.case_of-requires
case_of-requires c =
    let a = c.args in
    let wide : 2 ^ a.length ≤ 2 ^ 32 = pow_mono {i = a.length} {j = 32} c.requires.most in
    let small = chosen_lt a.length a.masks c.requires.least c.follow-with_x.result c.follow-with_y.result c.follow-with_z.result c.follow-with_x.ensures c.follow-with_y.ensures c.follow-with_z.ensures in
    (lt_of_lt_of_le small.0 wide, lt_of_lt_of_le small.1 wide, lt_of_lt_of_le small.2 wide)

pub returns : goal.returns
returns c =
    let a = c.args in
    subst (Chosen a.length a.masks a.words) (sym c.case_of.ensures)
    (walks_choose a.length a.masks c.requires.least c.follow-with_x.result c.follow-with_y.result c.follow-with_z.result c.follow-with_x.ensures c.follow-with_y.ensures c.follow-with_z.ensures)
