-- `pair::signs::sign_left` meets its contract. Assumes nothing.
use mathlib.Core.Path.{◌≡◌, ap, ◌∙◌}
use mathlib.Core.Bool.{not, ◌&&◌, ◌||◌}
use Prim.Native.Nat.{◌+◌, ◌%◌}
use native.Mathlib.Omega.{arith}
use lib.Dec.{eqb}
use Rattle.mask.specs.Mask.{meets}
use Rattle.pair.specs.Signs.{sign_left}
use Rattle.pair.specs.Pair.{turned}
use Rattle.pair.proofs.signs.sign_left.Goals as goal

pub returns : goal.returns
unfolding sign_left
returns c =
    let a = c.args in
    let turn : (a.sb + a.job.setting.operation % 2) % 2 ≡ turned a.job.setting.operation a.sb = omega arith in
    let one = c.meets.ensures ∙ ap (meets a.sa) c.sign_mask.ensures in
    let two = c.meets-2.ensures ∙ ap (meets a.sb) c.sign_mask-2.ensures in
    let three = c.meets-3.ensures ∙ ap (meets a.sa) c.sign_mask-3.ensures in
    (λ i. one i && two i && (not (eqb a.sa (turn i)) || three i))
