-- `fit::dropped_meet` meets its contract: a mask that fixes no bit is met whatever the bits are. Assumes nothing.
use mathlib.Core.Path.{sym}
use native.Mathlib.Omega.{arith}
use Rattle.std.proofs.lemmas.Grind.{common_steps}
use Rattle.fit.specs.Fit.{below_in}
use Rattle.fit.proofs.Laws.{part_meets_true, unfixed_met}
use Rattle.fit.proofs.dropped_meet.Goals as goal

pub returns-then-dropped-eq0 : goal.returns-then-dropped-eq0
returns-then-dropped-eq0 c =
    let a = c.args in
    let m = a.dropped.mask in
    let below = below_in a.setting a.dropped.g a.a a.b in
    sym ((part_meets_true below m).1 (unfixed_met below m c.requires.1.mask.inside c.if-dropped-eq0.true))

pub returns : goal.returns
returns c =
    let below = c.below_last-below.ensures.0 (c.requires.0.format, c.requires.1.g_most) in
    grind (arith, common_steps, c.part_meets.ensures, below)
