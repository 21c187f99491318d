-- `left::halving::next_step` meets its contract. Assumes nothing.
use mathlib.Core.Path.{sym, subst}
use native.Mathlib.Omega.{arith}
use Rattle.job.specs.declared.Role.TheVariants.{A, B, C}
use Rattle.left.specs.declared.halving.Step.TheVariants.{Settled}
use Rattle.left.specs.Narrower.{StepOf}
use Rattle.left.proofs.Stepping.{further_step}
use Rattle.left.proofs.halving.next_step.Goals as goal

pub returns : goal.returns
returns c =
    let j = c.args.job in
    let v = c.requires in
    let ok = v.setting.format in
    let none : StepOf 0 j Settled = λ role l. absurd (omega (arith, l)) in
    let one = subst (StepOf 1 j) (sym c.further-a.ensures) (further_step j A Settled c.stands.result none (c.stands.ensures ok v.a)) in
    let two = subst (StepOf 2 j) (sym c.further-b.ensures) (further_step j B c.further-a.result c.stands-2.result one (c.stands-2.ensures ok v.b)) in
    subst (StepOf 3 j) (sym c.further.ensures) (further_step j C c.further-b.result c.stands-3.result two (c.stands-3.ensures ok v.c))
