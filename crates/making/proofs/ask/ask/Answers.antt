-- `making::ask::ask` meets its contract, by what the chain promises of the wires. Assumes nothing.
use mathlib.Core.Path.{sym, subst}
use native.Mathlib.Omega.{arith}
use Rattle.chain.specs.Chain.{Answered}
use Rattle.making.proofs.Made.{aligned_lt}
use Rattle.making.proofs.ask.ask.Goals as goal

pub wires_of-wires-requires : goal.wires_of-wires-requires
wires_of-wires-requires c = (omega (arith, aligned_lt c.args.f c.args.aligned c.requires.0), c.requires.1)

pub returns : goal.returns
returns c =
    let wires = c.wires_of-wires in
    let n = c.columns in
    λ formed none.
    let w = wires.ensures c.args.f formed none in
    let e = n.ensures formed.room in (
      (λ t. w.0 (subst (Answered wires.result) e (c.possible.ensures.0 t))),
      λ m. c.possible.ensures.1 (subst (Answered wires.result) (sym e) (w.1 m)),
    )
