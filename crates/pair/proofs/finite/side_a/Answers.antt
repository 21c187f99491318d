-- `pair::finite::side_a` meets its contract. Assumes nothing.
use mathlib.Core.Bool.{true}
use mathlib.Core.Path.{ap}
use Rattle.mask.specs.declared.Mask.{Mask}
use Rattle.pair.specs.declared.Side.{Side}
use Rattle.pair.proofs.finite.side_a.Goals as goal

pub returns : goal.returns
returns c =
    let a = c.args in
    ap of c.fraction_mask-fraction.ensures
  where
    of : Mask → Side
    of m = record { lhs = true; sign = c.args.sign; exponent = c.args.exponent; fraction = m }
