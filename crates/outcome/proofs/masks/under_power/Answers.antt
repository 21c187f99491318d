-- `outcome::masks::under_power` meets its contract: the bits from k on are 0. Assumes nothing.
use Prim.Native.Nat.{◌-◌}
use native.Mathlib.Omega.{arith}
use lib.Pow.{pow_pos}
use Rattle.outcome.proofs.Topped.{below_power}
use Rattle.outcome.proofs.masks.under_power.Goals as goal

pub topped-requires : goal.topped-requires
topped-requires c =
    let a = c.args in
    (omega arith, pow_pos (a.n - a.k), pow_pos a.k, pow_pos a.k)

pub returns : goal.returns
returns c =
    let a = c.args in
    rw c.topped.ensures (below_power a.n (a.n - a.k) a.k (omega arith))
