-- `chain::served` meets its contract: below 64 bits the shift is the power. Assumes nothing.
use mathlib.Core.Path.{ap}
use mathlib.Core.Bool.{◌&&◌}
use Prim.Native.Nat.{ℕ}
use lib.Dec.{ltb}
use Rattle.bits.proofs.Laws.{one_shl}
use borrow.Author.Rules.{rules}
use Rattle.chain.proofs.served.Goals as goal

pub returns : goal.returns
returns c =
    let a = c.args in
    let w = a.w in
    ap (λ (m : ℕ). ltb w.l.value m && ltb w.t.value m && ltb w.x.value m && ltb w.z.value m && ltb w.constant m && ltb w.carry 2)
    (one_shl a.n (search rules))
