-- `adder::carry_row::carry_at` meets its contract. Assumes nothing.
use mathlib.Core.Path.{ap, ap₂, ◌∙◌}
use Prim.Native.Nat.{ℕ, ◌+◌, ◌%◌, ◌^◌}
use native.Mathlib.Nat.{mod-le}
use native.Mathlib.Numerals.{add-one}
use native.Mathlib.Omega.{arith}
use lib.Dec.{leb, ltb}
use Rattle.bits.proofs.Laws.{power_exact}
use Rattle.adder.proofs.carry_row.carry_at.Goals as goal

pub overflow_add-result : goal.overflow_add-result
overflow_add-result c =
    omega (arith, c.low-m.ensures, c.low-n.ensures, mod-le c.args.l (2 ^ (c.args.i + 1)), mod-le c.args.r (2 ^ (c.args.i + 1)))

pub overflow_add-result-else-like : goal.overflow_add-result-else-like
overflow_add-result-else-like c =
    omega (arith, c.low-n.ensures, mod-le c.args.r (2 ^ (c.args.i + 1)))

pub returns-then-like : goal.returns-then-like
returns-then-like c =
    let up = add-one c.args.i in
    rw c.if-like.true (ap₂ leb (c.power.ensures ∙ power_exact (c.args.i + 1) (omega arith) ∙ ap (λ (n : ℕ). 2 ^ n) up)
    (ap₂ ◌+◌ (c.low-m.ensures ∙ ap (λ (n : ℕ). c.args.l % 2 ^ n) up) (c.low-n.ensures ∙ ap (λ (n : ℕ). c.args.r % 2 ^ n) up)))

pub returns-else-like : goal.returns-else-like
returns-else-like c =
    let up = add-one c.args.i in
    rw c.if-like.false (ap₂ ltb (c.low-m.ensures ∙ ap (λ (n : ℕ). c.args.l % 2 ^ n) up)
    (ap (λ (n : ℕ). n + c.args.s) (c.low-n.ensures ∙ ap (λ (n : ℕ). c.args.r % 2 ^ n) up)))
