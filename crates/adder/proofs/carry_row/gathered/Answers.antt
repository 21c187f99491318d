-- `adder::carry_row::gathered` meets its contract. The invariant: the row has the carries of the positions passed. Assumes nothing.
use mathlib.Core.Path.{◌≡◌, refl, sym, ap, ap₂, ◌∙◌}
use Prim.Native.Nat.{ℕ, ◌+◌, ◌*◌, ◌^◌}
use mathlib.Core.Bool.{Bool, cond}
use native.Mathlib.Nat.{one-mul, zero-mul, add-zero}
use native.Mathlib.Omega.{arith}
use lib.Pow.{pow_mono}
use Rattle.bits.proofs.Laws.{power_exact}
use Rattle.adder.specs.Row.{gather, carry_in}
use Rattle.adder.proofs.RowBit.{gather_lt, gather_more}
use Rattle.adder.proofs.carry_row.gathered.Goals as goal
use Rattle.adder.proofs.carry_row.gathered.Goals.{then-carry_at, else-carry_at}

pub loop-i-init : goal.loop-i-init
unfolding gather
loop-i-init c = refl

pub overflow_add-row : goal.overflow_add-row
overflow_add-row c =
    let i = c.loop-i.i in
    let at = carry_in c.args.like c.args.l c.args.r c.args.s in
    let b = pow_mono {i = i} {j = 62} (omega (arith, c.requires.0)) in
    omega (arith, c.loop-i.invariant, gather_lt i at, c.power-row.ensures ∙ power_exact i (omega (arith, c.requires.0)))

pub loop-i-preserved : goal.loop-i-preserved
loop-i-preserved c =
    let i = c.loop-i.i in
    let inv = c.loop-i.invariant in
    let at = carry_in c.args.like c.args.l c.args.r c.args.s in
    let more = gather_more i at c.carry_at.result c.carry_at.ensures in
    elim c.if-carry_at.branch [
      | then-carry_at w ↦ w.row-is ∙ ap₂ ◌+◌ inv (w.power-row.ensures ∙ power_exact i (omega (arith, c.requires.0)) ∙ sym (one-mul (2 ^ i)))
          ∙ ap (λ (t : Bool). gather i at + cond t 1 0 * 2 ^ i) (sym w.if-carry_at.true) ∙ sym more
      | else-carry_at w ↦ w.row-is ∙ inv ∙ sym (ap (λ (n : ℕ). gather i at + n) (zero-mul (2 ^ i)) ∙ add-zero (gather i at))
          ∙ ap (λ (t : Bool). gather i at + cond t 1 0 * 2 ^ i) (sym w.if-carry_at.false) ∙ sym more
    ]

pub returns : goal.returns
returns c =
    let e : c.loop-i.i ≡ c.args.n = omega arith in
    c.loop-i.invariant ∙ ap (λ (n : ℕ). gather n (carry_in c.args.like c.args.l c.args.r c.args.s)) e
