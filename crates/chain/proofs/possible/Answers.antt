-- `chain::possible` meets its contract: the walk ends in the state 0 exactly where the machine does. Assumes nothing.
use mathlib.Core.Path.{◌≡◌, sym, ap, ◌∙◌}
use mathlib.Core.Bool.{Bool, true, ◌&&◌, false≢true}
use Prim.Native.Nat.{ℕ, ◌*◌}
use native.Mathlib.Omega.{arith}
use lib.Dec.{eqb}
use Rattle.bits.proofs.Laws.{one_shl}
use Rattle.columns.specs.Column.{allows}
use Rattle.columns.specs.Machine.{sets}
use Rattle.columns.proofs.Reach.{reach_sound, reach_complete}
use Rattle.chain.specs.declared.Wires.{Wires}
use Rattle.chain.specs.Ways.{mem}
use Rattle.chain.specs.Walk.{served_of, step}
use Rattle.chain.proofs.Column.{both, and_both}
use Rattle.chain.proofs.Step.{step_live}
use Rattle.chain.proofs.Exact.{Served, served_sound, served_complete, solved_served, solved_start, start, sound, complete}
use Rattle.chain.proofs.possible.Goals as goal

-- what the test before the walk tells
gate : (w : Wires) (n : ℕ) {a b : Bool} → a ≡ served_of w n → b ≡ allows w.carries.care w.carries.value 0 0 → (a && b) ≡ true
    → Served w n × (allows w.carries.care w.carries.value 0 0 ≡ true)
gate w n {a} {b} p q e =
    let o = both {a = a} {b = b} e in
    (served_sound w n (sym p ∙ o.0), sym q ∙ o.1)

pub returns-then-n-ge64 : goal.returns-then-n-ge64
returns-then-n-ge64 c = (λ e. absurd (false≢true e), λ a. absurd (omega (arith, a.columns_lt)))

pub overflow_mul-wires : goal.overflow_mul-wires
overflow_mul-wires c =
    let a = c.args in
    let v = gate a.wires a.n c.served.ensures c.allows.ensures c.if-served-allows.true in
    omega (arith, v.0.carry_bit)

pub overflow_shl-wires : goal.overflow_shl-wires
overflow_shl-wires c =
    let a = c.args in
    let v = gate a.wires a.n c.served.ensures c.allows.ensures c.if-served-allows.true in
    omega (arith, v.0.carry_bit)

pub returns-then-served-allows : goal.returns-then-served-allows
returns-then-served-allows c =
    let a = c.args in
    let w = a.wires in
    let n = a.n in
    let v = gate w n c.served.ensures c.allows.ensures c.if-served-allows.true in
    let is : eqb c.bit_at.result 1 ≡ sets (step w) 4 (start w n) n 0 =
    ap (λ (u : ℕ). eqb u 1) c.bit_at.ensures
    ∙ c.walk.ensures 0 (omega arith)
    ∙ ap (λ (u : ℕ). sets (step w) 4 (mem u) n 0) (one_shl (2 * w.carry) (omega (arith, v.0.carry_bit))) in (
      λ e. sound w n v.0 v.1 (reach_sound (step w) 4 (start w n) n 0 (omega arith) (sym is ∙ e)) (omega (arith, c.if-n-ge64.false)),
      λ s. is ∙ reach_complete (step w) 4 (start w n) (step_live w) n 0 (omega arith) (complete w n s.carry_lt s.l s.t s.solved),
    )

pub returns : goal.returns
returns c =
    let a = c.args in
    let w = a.wires in (
      λ e. absurd (false≢true e),
      λ s.
          sym c.if-served-allows.false
          ∙ and_both (c.served.ensures ∙ served_complete w a.n (solved_served w a.n s.carry_lt s.l s.t s.solved))
          (c.allows.ensures ∙ solved_start w a.n s.l s.t s.solved),
    )
