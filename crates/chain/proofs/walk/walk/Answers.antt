-- `chain::walk::walk` meets its contract. The loop's invariant: the set in hand stands in column i and is the set that the table leads to
-- after i columns. Where the loop is left early the set is empty, and stays so. Assumes nothing.
use mathlib.Core.Path.{◌≡◌, sym, ap, ◌∙◌}
use mathlib.Core.Bool.{false}
use Prim.Native.Nat.{ℕ}
use native.Mathlib.Numerals.{add-one}
use native.Mathlib.Omega.{arith}
use borrow.Author.Tests.{not-true}
use Rattle.columns.specs.Machine.{some, sets}
use Rattle.chain.specs.Ways.{mem}
use Rattle.chain.specs.Walk.{step}
use Rattle.chain.proofs.Words.{mem_zero}
use Rattle.chain.proofs.Sets.{reached, reached_sets, emptied}
use Rattle.chain.proofs.walk.walk.Goals as goal

pub loop-init : goal.loop-init
unfolding reached
loop-init c = c.spread-at.ensures

pub returns-then-not-any : goal.returns-then-not-any
returns-then-not-any c s hs =
    let a = c.args in
    let table = c.transitions-table.result in
    let i = c.loop.counter in
    let none : some 4 (reached table (mem a.set) i) ≡ false = sym (c.any.ensures i (reached table (mem a.set) i) c.loop.invariant) ∙ not-true c.any.result c.if-not-any.true-raw in
    mem_zero s
    ∙ sym (emptied table (mem a.set) i a.n (omega arith) none s hs)
    ∙ reached_sets table (mem a.set) (step a.wires) c.transitions-table.ensures a.n s (omega arith) hs

pub loop-preserved : goal.loop-preserved
unfolding reached
loop-preserved c =
    let i = c.loop.counter in
    rw add-one (c.next-at.ensures i (reached c.transitions-table.result (mem c.args.set) i) (omega arith) c.loop.invariant)

pub returns : goal.returns
returns c s hs =
    let a = c.args in
    let i = c.loop.counter in
    let table = c.transitions-table.result in
    let end : i ≡ a.n = omega arith in
    c.gather.ensures i (reached table (mem a.set) i) c.loop.invariant s hs
    ∙ reached_sets table (mem a.set) (step a.wires) c.transitions-table.ensures i s (omega arith) hs
    ∙ ap (λ (k : ℕ). sets (step a.wires) 4 (mem a.set) k s) end
