-- `whole::left::left` meets its contract. The loop's invariant: of the masks whose steps the table tells, the set in hand stands in column i
-- and is the set of the carries that can stand before it. So at the end it is empty exactly where no case is left. Assumes nothing.
use mathlib.Core.Path.{◌≡◌, sym, ap, ap₂, ◌∙◌}
use mathlib.Core.Bool.{Bool, ◌&&◌}
use Prim.Native.Nat.{ℕ, suc, ◌+◌, ◌<◌}
use native.Mathlib.Numerals.{add-one}
use native.Mathlib.Omega.{arith}
use Rattle.columns.specs.Machine.{some, into, sets}
use Rattle.columns.proofs.Some.{some_cong}
use Rattle.chain.specs.Ways.{mem}
use Rattle.chain.specs.Walk.{flag}
use Rattle.whole.specs.declared.Masks.{Masks}
use Rattle.whole.specs.declared.left.Carries.{Carries}
use Rattle.whole.specs.declared.left.Table.{Table}
use Rattle.whole.specs.Column.{step}
use Rattle.whole.specs.Carries.{carry_word, ways_to, flags}
use Rattle.whole.proofs.Exact.{left_exact}
use Rattle.whole.proofs.Ways.{any_flag}
use Rattle.whole.proofs.left.left.Invariants.{Told, before}
use Rattle.whole.proofs.left.left.Goals as goal

-- one column more
more : (s : Masks) (table : Table) (i : ℕ) {set : Carries} → Told table s → i < 64
    → set ≡ flags (λ t. some 2 (λ c. before s i c && mem (carry_word (ways_to table t) c) i)) (suc i) → set ≡ flags (before s (i + 1)) (i + 1)
unfolding sets
more s table i told h e =
    let is : (t : ℕ) → t < 2 → some 2 (λ c. before s i c && mem (carry_word (ways_to table t) c) i) ≡ before s (suc i) t =
    λ t ht.
    some_cong 2 (λ c. before s i c && mem (carry_word (ways_to table t) c) i) (λ c. before s i c && into (step s) i c t)
    (λ c hc. ap (λ (v : Bool). before s i c && v) (told i c t h hc ht)) in
    rw add-one (e ∙ ap₂ (λ (p q : Bool). record { zero = flag p (suc i); one = flag q (suc i) }) (is 0 (omega arith)) (is 1 (omega arith)))

pub loop-preserved : goal.loop-preserved
loop-preserved c =
    let table = c.transitions-table.result in
    let i = c.loop.counter in
    λ s told e. more s table i told (omega arith) (c.next-set.ensures i (before s i) (omega arith) (c.loop.invariant s told e))

pub returns : goal.returns
unfolding sets
returns c =
    let s = c.args.s in
    let n = c.args.n in
    let i = c.loop.counter in
    let end : i ≡ n = omega arith in
    let start : record { zero = c.carry_in.result; one = c.carry_in-2.result } ≡ flags (before s 0) 0 = rw (c.carry_in.ensures, c.carry_in-2.ensures) in
    let set = c.loop.invariant s c.transitions-table.ensures start in
    let is = any_flag i (before s i) c.loop.set set ∙ ap (λ (j : ℕ). some 2 (before s j)) end in
    let exact = left_exact s n c.requires.1 in
    (λ e. exact.0 (sym is ∙ e), λ p. is ∙ exact.1 p)
