-- `whole::left::left` meets its contract. The loop's invariant: of the masks whose steps the table tells, the set in hand stands in column i
-- and is the set of the carries that can stand before it. So at the end it is empty exactly where no case is left. Assumes nothing.
use mathlib.Core.Path.{◌≡◌}
use mathlib.Core.Bool.{Bool}
use Prim.Native.Nat.{ℕ, ◌<◌}
use Rattle.columns.specs.Machine.{into, sets}
use Rattle.chain.specs.Ways.{mem}
use Rattle.whole.specs.declared.left.Table.{Table}
use Rattle.whole.specs.Column.{at, step}
use Rattle.whole.specs.declared.Masks.{Masks}
use Rattle.whole.specs.Carries.{carry_word, ways_to, flags}
use Rattle.whole.proofs.left.left.Given as goal

-- the table tells the steps under the masks s
abbrev pub Told : Table → Masks → Type 0
Told table s = (i c t : ℕ) → i < 64 → c < 2 → t < 2 → mem (carry_word (ways_to table t) c) i ≡ into (step s) i c t

-- the carries that can stand before column i
abbrev pub before : Masks → ℕ → ℕ → Bool
before s i = sets (step s) 2 (at s.carries 0) i

abbrev pub invariant-loop : goal.invariant-loop
invariant-loop l = (s : Masks) → Told l.table s → l.initial.set ≡ flags (before s 0) 0 → l.set ≡ flags (before s l.counter) l.counter
