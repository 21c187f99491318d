-- Sets of carries, as the contracts of src/left.rt speak of them: a word has a bit for each column. Assumes nothing.
-- Internal: no public contract cites this.
use Rattle.std.specs.Prelude.{Bool, ℕ, zero, suc}
use Rattle.chain.specs.Walk.{flag}
use Rattle.whole.specs.declared.left.Carries.{Carries}
use Rattle.whole.specs.declared.left.Table.{Table}

-- the word of a carry, and the columns that lead to a carry
abbrev pub carry_word : Carries → ℕ → ℕ
carry_word v zero = v.zero
carry_word v (suc c) = v.one

abbrev pub ways_to : Table → ℕ → Carries
ways_to v zero = v.to0
ways_to v (suc t) = v.to1

-- a set of carries that stands in column i: bit i where a carry is in it
abbrev pub flags : (ℕ → Bool) → ℕ → Carries
flags b i = record { zero = flag (b 0) i; one = flag (b 1) i }
