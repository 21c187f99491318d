-- `bits::low` meets its contract: a word of 64 bits is its own remainder from position 64 on. Assumes nothing.
use mathlib.Core.Path.{sym, ap}
use Prim.Native.Nat.{ℕ, ◌%◌}
use native.Mathlib.Nat.{mod-eq_of_lt}
use lib.Pow.{pow_pos}
use Rattle.bits.proofs.Laws.{word_lt, one_shl}
use Rattle.bits.proofs.low.Goals as goal

pub nonzero_rem-result : goal.nonzero_rem-result
nonzero_rem-result c = rw (one_shl c.args.k c.if-k-lt64.true) (pow_pos c.args.k)

pub returns-then-k-lt64 : goal.returns-then-k-lt64
returns-then-k-lt64 c = ap (λ (m : ℕ). c.args.x % m) (one_shl c.args.k c.if-k-lt64.true)

pub returns-else-k-lt64 : goal.returns-else-k-lt64
returns-else-k-lt64 c = sym (mod-eq_of_lt (word_lt c.ranges.x.fits c.if-k-lt64.false))
