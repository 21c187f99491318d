-- The walk over the columns, as the contracts of src/walk.rt speak of it. The machine reads t and the number that t is added to, which is
-- l for x = l + t and x for x = l - t: a borrow of l - t is a carry of x + t. A state is the first adder's carry plus twice the second's.
-- No public contract cites this file. Assumes nothing.
-- Internal: no public contract cites this.
use Rattle.std.specs.Prelude.{Bool, ◌&&◌, cond, ℕ, zero, suc, ◌+◌, ◌*◌, ◌/◌, ◌%◌, ◌^◌, ltb}
use Rattle.bits.specs.Bit.{bit}
use Rattle.columns.specs.Column.{allows}
use Rattle.chain.specs.declared.Wires.{Wires}
use Rattle.chain.specs.declared.walk.States.{States}
use Rattle.chain.specs.declared.walk.Table.{Table}
use Rattle.chain.specs.Ways.{digit}

-- no mask of a number and no constant reaches above n bits, and the carry is a bit
abbrev pub served_of : Wires → ℕ → Bool
served_of w n =
    ltb w.l.value (2 ^ n) && ltb w.t.value (2 ^ n) && ltb w.x.value (2 ^ n) && ltb w.z.value (2 ^ n)
    && ltb w.constant (2 ^ n) && ltb w.carry 2

-- the first sum of a column, from the state s and the bits p and r
abbrev pub first_sum : ℕ → ℕ → ℕ → ℕ
first_sum s p r = p + r + s % 2

-- the bits of l and of x: p and the sum's bit, or the other way round
abbrev pub l_bit : Bool → ℕ → ℕ → ℕ → ℕ
l_bit subtract s p r = cond subtract (first_sum s p r % 2) p

abbrev pub x_bit : Bool → ℕ → ℕ → ℕ → ℕ
x_bit subtract s p r = cond subtract p (first_sum s p r % 2)

-- the second sum of a column
abbrev pub second_sum : Wires → ℕ → ℕ → ℕ → ℕ → ℕ
second_sum w i s p r = x_bit w.subtract s p r + bit w.constant i + s / 2

-- every mask is met in column i
unfoldable pub fine : Wires → ℕ → ℕ → ℕ → ℕ → Bool
fine w i s p r =
    allows w.l.care w.l.value i (l_bit w.subtract s p r) && allows w.t.care w.t.value i r
    && allows w.x.care w.x.value i (x_bit w.subtract s p r)
    && allows w.carries.care w.carries.value (suc i) (first_sum s p r / 2)
    && allows w.z.care w.z.value i (second_sum w i s p r % 2)

-- the state after column i, or 4 where a mask is not met
unfoldable pub step : Wires → ℕ → ℕ → ℕ → ℕ → ℕ
step w i s p r = cond (ltb s 4 && fine w i s p r) (second_sum w i s p r / 2 * 2 + first_sum s p r / 2) 4

-- the state of the carries c and e
abbrev pub state : Bool → Bool → ℕ
state c e = digit e * 2 + digit c

-- the word of a state, and the columns that lead to a state
abbrev pub state_word : States → ℕ → ℕ
state_word v zero = v.s0
state_word v (suc zero) = v.s1
state_word v (suc (suc zero)) = v.s2
state_word v (suc (suc (suc s))) = v.s3

abbrev pub ways_to : Table → ℕ → States
ways_to v zero = v.to0
ways_to v (suc zero) = v.to1
ways_to v (suc (suc zero)) = v.to2
ways_to v (suc (suc (suc t))) = v.to3

-- a set of states that stands in column i: bit i where a state is in it
abbrev pub flag : Bool → ℕ → ℕ
flag b i = cond b (2 ^ i) 0

abbrev pub flags : (ℕ → Bool) → ℕ → States
flags b i = record { s0 = flag (b 0) i; s1 = flag (b 1) i; s2 = flag (b 2) i; s3 = flag (b 3) i }
