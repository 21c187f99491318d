-- `numbers::put_number` meets its contract. After i turns the first i bytes are the low ones of x, and what is left of x is its quotient.
-- Assumes nothing.
use Rattle.std.proofs.Common.{◌≡◌, ◌/◌, ◌^◌, take}
use Rattle.numbers.specs.Number.{little_endian}
use Rattle.numbers.proofs.put_number.Given as goal

abbrev pub invariant-loop-byte : goal.invariant-loop-byte
invariant-loop-byte l = (l.left ≡ l.x / 256 ^ l.byte-index) × (take l.byte-index l.byte-items ≡ little_endian l.byte-index l.x)
