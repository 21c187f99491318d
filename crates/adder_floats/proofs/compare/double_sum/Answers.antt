-- `adder_floats::compare::double_sum` meets its contract: neither operand is a NaN's pattern where a float is made of it, and a sum that equals
-- itself is no NaN. Assumes nothing.
use Rattle.std.proofs.Common.{refl}
use lib.Ieee.{binary64}
use Rattle.adder_floats.proofs.Floats.{no_nan, number}
use Rattle.adder_floats.proofs.compare.double_sum.Goals as goal

pub float_from_bits-c : goal.float_from_bits-c
float_from_bits-c c = no_nan binary64 refl c.is_nan.ensures c.if-is_nan.false

pub float_from_bits-c-2 : goal.float_from_bits-c-2
float_from_bits-c-2 c = no_nan binary64 refl c.is_nan-2.ensures c.if-is_nan-2.false

pub float_to_bits-result : goal.float_to_bits-result
float_to_bits-result c = number _ c.if-c.true
