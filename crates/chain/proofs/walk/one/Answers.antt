-- `chain::walk::one` meets its contract. Assumes nothing.
use mathlib.Core.Bool.{not}
use native.Mathlib.Omega.{arith}
use lib.Dec.{eqb}
use Rattle.chain.proofs.Words.{digit_lt, byte_digit}
use Rattle.chain.proofs.walk.one.Goals as goal

pub returns : goal.returns
returns c =
    let has = not (eqb c.args.word 0) in
    (omega (arith, byte_digit has, digit_lt has), byte_digit has)
