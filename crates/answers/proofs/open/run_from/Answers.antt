-- `answers::open::run_from` meets its contract: one more than the word from bit i on has as many zeros at its end as that has ones.
-- Assumes nothing.
use mathlib.Core.Path.{sym, ◌∙◌}
use Prim.Native.Nat.{◌+◌, ◌/◌, ◌^◌, ◌<◌}
use native.Mathlib.Nat.{lt_of_lt_of_le}
use native.Mathlib.Omega.{arith}
use lib.Count.{trailing_le}
use lib.Pow.{shr_lt, pow_mono}
use Rattle.bits.proofs.Laws.{bit_shr}
use Rattle.mask.proofs.Ones.{trailing_ones}
use Rattle.answers.proofs.open.run_from.Goals as goal

pub overflow_add-result : goal.overflow_add-result
overflow_add-result c =
    let from_lt : c.args.word / 2 ^ c.args.i < 2 ^ 63 = shr_lt 63 c.args.i (lt_of_lt_of_le c.ranges.word.fits (pow_mono {i = 64} {j = 63 + c.args.i} (omega (arith, c.requires.0)))) in
    record { fits = omega (arith, from_lt) }

pub overflow_cast-result : goal.overflow_cast-result
overflow_cast-result c = record { fits = omega (arith, trailing_le 64 (c.args.word / 2 ^ c.args.i + 1)) }

pub returns : goal.returns
returns c =
    let from_lt : c.args.word / 2 ^ c.args.i < 2 ^ 63 = shr_lt 63 c.args.i (lt_of_lt_of_le c.ranges.word.fits (pow_mono {i = 64} {j = 63 + c.args.i} (omega (arith, c.requires.0)))) in
    let a = c.args in
    let ones = trailing_ones 64 (a.word / 2 ^ a.i) (omega (arith, from_lt)) in
    (trailing_le 64 (a.word / 2 ^ a.i + 1), λ k h. sym (bit_shr a.word a.i k) ∙ ones.one k h)
