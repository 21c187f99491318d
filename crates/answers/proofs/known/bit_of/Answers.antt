-- `answers::known::bit_of` meets its contract. Assumes nothing.
use mathlib.Core.Path.{◌≡◌}
use Prim.Native.Nat.{◌+◌, ◌-◌}
use native.Mathlib.Omega.{arith}
use borrow.Author.Tests.{lt-ltb, le-ltb}
use Rattle.bits.proofs.Laws.{one_shl}
use Rattle.classes.specs.Class.{most_field}
use Rattle.answers.specs.Kept.{asked_bit, bit_of}
use Rattle.answers.proofs.known.bit_of.Goals as goal

pub returns-then-i-lt-ASKED : goal.returns-then-i-lt-ASKED
unfolding bit_of
returns-then-i-lt-ASKED c =
    let a = c.args in
    let is : a.reach + 6 - a.field.0 ≡ most_field a.reach - a.field.0 = omega arith in
    rw (is, lt-ltb (most_field a.reach - a.field.0) asked_bit (omega (arith, c.if-i-lt-ASKED.true))) (one_shl (most_field a.reach - a.field.0) (omega (arith, c.if-i-lt-ASKED.true)))

pub returns-else-i-lt-ASKED : goal.returns-else-i-lt-ASKED
unfolding bit_of
returns-else-i-lt-ASKED c = let a = c.args in rw (le-ltb (most_field a.reach - a.field.0) asked_bit (omega (arith, c.if-i-lt-ASKED.false)))
