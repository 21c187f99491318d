-- `numbers::number_within` meets its contract: the three tests say together whether the bytes stand there. Assumes nothing.
use mathlib.Core.Path.{sym, ◌∙◌}
use native.Mathlib.Omega.{arith}
use Rattle.numbers.proofs.Numbers.{within_room, within_wide, within_past}
use Rattle.numbers.proofs.number_within.Goals as goal

pub returns-then-k-gt-MOST_BYTES : goal.returns-then-k-gt-MOST_BYTES
returns-then-k-gt-MOST_BYTES c =
    let a = c.args in
    sym (within_wide a.s.now a.at a.k c.if-k-gt-MOST_BYTES.true)

pub returns-then-k-s : goal.returns-then-k-s
returns-then-k-s c =
    let a = c.args in
    c.number_at.ensures ∙ sym (within_room a.s.now a.at a.k (omega arith) (omega arith))

pub returns-else-k-s : goal.returns-else-k-s
returns-else-k-s c =
    let a = c.args in
    sym (within_past a.s.now a.at a.k (omega arith) (omega arith))

pub returns-else-at-s : goal.returns-else-at-s
returns-else-at-s c =
    let a = c.args in
    sym (within_past a.s.now a.at a.k (omega arith) (omega arith))
