-- `numbers::put_within` meets its contract: the two tests say together whether the bytes find room. Assumes nothing.
use mathlib.Core.Path.{sym, ◌∙◌}
use native.Mathlib.Omega.{arith}
use Rattle.numbers.specs.Number.{little_endian}
use Rattle.numbers.proofs.Numbers.{length_number, put_room, put_full}
use Rattle.numbers.proofs.put_within.Goals as goal

pub returns-then-k-buffer : goal.returns-then-k-buffer
returns-then-k-buffer c =
    let a = c.args in
    c.put_number.ensures
    ∙ sym (put_room a.buffer.now a.at (little_endian a.k a.x) (rw length_number (omega arith)))

pub returns-else-k-buffer : goal.returns-else-k-buffer
returns-else-k-buffer c =
    let a = c.args in
    sym (put_full a.buffer.now a.at (little_endian a.k a.x) (rw length_number (omega arith)))

pub returns-else-at-buffer : goal.returns-else-at-buffer
returns-else-at-buffer c =
    let a = c.args in
    sym (put_full a.buffer.now a.at (little_endian a.k a.x) (rw length_number (omega arith)))
