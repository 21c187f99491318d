-- `outcome::digits::word_left` meets its contract: a number of so many digits has one of the two quotients that are asked. Assumes nothing.
use mathlib.Core.Path.{sym, ◌∙◌}
use Prim.Native.Nat.{◌+◌}
use native.Mathlib.Omega.{arith}
use Rattle.outcome.proofs.Room.{unit_short, field_formed}
use Rattle.outcome.proofs.Kept.{least_le}
use Rattle.outcome.proofs.Counted.{no_word, sought_none}
use Rattle.outcome.proofs.digits.word_left.Goals as goal

pub least_quotient-least-requires : goal.least_quotient-least-requires
least_quotient-least-requires c =
    let a = c.args in
    (c.requires.1, unit_short a.format a.sign a.unit c.requires.0, c.requires.3)

pub rounded_unit-rounded-requires : goal.rounded_unit-rounded-requires
rounded_unit-rounded-requires c =
    let a = c.args in
    (c.requires.1, unit_short a.format a.sign a.unit c.requires.0, c.requires.3)

pub overflow_add-least : goal.overflow_add-least
overflow_add-least c =
    let a = c.args in
    omega (arith, c.least_quotient-least.ensures, least_le a.below a.format.f a.count a.unit)

pub returns : goal.returns
returns c =
    let a = c.args in
    let least = c.least_quotient-least in
    let k = c.rounded_unit-rounded in
    let e = c.field_of in
    let so = c.sought-first in
    let e2 = c.field_of-2 in
    let so2 = c.sought-next in
    let le = least_le a.below a.format.f a.count a.unit in
    λ none. no_word a.below a.format a.direction a.sign a.unit a.c a.count least.result c.requires.2 c.requires.3 least.ensures
    e.result e2.result
    (field_formed a.format a.sign a.unit c.requires.0 a.below a.count least.result c.requires.4 (omega (arith, least.ensures, le)) k.result e.result k.ensures e.ensures)
    (field_formed a.format a.sign a.unit c.requires.0 a.below a.count (least.result + 1) c.requires.4 (omega (arith, least.ensures, le)) k.result e2.result k.ensures e2.ensures)
    (sought_none a.format a.direction a.sign a.c e.result so.result (sym c.is_some.ensures ∙ c.if-is_some.false) so.ensures)
    (sought_none a.format a.direction a.sign a.c e2.result so2.result (sym c.is_some-2.ensures ∙ none) so2.ensures)
