-- `layout::bounds_at` meets its contract. Assumes nothing.
use mathlib.Core.Path.{sym, ◌∙◌}
use borrow.Author.Tests.{eq-eqb, ne_eqb}
use Rattle.bits.specs.Bit.{bit}
use Rattle.layout.proofs.bounds_at.Goals as goal

pub returns-then-bit_at-eq0 : goal.returns-then-bit_at-eq0
returns-then-bit_at-eq0 c =
    let a = c.args in
    rw (eq-eqb (bit a.map a.field) 0 (sym c.bit_at.ensures ∙ c.if-bit_at-eq0.true))

pub returns : goal.returns
returns c =
    let a = c.args in
    rw (ne_eqb (bit a.map a.field) 0 (λ e. c.if-bit_at-eq0.false (c.bit_at.ensures ∙ e)))
