-- `layout::size` meets its contract. Assumes nothing.
use mathlib.Core.Path.{◌≡◌, sym, ap, ◌∙◌}
use Prim.Native.Nat.{ℕ, ◌*◌}
use native.Mathlib.Nat.{zero-mul, one-mul}
use native.Mathlib.Omega.{arith}
use Rattle.bits.specs.Bit.{bit}
use Rattle.bits.proofs.Laws.{bit_lt}
use Rattle.layout.proofs.size.Goals as goal

pub returns-then-bit_at-eq0 : goal.returns-then-bit_at-eq0
returns-then-bit_at-eq0 c =
    let a = c.args in
    sym (ap (λ (b : ℕ). b * a.slot.size) (sym c.bit_at.ensures ∙ c.if-bit_at-eq0.true) ∙ zero-mul a.slot.size)

pub returns : goal.returns
returns c =
    let a = c.args in
    let one : bit a.map a.slot.bit ≡ 1 = omega (arith, bit_lt a.map a.slot.bit, c.bit_at.ensures, c.if-bit_at-eq0.false) in
    sym (ap (λ (b : ℕ). b * a.slot.size) one ∙ one-mul a.slot.size)
