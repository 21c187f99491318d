-- `adder::carry_row::ordered_row` meets its contract: each position of the aligned significands is one of the row (proofs/RowBit).
-- Assumes nothing.
use mathlib.Core.Path.{◌≡◌, sym, ap, ap₂, ◌∙◌, fun_ext}
use Prim.Native.Nat.{ℕ, ◌+◌, ◌-◌}
use native.Mathlib.Nat.{lt_of_lt_of_le, lt_of_le_of_lt}
use native.Mathlib.Omega.{arith}
use lib.Dec.{eqb}
use lib.Pow.{pow_mono, shr_le}
use Rattle.format.specs.Format.{precision}
use Rattle.format.proofs.Room.{significand_room}
use Rattle.word.specs.declared.Unit as exponent
use Rattle.word.specs.Word.{unit_of}
use Rattle.adder.specs.Row.{gather, carry_in}
use Rattle.rounding.specs.Dropped.{sticky}
use Rattle.rounding.proofs.Sticky.{sticky_lt}
use Rattle.adder.proofs.RowBit.{row_bit}
use Rattle.adder.proofs.carry_row.ordered_row.Goals as goal

pub overflow_sub-gap : goal.overflow_sub-gap
overflow_sub-gap c =
    omega (arith, c.requires.3, ap (λ (n : exponent.Unit). n.0) c.unit_of-u.ensures, ap (λ (n : exponent.Unit). n.0) c.unit_of-v.ensures)

pub gathered-requires : goal.gathered-requires
gathered-requires c =
    let room = significand_room c.args.format c.requires.0 in
    let b = pow_mono {i = precision c.args.format} {j = 62} (omega arith) in
    (omega arith, lt_of_lt_of_le c.requires.1.significand_lt b, rw c.high-whole.ensures (lt_of_le_of_lt (shr_le c.args.r.significand (c.unit_of-u.result.0 - c.unit_of-v.result.0)) (lt_of_lt_of_le c.requires.2.significand_lt b)), rw c.sticky-rest.ensures (sticky_lt c.low.result))

pub returns : goal.returns
returns c =
    let F = c.args.format in
    let l = c.args.l in
    let r = c.args.r in
    let p = c.unit_of-u in
    let q = c.unit_of-v in
    let d = p.result.0 - q.result.0 in
    let like = eqb l.sign r.sign in
    let up : p.result.0 ≡ (unit_of l.exponent).0 = ap (λ (n : exponent.Unit). n.0) p.ensures in
    let vq : q.result.0 ≡ (unit_of r.exponent).0 = ap (λ (n : exponent.Unit). n.0) q.ensures in
    let units : d + (unit_of r.exponent).0 ≡ (unit_of l.exponent).0 = omega (arith, c.requires.3) in
    c.gathered.ensures
    ∙ ap₂ (λ (w t : ℕ). gather (precision F) (carry_in like l.significand w t)) c.high-whole.ensures (c.sticky-rest.ensures ∙ ap sticky c.low.ensures)
    ∙ ap (gather (precision F))
    (fun_ext (λ i. sym (row_bit l.significand r.significand (unit_of l.exponent).0 (unit_of r.exponent).0 d i units like)))
