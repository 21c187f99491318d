-- `numbers::put_number` meets its contract. After i turns the first i bytes are the low ones of x, and what is left of x is its quotient.
-- Assumes nothing.
use Rattle.std.proofs.Common.{◌≡◌, ℕ, ◌+◌, ◌-◌, drop, refl, sym, ◌∙◌, length, length-take-le, length-drop, add-one, arith}
use native.Mathlib.Nat.{div-one}
use Rattle.numbers.specs.Number.{little_endian}
use Rattle.numbers.proofs.Numbers.{left_suc, byte_more, part_put}
use Rattle.numbers.proofs.put_number.Goals as goal

pub loop-byte-init : goal.loop-byte-init
unfolding little_endian
loop-byte-init c = (sym (div-one c.args.x), refl)

pub loop-byte-preserved : goal.loop-byte-preserved
loop-byte-preserved c =
    let l = c.loop-byte in
    let x : ℕ = c.args.x in
    (rw (l.invariant.0, add-one) (left_suc x l.byte-index), byte_more l.byte-items l.byte-index x l.left (omega arith) l.invariant.0 l.invariant.1)

pub returns : goal.returns
returns c =
    let a = c.args in
    let l = c.loop-byte in
    let long : length l.byte-items ≡ a.k = l.auto.byte-items ∙ length-take-le (a.at + a.k - a.at) (drop a.at a.buffer.now) (rw length-drop (omega arith)) ∙ omega arith in
    part_put a.buffer.now a.at a.k (a.at + a.k - a.at) a.x l.byte-items l.byte-index (omega arith) long (omega (arith, long)) l.invariant.1
