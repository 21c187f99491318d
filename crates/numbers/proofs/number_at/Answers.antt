-- `numbers::number_at` meets its contract. The loop goes down from the last byte; what is passed is read as a number. Assumes nothing.
use Rattle.std.proofs.Common.{◌≡◌, ℕ, ◌+◌, ◌*◌, ◌-◌, take, drop, sym, ap, ◌∙◌, arith}
use mathlib.Core.Path.{ap₂}
use native.Mathlib.Nat.{sub_self}
use Rattle.numbers.specs.Number.{number}
use Rattle.numbers.proofs.Numbers.{read_more, read_small}
use Rattle.numbers.proofs.number_at.Goals as goal

pub loop-i-init : goal.loop-i-init
unfolding number
loop-i-init c =
    let a = c.args in
    ap (λ (n : ℕ). number (take n (drop (a.at + a.k) a.s.now))) (sym (sub_self a.k))

pub overflow_mul-n : goal.overflow_mul-n
overflow_mul-n c =
    let a = c.args in
    let l = c.loop-i in
    omega (arith, read_small a.s.now a.at a.k l.i l.n (λ j. (c.type_inv.s j).fits) c.loop-i-test.true c.requires.0 l.invariant)

pub overflow_add-n : goal.overflow_add-n
overflow_add-n c =
    let a = c.args in
    let l = c.loop-i in
    let small = read_small a.s.now a.at a.k l.i l.n (λ j. (c.type_inv.s j).fits) c.loop-i-test.true c.requires.0 l.invariant in
    omega (arith, small, c.wide.ensures, c.type_inv.s (a.at + (l.i - 1)))

pub loop-i-preserved : goal.loop-i-preserved
loop-i-preserved c =
    let a = c.args in
    let l = c.loop-i in
    ap (λ (b : ℕ). l.n * 256 + b) c.wide.ensures ∙ read_more a.s.now a.at a.k l.i l.n c.loop-i-test.true l.auto.i c.requires.1 l.invariant

pub returns : goal.returns
returns c =
    let a = c.args in
    let l = c.loop-i in
    let count : a.k - l.i ≡ a.k = omega arith in
    let from : a.at + l.i ≡ a.at = omega arith in
    l.invariant ∙ ap₂ (λ (k p : ℕ). number (take k (drop p a.s.now))) count from
