-- The proof of the cycle of calls {with_digits}. The measure is the number of digits. Assumes nothing.
use mathlib.Core.Path.{◌≡◌, sym, subst}
use Prim.Native.Nat.{ℕ, ◌-◌, ◌/◌, ◌%◌, ◌<◌}
use native.Mathlib.Nat.{mod-lt}
use native.Mathlib.Omega.{arith}
use Rattle.lines.specs.Text.{digits, Grown}
use Rattle.lines.proofs.Texts.{length_digits, grown_none, grown_digits, room_left}
use Rattle.lines.proofs.text.+with_digits.Goals as goal

some : (k : ℕ) → (k ≡ 0 → ⊥) → 0 < k
some k h = omega (arith, h)

pub returns-then-k-eq0 : goal.returns-then-k-eq0
unfolding digits
returns-then-k-eq0 t c =
    let a = c.args in
    subst (λ (k : ℕ). Grown a.line a.line (digits a.base k a.n)) (sym c.if-k-eq0.true) (grown_none a.line c.requires.2.whole)

pub overflow_sub-k : goal.overflow_sub-k
overflow_sub-k t c =
    some c.args.k c.if-k-eq0.false

pub nonzero_div-n : goal.nonzero_div-n
nonzero_div-n t c =
    omega (arith, c.requires.0)

pub with_digits-upper-requires : goal.with_digits-upper-requires
with_digits-upper-requires t c =
    let p = c.requires in
    let k = some c.args.k c.if-k-eq0.false in
    (omega (arith, k), (p.0, p.1, record { whole = p.2.whole; enough = omega (arith, p.2.enough) }))

pub nonzero_rem-n : goal.nonzero_rem-n
nonzero_rem-n t c =
    omega (arith, c.requires.0)

pub glyph-requires : goal.glyph-requires
glyph-requires t c =
    let lt : c.args.n % c.args.base < c.args.base = mod-lt c.args.n (omega (arith, c.requires.0)) in
    omega (arith, lt, c.requires.1)

pub with_byte-requires : goal.with_byte-requires
with_byte-requires t c =
    let a = c.args in
    let k = some a.k c.if-k-eq0.false in
    room_left 1 a.k c.requires.2 c.with_digits-upper.ensures (omega (arith, k, length_digits a.base (a.k - 1) (a.n / a.base)))

pub returns : goal.returns
returns t c =
    let a = c.args in
    grown_digits a.base a.k a.n c.glyph.result (some a.k c.if-k-eq0.false) c.glyph.ensures c.with_digits-upper.ensures c.with_byte.ensures
