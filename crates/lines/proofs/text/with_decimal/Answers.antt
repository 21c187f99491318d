-- `lines::text::with_decimal` meets its contract: a u64 has at most 20 decimal digits. Assumes nothing.
use mathlib.Core.Path.{subst}
use Prim.Native.Nat.{ℕ}
use native.Mathlib.Omega.{arith}
use Rattle.lines.specs.Text.{digits, decimal, Grown}
use Rattle.lines.proofs.Texts.{places_most, decimal_most}
use Rattle.lines.proofs.text.with_decimal.Goals as goal

pub with_digits-requires : goal.with_digits-requires
with_digits-requires c =
    let most = places_most 19 c.args.n c.args.n (omega (arith, c.ranges.n)) in
    (omega arith, omega arith, record { whole = c.requires.whole; enough = omega (arith, c.requires.enough, most, c.places.ensures) })

pub returns : goal.returns
unfolding decimal
returns c =
    let n : ℕ = c.args.n in
    let g : Grown c.args.line c.with_digits.result (decimal n) =
    subst (λ (k : ℕ). Grown c.args.line c.with_digits.result (digits 10 k n)) c.places.ensures c.with_digits.ensures in
    (g, omega (arith, g.len, decimal_most n (omega (arith, c.ranges.n))))
