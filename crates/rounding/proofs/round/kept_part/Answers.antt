-- `rounding::round::kept_part` meets its contract. Assumes nothing.
use mathlib.Core.Path.{◌≡◌, ap, ◌∙◌}
use Prim.Native.Nat.{ℕ, ◌-◌, ◌*◌, ◌%◌, ◌^◌}
use native.Mathlib.Nat.{mod-eq_of_lt}
use native.Mathlib.Omega.{arith}
use borrow.Author.Tests.{lt-ltb, le-ltb}
use Rattle.rounding.specs.Rounding.{round_off}
use Rattle.rounding.specs.Sticky.{kept_part}
use Rattle.rounding.specs.Width.{guard_bits, most_rounded}
use Rattle.rounding.proofs.RoundOff.{round_off_le}
use Rattle.rounding.proofs.round.kept_part.Goals as goal

pub returns-then-unit-k : goal.returns-then-unit-k
unfolding kept_part
returns-then-unit-k c =
    (rw (lt-ltb _ _ c.if-unit-k.true) c.round_off.ensures, omega (arith, c.round_off.ensures, round_off_le c.args.direction c.args.x (most_rounded guard_bits)))

pub returns-else-unit-k : goal.returns-else-unit-k
unfolding kept_part
returns-else-unit-k c =
    let y = c.args.x * 2 ^ (c.args.u.0 - c.args.k) in
    let e : y % 2 ^ 64 ≡ y = mod-eq_of_lt (omega (arith, c.requires.2)) in
    let r = c.round_off-else-unit-k.ensures ∙ ap (λ (n : ℕ). round_off c.args.direction n guard_bits) e in
    (rw (le-ltb _ _ c.if-unit-k.false) r, omega (arith, r, round_off_le c.args.direction y guard_bits, c.requires.2))
