-- `adder::sum::nan` meets its contract. Assumes nothing.
use mathlib.Core.Path.{◌≡◌, ap₂, ◌∙◌}
use Prim.Native.Nat.{ℕ, ◌+◌, ◌-◌, ◌%◌, ◌^◌, ◌≤◌}
use native.Mathlib.Omega.{arith}
use lib.Pow.{pow_mono}
use Rattle.bits.proofs.Laws.{power_exact}
use Rattle.format.specs.declared.Format.{Format}
use Rattle.format.specs.Format.{Supported}
use Rattle.word.proofs.Bounds.{place_bits, place_power, infinity_lt}
use Rattle.adder.proofs.sum.nan.Goals as goal

-- the top bit of the fraction
top : (F : Format) → Supported F → {p : ℕ} → p ≡ 2 ^ (F.f - 1) % 2 ^ 64 → p ≡ 2 ^ (F.f - 1)
top F ok e = e ∙ power_exact (F.f - 1) (omega (arith, place_bits F ok))

power_short : {k p : ℕ} → p ≡ 2 ^ k % 2 ^ 64 → k ≤ 62 → p ≤ 2 ^ 62
power_short {k} e h = rw (e ∙ power_exact k (omega arith)) (pow_mono {i = k} {j = 62} h)

pub overflow_add-result : goal.overflow_add-result
overflow_add-result c =
    let F = c.args.format in
    let e = c.infinity_word.ensures.0 c.requires in
    let bits = place_bits F c.requires in
    omega (arith, infinity_lt F c.requires, place_power F c.requires, power_short c.power.ensures (omega arith))

pub returns : goal.returns
returns c =
    ap₂ ◌+◌ (c.infinity_word.ensures.0 c.requires) (top c.args.format c.requires c.power.ensures)
