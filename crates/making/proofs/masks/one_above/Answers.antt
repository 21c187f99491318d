-- `making::masks::one_above` meets its contract: an even value has no lowest bit. Assumes nothing.
use mathlib.Core.Path.{◌≡◌, sym, ap, ◌∙◌}
use Prim.Native.Nat.{ℕ, ◌+◌, ◌*◌, ◌/◌, ◌%◌}
use native.Mathlib.Omega.{arith}
use lib.Bits.{bit_or, or_shifted}
use Rattle.making.proofs.masks.one_above.Goals as goal

-- 1 stands in the free place
or_odd : (v : ℕ) → v % 2 ≡ 0 → bit_or v 1 ≡ v + 1
or_odd v even =
    let half : v / 2 * 2 ≡ v = omega (arith, even) in
    ap (λ (n : ℕ). bit_or n 1) (sym half) ∙ or_shifted (v / 2) 1 1 (omega arith) ∙ ap (λ (n : ℕ). n + 1) half

pub returns : goal.returns
returns c = let m = c.args.m in λ even. ap (λ (v : ℕ). record { care = m.care; value = v }) (or_odd m.value even)
