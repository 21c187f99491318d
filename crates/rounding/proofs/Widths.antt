-- How the widths of aligned significands stand to each other. Assumes nothing.
use mathlib.Core.Path.{◌≡◌}
use Prim.Native.Nat.{ℕ, suc, ◌+◌, ◌<◌}
use native.Mathlib.Omega.{arith}
use Rattle.format.specs.declared.Format.{Format}
use Rattle.format.specs.Format.{precision}
use Rattle.rounding.specs.Width.{guard_bits, aligned_bits, sum_bits}

pub guards : 0 < guard_bits
guards = omega arith

module _ (q : ℕ) where
  pub aligned_width : (F : Format) → precision F + q ≡ aligned_bits q F.f
  aligned_width F = omega arith

  pub sum_width : (f : ℕ) → suc (aligned_bits q f) ≡ sum_bits q f
  sum_width f = omega arith
