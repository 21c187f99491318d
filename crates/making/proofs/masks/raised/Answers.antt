-- `making::masks::raised` meets its contract: a short shift of a short mask loses no bit, and a long one only of the mask that fixes none.
-- Assumes nothing.
use mathlib.Core.Path.{◌≡◌, sym, ap, ap₂, ◌∙◌}
use Prim.Native.Nat.{ℕ, ◌+◌, ◌*◌, ◌^◌, ◌≤◌, ◌<◌}
use native.Mathlib.Nat.{zero-mul}
use native.Mathlib.Omega.{arith}
use lib.Pow.{shl_exact}
use Rattle.making.proofs.masks.raised.Goals as goal

-- a number of no bits is 0, and stays so
none : (n k d : ℕ) → 63 < d → k + d ≤ 64 → n < 2 ^ k → 0 ≡ n * 2 ^ d
none n k d far room h =
    let e : k ≡ 0 = omega arith in
    let z : n ≡ 0 = omega (arith, rw e at h) in
    sym (ap (λ (m : ℕ). m * 2 ^ d) z ∙ zero-mul (2 ^ d))

pub returns-then-d-gt63 : goal.returns-then-d-gt63
returns-then-d-gt63 c =
    let a = c.args in
    λ k room hc hv. ap₂ (λ (s t : ℕ). record { care = s; value = t }) (none a.m.care k a.d c.if-d-gt63.true room hc) (none a.m.value k a.d c.if-d-gt63.true room hv)

pub returns : goal.returns
returns c =
    let a = c.args in
    λ k room hc hv. ap₂ (λ (s t : ℕ). record { care = s; value = t }) (shl_exact k a.d 64 hc room) (shl_exact k a.d 64 hv room)
