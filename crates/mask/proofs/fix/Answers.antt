-- `mask::fix` meets its contract: below 64 a shift by i loses no bit, and the tests that led to each return are those of `fix`.
-- Assumes nothing.
use borrow.Author.Tests.{le-ltb, lt-ltb, ltb-true}
use mathlib.Core.Path.{◌≡◌, sym, ap, ap₂, ◌∙◌}
use mathlib.Core.Bool.{Bool, true, false, ◌&&◌, and-eq-true_iff}
use Prim.Native.Nat.{ℕ, ◌^◌, ◌<◌}
use native.Mathlib.Nat.{one-mul}
use native.Mathlib.Omega.{arith}
use lib.Bits.{bit_or}
use lib.Dec.{ltb}
use lib.Pow.{shl_exact}
use Rattle.mask.specs.declared.Mask.{Mask}
use Rattle.mask.specs.Mask.{free, fix}
use Rattle.mask.proofs.Fixing.{fix_fixed}
use Rattle.mask.proofs.fix.Goals as goal

pub returns-then-i-ge64 : goal.returns-then-i-ge64
unfolding fix
returns-then-i-ge64 c = simp (le-ltb _ _ c.if-i-ge64.true)

pub returns-then-v-free : goal.returns-then-v-free
returns-then-v-free c =
    let a = c.args in
    let m : Mask = a.m in
    let below : a.i < 64 = c.if-i-ge64.false in
    let t : ltb a.v 2 && free m a.i ≡ true = ap (λ (s : Bool). ltb a.v 2 && s) (sym c.free.ensures) ∙ c.if-v-free.true in
    let bit : a.v < 2 = ltb-true a.v 2 ((and-eq-true_iff (ltb a.v 2) (free m a.i)).0 t).0 in
    ap₂ (λ (s t : ℕ). record { care = bit_or m.care s; value = bit_or m.value t })
    (shl_exact 1 a.i 64 (omega arith) (omega arith) ∙ one-mul (2 ^ a.i)) (shl_exact 1 a.i 64 bit (omega arith))
    ∙ sym (fix_fixed m a.i a.v below t)

pub returns : goal.returns
unfolding fix
returns c =
    let a = c.args in
    let below : a.i < 64 = c.if-i-ge64.false in
    let t : ltb a.v 2 && free a.m a.i ≡ false = ap (λ (s : Bool). ltb a.v 2 && s) (sym c.free.ensures) ∙ c.if-v-free.false in
    simp (lt-ltb a.i 64 below, t)
