-- `bits::power` meets its contract. Assumes nothing.
use mathlib.Core.Path.{sym, ap, ◌∙◌}
use Prim.Native.Nat.{ℕ, ◌-◌, ◌%◌, ◌^◌}
use native.Mathlib.Nat.{mul-mod_left, one-mul, sub-add_cancel}
use lib.Pow.{pow-add}
use Rattle.bits.proofs.power.Goals as goal

pub returns-then-k-lt64 : goal.returns-then-k-lt64
returns-then-k-lt64 c = ap (λ (m : ℕ). m % 2 ^ 64) (one-mul (2 ^ c.args.k))

pub returns-else-k-lt64 : goal.returns-else-k-lt64
returns-else-k-lt64 c =
    let k = c.args.k in
    sym (ap (λ (j : ℕ). 2 ^ j % 2 ^ 64) (sym (sub-add_cancel c.if-k-lt64.false)) ∙ ap (λ (m : ℕ). m % 2 ^ 64) (pow-add 2 (k - 64) 64) ∙ mul-mod_left (2 ^ (k - 64)) (2 ^ 64))
