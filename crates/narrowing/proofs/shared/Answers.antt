-- `narrowing::shared` meets its contract: the bits are joined to the mask, and where they clash it stays. Assumes nothing.
use mathlib.Core.Path.{sym, ap, ◌∙◌}
use Prim.Native.Nat.{ℕ, ◌-◌, ◌%◌, ◌^◌}
use native.Mathlib.Omega.{arith}
use lib.Count.{leading_le}
use lib.Bits.{bit_xor}
use Rattle.bits.proofs.Laws.{power_exact}
use Rattle.narrowing.proofs.Sharing.{joined_shares}
use Rattle.narrowing.proofs.shared.Goals as goal

pub overflow_cast-l : goal.overflow_cast-l
overflow_cast-l c = omega (arith, leading_le 64 (bit_xor c.args.l c.args.h))

pub returns-in-Ok : goal.returns-in-Ok
returns-in-Ok c =
    let a = c.args in
    λ room le hh.
    joined_shares a.place a.l a.h room le hh c.saturating_sub-apart.result c.saturating_sub-apart.ensures a.mask c.in-Ok.m
    (record { care = c.without_low.result; value = c.without_low-2.result })
    (c.without_low.ensures
    ∙ ap (λ (n : ℕ). n - n % 2 ^ c.saturating_sub-apart.result) (c.saturating_sub.ensures ∙ ap (λ (n : ℕ). n - 1) (c.power.ensures ∙ power_exact a.place room)))
    c.without_low-2.ensures (sym c.join.ensures ∙ c.in-Ok.is)
