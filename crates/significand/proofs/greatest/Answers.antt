-- `significand::greatest` meets its contract. Assumes nothing.
use Rattle.std.proofs.Common.{ℕ, ◌+◌, ◌%◌, ◌^◌, refl, ap, ◌∙◌, not-le_of_lt}
use Rattle.significand.proofs.greatest.Goals as goal

pub returns-then-k-ge64 : goal.returns-then-k-ge64
returns-then-k-ge64 c = (λ h. absurd (not-le_of_lt h c.if-k-ge64.true), λ h. refl)

pub returns : goal.returns
returns c = (
  (λ h. c.wrapping_add_u64.ensures.value ∙ ap (λ (n : ℕ). (c.args.m.value + n) % 2 ^ 64) c.complement.ensures),
  λ h. absurd (not-le_of_lt c.if-k-ge64.false h),
)
