-- `rounding::alignment::aligned` meets its contract. Assumes nothing.
use mathlib.Core.Path.{◌≡◌, refl, ap, ap₂, ◌∙◌}
use Prim.Native.Nat.{ℕ, ◌+◌, ◌-◌, ◌*◌, ◌/◌, ◌%◌, ◌^◌, ◌<◌}
use native.Mathlib.Nat.{mod-eq_of_lt, mul_comm, lt_of_lt_of_le}
use native.Mathlib.Omega.{arith}
use lib.Pow.{pow_mono, shl_lt, shr_le}
use Rattle.bits.proofs.Laws.{power_exact}
use Rattle.rounding.specs.Dropped.{with_sticky, sticky}
use Rattle.rounding.specs.Sticky.{guarded_at}
use Rattle.rounding.specs.Width.{mask_bits, short_bits, Short}
use Rattle.rounding.proofs.Sticky.{sticky_lt}
use Rattle.rounding.proofs.alignment.aligned.Goals as goal

-- a significand with room for q bits, moved up by all of them but one
module _ (q m : ℕ) (short : Short q m) where
  guarded_lt : m * 2 ^ (q - 1) < 2 ^ 62
  guarded_lt = lt_of_lt_of_le (shl_lt (short_bits q) (q - 1) short.short) (pow_mono {i = short_bits q + (q - 1)} {j = 62} (omega (arith, short.some, short.few)))

  moved : m * 2 ^ (q - 1) % 2 ^ 64 ≡ guarded_at q m
  moved = mod-eq_of_lt (omega (arith, guarded_lt)) ∙ mul_comm m (2 ^ (q - 1))

  moved_lt : guarded_at q m < 2 ^ 62
  moved_lt = rw (mul_comm (2 ^ (q - 1)) m) guarded_lt

-- what the tests leave
tested : (q m r : ℕ) → (q ≡ 0 → ⊥) → q < mask_bits → r ≡ 2 ^ (mask_bits - q) % 2 ^ 64 → m < r → Short q m
tested q m r some few er lt = record { some = omega (arith, some); few = few; short = rw (← power_exact (mask_bits - q) (omega arith), ← er) lt }

pub returns-then-below-eq0 : goal.returns-then-below-eq0
returns-then-below-eq0 c = (λ h. absurd (omega (arith, h.some, c.if-below-eq0.true)), λ _. refl)

pub returns-then-below-ge-MASK_BITS : goal.returns-then-below-ge-MASK_BITS
returns-then-below-ge-MASK_BITS c = (λ h. absurd (omega (arith, h.few, c.if-below-ge-MASK_BITS.true)), λ _. refl)

pub returns-then-power-significand : goal.returns-then-power-significand
returns-then-power-significand c =
    let e = c.power.ensures ∙ power_exact (mask_bits - c.args.below) (omega arith) in
    (λ h. absurd (omega (arith, h.short, c.if-power-significand.true, e)), λ _. refl)

pub overflow_mul-result : goal.overflow_mul-result
overflow_mul-result c =
    let h = tested c.args.below c.args.significand c.power.result c.if-below-eq0.false c.if-below-ge-MASK_BITS.false c.power.ensures c.if-power-significand.false in
    record { fits = omega (arith, c.high.ensures ∙ ap (λ (n : ℕ). n / 2 ^ c.args.gap) (moved c.args.below c.args.significand h), shr_le (guarded_at c.args.below c.args.significand) c.args.gap, moved_lt c.args.below c.args.significand h) }

pub overflow_add-result : goal.overflow_add-result
overflow_add-result c =
    let h = tested c.args.below c.args.significand c.power.result c.if-below-eq0.false c.if-below-ge-MASK_BITS.false c.power.ensures c.if-power-significand.false in
    record { fits = omega (arith, c.high.ensures ∙ ap (λ (n : ℕ). n / 2 ^ c.args.gap) (moved c.args.below c.args.significand h), shr_le (guarded_at c.args.below c.args.significand) c.args.gap, moved_lt c.args.below c.args.significand h, c.sticky.ensures, sticky_lt c.low.result) }

pub returns : goal.returns
unfolding with_sticky
returns c =
    let q = c.args.below in
    let m = c.args.significand in
    let h = tested q m c.power.result c.if-below-eq0.false c.if-below-ge-MASK_BITS.false c.power.ensures c.if-power-significand.false in (
      λ _.
          ap₂ (λ (n b : ℕ). n * 2 + b) (c.high.ensures ∙ ap (λ (n : ℕ). n / 2 ^ c.args.gap) (moved q m h))
          (c.sticky.ensures ∙ ap sticky (c.low.ensures ∙ ap (λ (n : ℕ). n % 2 ^ c.args.gap) (moved q m h))),
      λ no. absurd (no h),
    )
