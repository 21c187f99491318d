-- `bounds::rank` meets its contract. Assumes nothing.
use mathlib.Core.Path.{◌≡◌, refl, sym, ap₂, ◌∙◌}
use Prim.Native.Nat.{ℕ, ◌+◌, ◌-◌, ◌%◌, ◌^◌, ◌≤◌, ◌<◌}
use native.Mathlib.Omega.{arith}
use native.Mathlib.Nat.{mod-lt}
use borrow.Author.Tests.{eq-eqb, ne_eqb}
use lib.Pow.{pow_pos}
use Rattle.format.specs.declared.Format.{Format}
use Rattle.format.specs.Format.{Supported}
use Rattle.format.proofs.Laws.{supported_of, unsupported_of}
use Rattle.word.specs.Word.{sign}
use Rattle.word.proofs.Bounds.{place_bits, place_power, sign_place}
use Rattle.bounds.specs.Bounds.{rank}
use Rattle.bounds.proofs.rank.Goals as goal

-- the power and the low part that the code takes
module _ (F : Format) (ok : Supported F) (x p l : ℕ) (hp : p ≡ 2 ^ (F.w + F.f) % 2 ^ 64) (hl : l ≡ x % 2 ^ (F.w + F.f)) where
  power : p ≡ 2 ^ (F.w + F.f)
  power = sign_place F ok hp

  fits : (p + l < 2 ^ 64) × (l ≤ p)
  fits = let below = mod-lt x (pow_pos (F.w + F.f)) in (omega (arith, power, hl, place_power F ok), omega (arith, power, hl))

  above : sign F x ≡ 0 → p + l ≡ rank F x
  unfolding rank
  above e = rw (eq-eqb (sign F x) 0 e) (ap₂ (λ (a b : ℕ). a + b) power hl)

  under : (sign F x ≡ 0 → ⊥) → p - l ≡ rank F x
  unfolding rank
  under ne = rw (ne_eqb (sign F x) 0 ne) (ap₂ (λ (a b : ℕ). a - b) power hl)

pub returns-then-not-supported : goal.returns-then-not-supported
returns-then-not-supported c = (λ ok. absurd (unsupported_of c.supported.ensures c.if-not-supported.true ok), λ _. refl)

pub overflow_add-place : goal.overflow_add-place
overflow_add-place c = omega (arith, place_bits c.args.format (supported_of c.supported.ensures c.if-not-supported.false))

pub overflow_add-result : goal.overflow_add-result
overflow_add-result c =
    let ok = supported_of c.supported.ensures c.if-not-supported.false in
    omega (arith, (fits c.args.format ok c.args.x c.power.result c.low.result c.power.ensures c.low.ensures).0)

pub overflow_sub-result : goal.overflow_sub-result
overflow_sub-result c =
    let ok = supported_of c.supported.ensures c.if-not-supported.false in
    omega (arith, (fits c.args.format ok c.args.x c.power-else-bit_at-eq0.result c.low-else-bit_at-eq0.result c.power-else-bit_at-eq0.ensures c.low-else-bit_at-eq0.ensures).1)

pub returns-then-bit_at-eq0 : goal.returns-then-bit_at-eq0
returns-then-bit_at-eq0 c =
    let ok = supported_of c.supported.ensures c.if-not-supported.false in (
      λ _. above c.args.format ok c.args.x c.power.result c.low.result c.power.ensures c.low.ensures
          (sym c.bit_at.ensures ∙ c.if-bit_at-eq0.true),
      λ no. absurd (no ok),
    )

pub returns-else-bit_at-eq0 : goal.returns-else-bit_at-eq0
returns-else-bit_at-eq0 c =
    let ok = supported_of c.supported.ensures c.if-not-supported.false in (
      λ _. under c.args.format ok c.args.x c.power-else-bit_at-eq0.result c.low-else-bit_at-eq0.result c.power-else-bit_at-eq0.ensures c.low-else-bit_at-eq0.ensures
          (λ z. c.if-bit_at-eq0.false (c.bit_at.ensures ∙ z)),
      λ no. absurd (no ok),
    )
