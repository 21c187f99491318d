-- `rounding::addend::constant` meets its contract: a row of the table for each direction. Assumes nothing.
use mathlib.Core.List.{[], ◌∷◌}
use mathlib.Core.Logic.{inl, inr}
use mathlib.Core.Path.{◌≡◌, refl, sym, ap, ◌∙◌}
use Prim.Native.Nat.{ℕ, zero, suc, ◌-◌, ◌%◌, ◌^◌, ◌≤◌, ◌<◌}
use native.Mathlib.Omega.{arith}
use lib.Pow.{pow_pos}
use Rattle.bits.proofs.Laws.{power_exact}
use Rattle.rounding.specs.declared.Direction.{Direction}
use Rattle.rounding.specs.declared.Direction.TheVariants.{NearestEven, NearestAway, TowardZero, Away}
use Rattle.rounding.specs.Rounding.{rounding_constant}
use denote.Enum.Declared.{tag_of}
use types.Run.{OneOf}
use Rattle.rounding.specs.contracts.Direction.{the_type}
use Rattle.rounding.proofs.addend.constant.Goals as goal

-- the rows that are taken together: the nearest two, which are the first two directions
nearest : (d : Direction) (k : ℕ) → OneOf (0 ∷ 1 ∷ []) (tag_of the_type d) → (k ≡ 0 → ⊥) → 2 ^ (k - 1) - 1 ≡ rounding_constant d k
unfolding rounding_constant
nearest d zero t ne = absurd (ne refl)
nearest NearestEven (suc j) t ne = ap (λ (n : ℕ). 2 ^ n - 1) (omega arith)
nearest NearestAway (suc j) t ne = ap (λ (n : ℕ). 2 ^ n - 1) (omega arith)
nearest TowardZero (suc j) (inl e) ne = absurd (omega arith)
nearest TowardZero (suc j) (inr e) ne = absurd (omega arith)
nearest Away (suc j) (inl e) ne = absurd (omega arith)
nearest Away (suc j) (inr e) ne = absurd (omega arith)

toward_zero : (k : ℕ) → 0 ≡ rounding_constant TowardZero k
unfolding rounding_constant
toward_zero zero = refl
toward_zero (suc j) = refl

away : (k : ℕ) → (k ≡ 0 → ⊥) → 2 ^ k - 1 ≡ rounding_constant Away k
unfolding rounding_constant
away zero ne = absurd (ne refl)
away (suc j) ne = refl

-- the power that the code takes
one_less : (i p : ℕ) → i < 64 → p ≡ 2 ^ i % 2 ^ 64 → p - 1 ≡ 2 ^ i - 1
one_less i p h e = ap (λ (n : ℕ). n - 1) (e ∙ power_exact i h)

pos : (i p : ℕ) → i < 64 → p ≡ 2 ^ i % 2 ^ 64 → 1 ≤ p
pos i p h e = rw (e ∙ power_exact i h) (pow_pos i)

pub returns-then-k-eq0 : goal.returns-then-k-eq0
unfolding rounding_constant
returns-then-k-eq0 c = ((λ _. sym (ap (rounding_constant c.args.direction) c.if-k-eq0.true)), λ _. refl)

pub overflow_sub-result : goal.overflow_sub-result
overflow_sub-result c =
    pos (c.args.k - 1) c.power.result (omega (arith, c.if-k-ge64.false)) c.power.ensures

pub overflow_sub-result-in-Away : goal.overflow_sub-result-in-Away
overflow_sub-result-in-Away c =
    pos c.args.k c.power-in-Away.result (omega (arith, c.if-k-ge64.false)) c.power-in-Away.ensures

pub returns-in-NearestEven : goal.returns-in-NearestEven
returns-in-NearestEven c =
    let k = c.args.k in (
      λ h. one_less (k - 1) c.power.result (omega arith) c.power.ensures
          ∙ nearest c.args.direction k c.before.in-NearestEven.in-NearestEven-own.keys1 c.if-k-eq0.false,
      λ le. absurd (omega (arith, le, c.if-k-ge64.false)),
    )

pub returns-in-TowardZero : goal.returns-in-TowardZero
returns-in-TowardZero c =
    ((λ _. rw c.in-TowardZero.is (toward_zero c.args.k)), λ _. refl)

pub returns-in-Away : goal.returns-in-Away
returns-in-Away c =
    let k = c.args.k in (
      λ h. one_less k c.power-in-Away.result h c.power-in-Away.ensures
          ∙ rw c.in-Away.is (away k c.if-k-eq0.false),
      λ le. absurd (omega (arith, le, c.if-k-ge64.false)),
    )
