-- `outcome::dropped::lower` meets its contract: a bit that is 1, or all of them 0, or nothing. Assumes nothing.
use mathlib.Core.Path.{◌≡◌, sym, ap, ap₂, ◌∙◌}
use Prim.Native.Nat.{ℕ, ◌-◌, ◌*◌, ◌%◌, ◌^◌}
use native.Mathlib.Nat.{mul-one, mul-zero, one-mul}
use native.Mathlib.Omega.{arith}
use lib.Pow.{pow_pos}
use Rattle.bits.proofs.Laws.{one_shl}
use Rattle.outcome.proofs.Ways.{ways_some, lower_near, lower_some, lower_zeros}
use Rattle.outcome.proofs.dropped.lower.Goals as goal

-- a low bit that is not 1
even : (n r : ℕ) → r ≡ n % 2 → (r ≡ 1 → ⊥) → n % 2 ≡ 0
even n r e ne = omega (arith, e, ne)

pub overflow_add-dropped : goal.overflow_add-dropped
overflow_add-dropped c = omega (arith, c.requires.0)

pub returns-then-j-dropped : goal.returns-then-j-dropped
returns-then-j-dropped c = sym (lower_near c.args.dropped c.args.j c.if-j-dropped.true c.args.way)

pub overflow_shl-result : goal.overflow_shl-result
overflow_shl-result c = omega (arith, c.requires.1, c.requires.2, ways_some c.args.dropped c.args.j c.if-j-dropped.false (sym c.low.ensures ∙ c.if-low-eq1.true))

pub overflow_shl-result-then-low-eq1 : goal.overflow_shl-result-then-low-eq1
overflow_shl-result-then-low-eq1 c = omega (arith, c.requires.1, c.requires.2, ways_some c.args.dropped c.args.j c.if-j-dropped.false (sym c.low.ensures ∙ c.if-low-eq1.true))

pub returns-then-low-eq1 : goal.returns-then-low-eq1
returns-then-low-eq1 c =
    let odd = sym c.low.ensures ∙ c.if-low-eq1.true in
    let t = c.args.way in
    let e = one_shl t (omega (arith, c.requires.1, c.requires.2, ways_some c.args.dropped c.args.j c.if-j-dropped.false odd)) in
    ap₂ (λ (a b : ℕ). record { care = a; value = b }) e (e ∙ sym (one-mul (2 ^ t))) ∙ sym (lower_some c.args.dropped c.args.j c.if-j-dropped.false t odd)

pub overflow_sub-result : goal.overflow_sub-result
overflow_sub-result c = omega (arith, c.if-j-dropped.false)

pub overflow_shl-result-then-low-eq1-2 : goal.overflow_shl-result-then-low-eq1-2
overflow_shl-result-then-low-eq1-2 c = omega (arith, c.requires.1)

pub overflow_sub-result-then-low-eq1-2 : goal.overflow_sub-result-then-low-eq1-2
overflow_sub-result-then-low-eq1-2 c = omega (arith, one_shl (c.args.j - c.args.dropped.g) (omega (arith, c.requires.1)), pow_pos (c.args.j - c.args.dropped.g))

pub returns-then-low-eq1-2 : goal.returns-then-low-eq1-2
returns-then-low-eq1-2 c =
    let m = c.args.j - c.args.dropped.g in
    let one = sym c.low-2.ensures ∙ c.if-low-eq1-2.true in
    ap (λ (a : ℕ). record { care = a; value = 0 }) (ap (λ (a : ℕ). a - 1) (one_shl m (omega (arith, c.requires.1))) ∙ sym (ap (λ (b : ℕ). (2 ^ m - 1) * b) one ∙ mul-one (2 ^ m - 1)))
    ∙ sym (lower_zeros c.args.dropped c.args.j c.if-j-dropped.false c.args.way (λ e. c.if-low-eq1.false (c.low.ensures ∙ e)))

pub returns : goal.returns
returns c =
    let m = c.args.j - c.args.dropped.g in
    let none : c.args.dropped.mask.care % 2 ≡ 0 = even c.args.dropped.mask.care c.low-2.result c.low-2.ensures c.if-low-eq1-2.false in
    ap (λ (a : ℕ). record { care = a; value = 0 }) (sym (ap (λ (b : ℕ). (2 ^ m - 1) * b) none ∙ mul-zero (2 ^ m - 1)))
    ∙ sym (lower_zeros c.args.dropped c.args.j c.if-j-dropped.false c.args.way (λ e. c.if-low-eq1.false (c.low.ensures ∙ e)))
