-- `lines::text::places` meets its contract: what is left of n falls, and the steps allowed are enough. Assumes nothing.
use mathlib.Core.Path.{◌≡◌, sym, ap, ◌∙◌}
use Prim.Native.Nat.{ℕ, zero, suc, ◌+◌, ◌/◌, ◌≤◌}
use native.Mathlib.Nat.{le_refl}
use native.Mathlib.Omega.{arith}
use Rattle.lines.specs.Text as spec
use Rattle.lines.proofs.Texts.{places_one, places_more, places_enough, places_most}
use Rattle.lines.proofs.text.+places.Goals as goal

ten : (n : ℕ) → 10 ≤ n → spec.places (n / 10) (n / 10) + 1 ≡ spec.places n n
ten zero h = absurd (omega (arith, h))
ten (suc k) h = ap (λ (m : ℕ). m + 1) (places_enough (suc k / 10) k (suc k / 10) (le_refl (suc k / 10)) (omega arith)) ∙ sym (places_more k (suc k) h)

pub returns-then-n-lt10 : goal.returns-then-n-lt10
returns-then-n-lt10 t c =
    sym (places_one c.args.n c.args.n c.if-n-lt10.true)

pub places-requires : goal.places-requires
places-requires t c =
    (omega (arith, c.if-n-lt10.false), tt)

pub overflow_add-result : goal.overflow_add-result
overflow_add-result t c =
    let n : ℕ = c.args.n / 10 in
    let most = places_most 19 n n (omega (arith, c.ranges.n)) in
    omega (arith, most, c.places.ensures)

pub returns : goal.returns
returns t c =
    let n : ℕ = c.args.n in
    ap (λ (m : ℕ). m + 1) c.places.ensures ∙ ten n c.if-n-lt10.false
