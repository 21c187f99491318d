-- `outcome::some_count` meets its contract: the numbers that are left are asked about by their digits. Assumes nothing.
use mathlib.Core.Logic.{◌↔◌}
use mathlib.Core.Path.{◌≡◌, refl, subst}
use mathlib.Core.Bool.{Bool, true}
use Prim.Native.Nat.{ℕ, ◌≤◌}
use native.Mathlib.Omega.{arith}
use lib.Ieee.{size}
use Rattle.format.specs.declared.Format.{Format}
use Rattle.word.specs.declared.Unit as exponent
use Rattle.making.specs.declared.Aligned as pair
use Rattle.making.specs.Making.{Making}
use Rattle.outcome.specs.declared.Target.{Target}
use Rattle.outcome.specs.declared.subnormal.Known.{Known}
use Rattle.outcome.specs.declared.subnormal.Known.TheVariants.{AtLeast}
use Rattle.outcome.specs.Outcome.{Serves, Admits}
use Rattle.outcome.specs.Question.{Tells}
use Rattle.outcome.proofs.some_count.Goals as goal

-- no number of fewer digits serves
from_least : (F : Format) (mode s : ℕ) (u : exponent.Unit) (A : pair.Aligned) (T : Target) (n : ℕ) (r : Bool) → Tells F mode s u A T 0 (AtLeast n)
    → ((r ≡ true) ↔ Making F.f A (λ (x : ℕ). (n ≤ size x) × Serves F mode s u A T x)) → (r ≡ true) ↔ Admits F mode s u A T
from_least F mode s u A T n r tells asks = (
  (λ t. let m = asks.0 t in record { x = m.x; made = m.made; holds = m.holds.1 }),
  λ m. asks.1 (record { x = m.x; made = m.made; holds = (tells m.x m.made (omega arith) m.holds, m.holds) }),
)

pub some_from-requires : goal.some_from-requires
some_from-requires c = c.requires

pub returns-in-Found : goal.returns-in-Found
returns-in-Found c =
    let a = c.args in
    let k = c.first_count-known in
    λ formed valid. (
      (λ t. subst (λ (r : Known). Tells a.format a.mode a.sign a.unit a.aligned a.target 0 r) c.in-Found.is (k.ensures formed valid)),
      λ p. refl,
    )

pub returns-in-AtLeast : goal.returns-in-AtLeast
returns-in-AtLeast c =
    let a = c.args in
    let k = c.first_count-known in
    λ formed valid. from_least a.format a.mode a.sign a.unit a.aligned a.target c.in-AtLeast.first c.some_from.result
    (subst (λ (r : Known). Tells a.format a.mode a.sign a.unit a.aligned a.target 0 r) c.in-AtLeast.is (k.ensures formed valid))
    (c.some_from.ensures formed valid)
