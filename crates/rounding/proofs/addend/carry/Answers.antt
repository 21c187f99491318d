-- `rounding::addend::carry` meets its contract: a row of the table for each direction. Assumes nothing.
use mathlib.Core.Path.{◌≡◌, refl, sym, ap}
use Prim.Native.Nat.{ℕ, zero, suc}
use Rattle.rounding.specs.declared.Direction.{Direction}
use Rattle.rounding.specs.declared.Direction.TheVariants.{NearestEven, NearestAway, TowardZero, Away}
use Rattle.rounding.specs.Rounding.{rounding_carry}
use Rattle.rounding.proofs.addend.carry.Goals as goal

row : Direction → ℕ → ℕ
row NearestEven last = last
row NearestAway last = 1
row TowardZero last = 0
row Away last = 0

some : (d : Direction) (k last : ℕ) → (k ≡ 0 → ⊥) → row d last ≡ rounding_carry d k last
unfolding row rounding_carry
some d zero last ne = absurd (ne refl)
some NearestEven (suc j) last ne = refl
some NearestAway (suc j) last ne = refl
some TowardZero (suc j) last ne = refl
some Away (suc j) last ne = refl

pub returns-then-k-eq0 : goal.returns-then-k-eq0
unfolding rounding_carry
returns-then-k-eq0 c = sym (ap (λ (n : ℕ). rounding_carry c.args.direction n c.args.last) c.if-k-eq0.true)

pub returns-in-NearestEven : goal.returns-in-NearestEven
unfolding row
returns-in-NearestEven c = rw c.in-NearestEven.is (some NearestEven c.args.k c.args.last c.if-k-eq0.false)

pub returns-in-NearestAway : goal.returns-in-NearestAway
unfolding row
returns-in-NearestAway c = rw c.in-NearestAway.is (some NearestAway c.args.k c.args.last c.if-k-eq0.false)

pub returns-in-TowardZero : goal.returns-in-TowardZero
unfolding row
returns-in-TowardZero c = rw c.in-TowardZero.is (some TowardZero c.args.k c.args.last c.if-k-eq0.false)

pub returns-in-Away : goal.returns-in-Away
unfolding row
returns-in-Away c = rw c.in-Away.is (some Away c.args.k c.args.last c.if-k-eq0.false)
