-- `adder::sum::smaller` meets its contract. Assumes nothing.
use mathlib.Core.Path.{◌≡◌, sym, ◌∙◌}
use Prim.Native.Nat.{◌<◌}
use native.Mathlib.Omega.{arith}
use borrow.Author.Tests.{lt-ltb, le-ltb}
use native.Mathlib.Nat.{le_of_lt}
use native.Mathlib.Decide.{dec_lt}
use lib.Dec.{ltb}
use Rattle.format.specs.declared.Format.{Format}
use Rattle.word.specs.declared.Finite as record_of
use Rattle.word.specs.Operand.{magnitude, Canonical}
use Rattle.word.proofs.Canonical.{magnitude_lt, magnitude_same}
use Rattle.adder.proofs.sum.smaller.Goals as goal

by_exponent : (F : Format) (x y : record_of.Finite) → Canonical F x → Canonical F y → (x.exponent.0 ≡ y.exponent.0 → ⊥)
    → ltb x.exponent.0 y.exponent.0 ≡ ltb (magnitude x) (magnitude y)
by_exponent F x y cx cy ne = go (dec_lt x.exponent.0 y.exponent.0)
  where
    go : Dec (x.exponent.0 < y.exponent.0) → ltb x.exponent.0 y.exponent.0 ≡ ltb (magnitude x) (magnitude y)
    go (yes h) = lt-ltb _ _ h ∙ sym (lt-ltb _ _ (magnitude_lt F x y cx cy h))
    go (no h) =
        let g : y.exponent.0 < x.exponent.0 = omega (arith, ne) in
        le-ltb _ _ (le_of_lt g) ∙ sym (le-ltb _ _ (le_of_lt (magnitude_lt F y x cy cx g)))

pub returns-then-e-g : goal.returns-then-e-g
returns-then-e-g c = sym (magnitude_same c.args.format c.args.x c.args.y c.requires.0 c.requires.1 c.if-e-g.true)

pub returns-else-e-g : goal.returns-else-e-g
returns-else-e-g c = by_exponent c.args.format c.args.x c.args.y c.requires.0 c.requires.1 c.if-e-g.false
