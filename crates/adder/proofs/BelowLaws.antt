-- Laws of the bits below the last: which magnitude they are of, in either order of the operands, and whether there are any, which does not
-- depend on how many are asked for. Assumes nothing.
use Rattle.std.specs.Prelude.{Option, Some, None}
use mathlib.Core.Path.{◌≡◌, ap}
use mathlib.Core.Bool.{Bool, true, false}
use Prim.Native.Nat.{ℕ, ◌+◌, ◌-◌, ◌^◌, ◌≤◌, ◌<◌}
use borrow.Author.Tests.{le-leb, lt-leb}
use lib.Dec.{leb}
use Rattle.format.specs.declared.Format.{Format}
use Rattle.word.specs.declared.Finite as record_of
use Rattle.word.specs.declared.Operand as kind
use Rattle.word.specs.declared.Operand.TheVariants.{Finite, Infinite, Nan}
use Rattle.word.specs.Word.{effective}
use Rattle.word.specs.Operand.{operand_of, magnitude}
use Rattle.rounding.specs.Dropped.{dropped_word}
use Rattle.adder.specs.Exact.{exact_magnitude}
use Rattle.adder.specs.Below.{bits_if, magnitude_below, finite_below, kind_below, below_of}
use Rattle.adder.proofs.ExactMagnitude.{magnitude_like, magnitude_unlike, magnitude_comm}

-- ---- a magnitude
module _ (F : Format) (g X : ℕ) where
  pub normal_below : 2 ^ F.f ≤ X → magnitude_below F g X ≡ Some (dropped_word F g X)
  normal_below h = ap (λ (t : Bool). bits_if t (dropped_word F g X)) (le-leb (2 ^ F.f) X h)

  pub small_below : X < 2 ^ F.f → magnitude_below F g X ≡ None
  small_below h = ap (λ (t : Bool). bits_if t (dropped_word F g X)) (lt-leb (2 ^ F.f) X h)

-- ---- two finite operands
module _ (F : Format) (g : ℕ) (x y : record_of.Finite) where
  pub below_like : x.sign ≡ y.sign → finite_below F g x y ≡ magnitude_below F g (magnitude x + magnitude y)
  unfolding finite_below
  below_like e = ap (magnitude_below F g) (magnitude_like x y e)

  pub below_unlike : (x.sign ≡ y.sign → ⊥) → magnitude y ≤ magnitude x → finite_below F g x y ≡ magnitude_below F g (magnitude x - magnitude y)
  unfolding finite_below
  below_unlike ne le = ap (magnitude_below F g) (magnitude_unlike x y ne le)

  pub below_comm : finite_below F g x y ≡ finite_below F g y x
  unfolding finite_below
  below_comm = ap (magnitude_below F g) (magnitude_comm x y)

-- ---- how many are asked for

-- what holds of any bits where it holds of some, holds with another g
module _ (P : Option ℕ → Type 0) (any : (r s : ℕ) → P (Some r) → P (Some s)) where
  bits_any : (t : Bool) (r s : ℕ) → P (bits_if t r) → P (bits_if t s)
  bits_any true r s h = any r s h
  bits_any false r s h = h

  kind_any : (F : Format) (g k : ℕ) (x y : kind.Operand) → P (kind_below F g x y) → P (kind_below F k x y)
  unfolding kind_below finite_below
  kind_any F g k Nan y h = h
  kind_any F g k (Infinite s) y h = h
  kind_any F g k (Finite x) Nan h = h
  kind_any F g k (Finite x) (Infinite t) h = h
  kind_any F g k (Finite x) (Finite y) h =
      bits_any (leb (2 ^ F.f) (exact_magnitude x y)) (dropped_word F g (exact_magnitude x y)) (dropped_word F k (exact_magnitude x y)) h

  pub below_any : (F : Format) (operation g k a b : ℕ) → P (below_of F operation g a b) → P (below_of F operation k a b)
  unfolding below_of
  below_any F operation g k a b h = kind_any F g k (operand_of F a) (operand_of F (effective F operation b)) h
