-- What two aligned significands make fits the columns of a question: it has one digit more than they at most, or as many where they are
-- subtracted. Assumes nothing.
use mathlib.Core.Path.{◌≡◌, refl, sym, ap, ◌∙◌, subst}
use mathlib.Core.Bool.{Bool, true, false, not}
use Prim.Native.Nat.{ℕ, ◌+◌, ◌-◌, ◌^◌, ◌≤◌, ◌<◌}
use native.Mathlib.Omega.{arith}
use lib.Pow.{add-lt-pow}
use Rattle.rounding.specs.Width.{aligned_bits, sum_bits}
use Rattle.rounding.proofs.Widths.{sum_width}
use Rattle.columns.specs.Carry.{combined}
use Rattle.making.specs.declared.Aligned as pair
use Rattle.making.specs.Making.{Made, most_digits, columns_of, Room}

-- a sum has one digit more
pub most_digits_bounds : (q f : ℕ) (like : Bool) → (aligned_bits q f ≤ most_digits q f like) × (most_digits q f like ≤ sum_bits q f)
most_digits_bounds q f true = omega arith
most_digits_bounds q f false = omega arith

-- so the columns of a question leave a bit of a word
pub aligned_lt : (f : ℕ) (A : pair.Aligned) → Room f A → aligned_bits A.below f < 64
aligned_lt f A room = omega (arith, room.columns, (most_digits_bounds A.below f A.like).0)

module _ (f : ℕ) (A : pair.Aligned) (x : ℕ) (made : Made f A x) where
  -- the parts are added
  pub made_sum : A.like ≡ true → made.H + made.T ≡ x
  made_sum e = sym (ap (λ (b : Bool). combined (not b) made.H made.T) e) ∙ made.makes

  -- the smaller is taken from the larger
  pub made_difference : A.like ≡ false → made.H - made.T ≡ x
  made_difference e = sym (ap (λ (b : Bool). combined (not b) made.H made.T) e) ∙ made.makes

  -- what is made fits the columns
  pub made_lt : x < 2 ^ columns_of f A
  made_lt = go A.like refl
    where
      go : (like : Bool) → A.like ≡ like → x < 2 ^ most_digits A.below f like
      go true e =
          let s = subst (λ (k : ℕ). made.H + made.T < 2 ^ k) (sum_width A.below f) (add-lt-pow (aligned_bits A.below f) made.head_lt made.tail_lt) in
          omega (arith, s, made_sum e)
      go false e = omega (arith, made.head_lt, made_difference e)
