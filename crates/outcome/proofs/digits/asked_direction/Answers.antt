-- `outcome::digits::asked_direction` meets its contract: where the bits that are rounded off are 0, every direction keeps the same part; so
-- it is where the row is reversed. Assumes nothing.
use mathlib.Core.Bool.{false≢true}
use mathlib.Core.Path.{◌≡◌, refl, sym, ap, ◌∙◌, subst}
use Prim.Native.Nat.{ℕ, ◌+◌, ◌-◌, ◌%◌, ◌^◌, ◌≤◌}
use native.Mathlib.Omega.{arith}
use Rattle.word.specs.declared.Unit as exponent
use Rattle.rounding.specs.declared.Direction.TheVariants.{TowardZero}
use Rattle.rounding.specs.Width.{sum_bits}
use Rattle.making.specs.declared.Aligned as pair
use Rattle.making.specs.Making.{columns_of}
use Rattle.making.proofs.Made.{most_digits_bounds, aligned_lt}
use Rattle.outcome.proofs.Exact.{reversed_zeros, exact_alike}
use Rattle.outcome.proofs.digits.asked_direction.Goals as goal

-- no more digits than a sum has
most : (f : ℕ) (A : pair.Aligned) (count : ℕ) → count ≤ columns_of f A → count ≤ sum_bits A.below f
most f A count h = omega (arith, (most_digits_bounds A.below f A.like).1)

pub returns-then-aligned : goal.returns-then-aligned
returns-then-aligned c =
    let a = c.args in record {
      alike = λ formed. exact_alike a.f TowardZero a.direction a.unit a.aligned a.count c.requires.2 (most a.f a.aligned a.count c.requires.3)
          (reversed_zeros a.f a.unit a.aligned a.count formed c.if-aligned.true);
      reversed = λ r. refl;
    }

pub rounded_unit-unit_of_kept-requires : goal.rounded_unit-unit_of_kept-requires
rounded_unit-unit_of_kept-requires c =
    let a = c.args in
    (aligned_lt a.f a.aligned c.requires.0, c.requires.1, most a.f a.aligned a.count c.requires.3)

pub overflow_add-unit_of_kept : goal.overflow_add-unit_of_kept
overflow_add-unit_of_kept c =
    omega (arith, ap (λ (n : exponent.Unit). n.0) c.rounded_unit-unit_of_kept.ensures, c.requires.1, most c.args.f c.args.aligned c.args.count c.requires.3, aligned_lt c.args.f c.args.aligned c.requires.0)

pub exact-requires : goal.exact-requires
exact-requires c =
    omega (arith, c.saturating_sub-j.ensures, ap (λ (n : exponent.Unit). n.0) c.rounded_unit-unit_of_kept.ensures, most c.args.f c.args.aligned c.args.count c.requires.3, aligned_lt c.args.f c.args.aligned c.requires.0)

pub returns-then-exact : goal.returns-then-exact
returns-then-exact c =
    let a = c.args in
    let k = c.rounded_unit-unit_of_kept in
    let m = c.saturating_sub-j in record {
      alike = λ formed. exact_alike a.f TowardZero a.direction a.unit a.aligned a.count c.requires.2 (most a.f a.aligned a.count c.requires.3)
          (λ x made digits. subst (λ (j : ℕ). x % 2 ^ j ≡ 0) (m.ensures ∙ ap (λ (n : exponent.Unit). n.0 + a.aligned.below - a.unit.0) k.ensures)
          (c.exact.ensures c.if-exact.true a.f x made));
      reversed = λ r. refl;
    }

pub returns-else-exact : goal.returns-else-exact
returns-else-exact c =
    let forward = c.if-aligned.false in record {
      alike = λ formed x made digits. refl;
      reversed = λ r. absurd (false≢true (sym forward ∙ r));
    }
