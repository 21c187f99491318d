-- `making::ask::rounds_at` meets its contract: the kept part is one rounding off and one shift, so the zeros that are added must fit its
-- mask, and the rest of that is asked of what is rounded off. Assumes nothing.
use mathlib.Core.Logic.{◌↔◌}
use mathlib.Core.Path.{◌≡◌, sym, ◌∙◌}
use mathlib.Core.Bool.{Bool, true, false, false≢true}
use Prim.Native.Nat.{ℕ, ◌+◌, ◌-◌, ◌%◌, ◌^◌, ◌≤◌}
use native.Mathlib.Nat.{lt_of_le_of_lt}
use native.Mathlib.Omega.{arith}
use lib.Pow.{shr_le}
use Rattle.mask.specs.declared.Mask.{Mask}
use Rattle.mask.specs.Mask.{Meets, high}
use Rattle.rounding.specs.declared.Direction.{Direction}
use Rattle.rounding.specs.Rounding.{round_off}
use Rattle.rounding.specs.Sticky.{kept_part}
use Rattle.making.specs.declared.Aligned as pair
use Rattle.making.specs.Making.{Making, columns_of, Askable}
use Rattle.making.proofs.Rounds.{zeros_meets, kept_scaled}
use Rattle.making.proofs.Making.{none_made, making_answer}
use Rattle.making.proofs.Made.{most_digits_bounds, aligned_lt}
use borrow.Author.Tests.{not-true, not-false}
use Rattle.making.proofs.ask.rounds_at.Goals as goal

-- the mask moved down is no longer than it was, so the question about it can be put
moved : (f : ℕ) (A : pair.Aligned) (d : Direction) (j down up : ℕ) (x kept y : Mask) → down ≡ j → y ≡ high up kept → Askable f A d j x kept → Askable f A d down x y
moved f A d j down up x kept y e ey given =
    rw (e, ey) (record {
      columns = given.columns;
      care_lt = lt_of_le_of_lt (shr_le kept.care up) given.care_lt;
      value_lt = lt_of_le_of_lt (shr_le kept.value up) given.value_lt;
      leaves = given.leaves;
      toward_zero = given.toward_zero;
    })

-- the columns have room for one bit more than stand below
one_over : (f : ℕ) (A : pair.Aligned) (u k : ℕ) → k + A.below - u + f + 1 ≤ columns_of f A → k ≤ u + 1
one_over f A u k fits = omega (arith, fits, (most_digits_bounds A.below f A.like).1)

-- how far the mask is moved, as the code forms it
up_is : (u k q under up : ℕ) → under ≡ u - k → up ≡ under - q → up ≡ u - (k + q)
up_is u k q under up eu e = omega arith

down_is : (u k q over under down : ℕ) → over ≡ k - u → under ≡ u - k → down ≡ q + over - under → down ≡ k + q - u
down_is u k q over under down eo eu e = omega arith

module _ (f : ℕ) (A : pair.Aligned) (d : Direction) (u k : ℕ) (x kept : Mask) (most : k ≤ u + 1) (up : ℕ) (eup : up ≡ u - (k + A.below)) where
  -- for one number
  part_meets : (n : ℕ) → Meets (kept_part A.below d n u k) kept ↔ ((kept.value % 2 ^ up ≡ 0) × Meets (round_off d n (k + A.below - u)) (high up kept))
  part_meets n = rw (kept_scaled A.below d n u k (omega arith), eup) (zeros_meets (u - (k + A.below)) (round_off d n (k + A.below - u)) kept)

  -- for any number
  asked : (down : ℕ) (y : Mask) (r : Bool) → down ≡ k + A.below - u → kept.value % 2 ^ up ≡ 0 → y ≡ high up kept
      → ((r ≡ true) ↔ Making f A (λ (n : ℕ). Meets n x × Meets (round_off d n down) y))
      → (r ≡ true) ↔ Making f A (λ (n : ℕ). Meets n x × Meets (kept_part A.below d n u k) kept)
  asked down y r edown zeros ey asks =
      making_answer f A (λ (n : ℕ). Meets n x × Meets (round_off d n down) y) (λ (n : ℕ). Meets n x × Meets (kept_part A.below d n u k) kept) r
      (λ n made. (
        (λ p. (p.0, (part_meets n).1 (zeros, rw (edown, ey) at p.1))),
        λ p. (p.0, rw (edown, ey) ((part_meets n).0 p.1).1),
      ))
      asks

  refused : (kept.value % 2 ^ up ≡ 0 → ⊥) → (false ≡ true) ↔ Making f A (λ (n : ℕ). Meets n x × Meets (kept_part A.below d n u k) kept)
  refused never = none_made f A (λ (n : ℕ). Meets n x × Meets (kept_part A.below d n u k) kept) (λ p. never ((part_meets p.x).0 p.holds.1).0)

pub returns-then-low-ne0 : goal.returns-then-low-ne0
returns-then-low-ne0 c =
    let a = c.args in
    let under = c.saturating_sub-under in
    let up = c.saturating_sub-up in
    λ formed given. refused a.f a.aligned a.direction a.unit.0 a.rounded.0 a.x a.kept (one_over a.f a.aligned a.unit.0 a.rounded.0 given.columns)
    up.result (up_is a.unit.0 a.rounded.0 a.aligned.below under.result up.result under.ensures up.ensures)
    (λ z. c.if-low-ne0.true (c.low.ensures ∙ z))

pub returns-then-not-roomy : goal.returns-then-not-roomy
returns-then-not-roomy c = λ formed given. absurd (false≢true (sym (not-true c.roomy.result c.if-not-roomy.true-raw) ∙ c.roomy.ensures.1 formed.room))

pub returns-then-over-gt1 : goal.returns-then-over-gt1
returns-then-over-gt1 c =
    let a = c.args in
    λ formed given. absurd (omega (arith, c.if-over-gt1.true, c.saturating_sub-over.ensures, one_over a.f a.aligned a.unit.0 a.rounded.0 given.columns))

-- there is room
pub overflow_add-aligned : goal.overflow_add-aligned
overflow_add-aligned c =
    let a = c.args in
    let r = c.roomy in
    omega (arith, c.if-over-gt1.false, aligned_lt a.f a.aligned (r.ensures.0 (not-false r.result c.if-not-roomy.false-raw)))

pub rounds-requires : goal.rounds-requires
rounds-requires c =
    let a = c.args in
    let r = c.roomy in
    let room = r.ensures.0 (not-false r.result c.if-not-roomy.false-raw) in
    (room, omega (arith, c.saturating_sub-down.ensures, c.if-over-gt1.false, aligned_lt a.f a.aligned room))

pub returns : goal.returns
returns c =
    let a = c.args in
    let over = c.saturating_sub-over in
    let under = c.saturating_sub-under in
    let up = c.saturating_sub-up in
    let down = c.saturating_sub-down in
    let y = c.high in
    let e = down_is a.unit.0 a.rounded.0 a.aligned.below over.result under.result down.result over.ensures under.ensures down.ensures in
    λ formed given. asked a.f a.aligned a.direction a.unit.0 a.rounded.0 a.x a.kept (one_over a.f a.aligned a.unit.0 a.rounded.0 given.columns)
    up.result (up_is a.unit.0 a.rounded.0 a.aligned.below under.result up.result under.ensures up.ensures)
    down.result y.result c.rounds.result e
    (sym c.low.ensures ∙ c.if-low-ne0.false)
    y.ensures
    (c.rounds.ensures formed
    (moved a.f a.aligned a.direction (a.rounded.0 + a.aligned.below - a.unit.0) down.result up.result a.x a.kept y.result e y.ensures given))
