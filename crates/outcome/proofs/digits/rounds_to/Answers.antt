-- `outcome::digits::rounds_to` meets its contract: the kept part of a number of so many digits is asked, by one mask for the quotient and the
-- fraction. Assumes nothing.
use mathlib.Core.Path.{◌≡◌, sym, ap, subst}
use Prim.Native.Nat.{ℕ, ◌+◌, ◌-◌, ◌*◌, ◌^◌, ◌≤◌, ◌<◌}
use native.Mathlib.Omega.{arith}
use lib.Arith.{digits_lt}
use lib.Pow.{pow-add}
use Rattle.mask.specs.declared.Mask.{Mask}
use Rattle.word.specs.declared.Unit as exponent
use Rattle.rounding.specs.Width.{aligned_bits}
use Rattle.making.specs.Making.{columns_of}
use Rattle.making.proofs.Made.{most_digits_bounds, aligned_lt, made_lt}
use Rattle.outcome.specs.Question.{topped}
use Rattle.outcome.proofs.Counted.{counted_asked}
use Rattle.outcome.proofs.Carried.{digits_room}
use Rattle.outcome.proofs.digits.rounds_to.Goals as goal

-- the mask of the kept part is short
module _ (f h : ℕ) (fraction : Mask) where
  below : (t n : ℕ) → t < 2 ^ 2 → n < 2 ^ f → t * 2 ^ f + n < 2 ^ (2 + f)
  below t n ht hn = subst (λ (m : ℕ). t * 2 ^ f + n < m) (sym (pow-add 2 2 f)) (digits_lt {q = t} {m = 2 ^ 2} {r = n} {c = 2 ^ f} ht hn)

  short : (m : Mask) → h < 4 → fraction.care < 2 ^ f → fraction.value < 2 ^ f → m ≡ topped 2 f h fraction
      → (m.care < 2 ^ (2 + f)) × (m.value < 2 ^ (2 + f))
  short m hh hc hv em = rw em (below (2 ^ 2 - 1) fraction.care (omega arith) hc, below h fraction.value hh hv)

-- the bits that are rounded off leave room for what is kept
place : (q f count u k columns : ℕ) → k ≡ count + u - aligned_bits q f → count ≤ columns → aligned_bits q f ≤ columns → k + q - u + f + 1 ≤ columns
place q f count u k columns e most wide = omega arith

pub rounded_unit-rounded-requires : goal.rounded_unit-rounded-requires
rounded_unit-rounded-requires c =
    let a = c.args in
    (aligned_lt a.f a.aligned c.requires.0, c.requires.1, omega (arith, c.requires.3, (most_digits_bounds a.aligned.below a.f a.aligned.like).1))

pub topped-kept-requires : goal.topped-kept-requires
topped-kept-requires c =
    (omega (arith, aligned_lt c.args.f c.args.aligned c.requires.0, c.requires.0.some), c.requires.4, c.requires.5, c.requires.6)

pub returns : goal.returns
returns c =
    let a = c.args in
    let k = c.rounded_unit-rounded in
    let m = c.topped-kept in
    let b = most_digits_bounds a.aligned.below a.f a.aligned.like in
    let shorter = short a.f a.quotient a.fraction m.result c.requires.4 c.requires.5 c.requires.6 m.ensures in
    λ formed. counted_asked a.f a.direction a.unit a.quotient a.fraction c.requires.5 c.requires.6
    a.aligned a.count a.x c.requires.8 k.result m.result c.rounds_at.result c.requires.2
    (omega (arith, c.requires.3, b.1)) k.ensures m.ensures
    (c.rounds_at.ensures formed (record {
      columns = place a.aligned.below a.f a.count a.unit.0 k.result.0 (columns_of a.f a.aligned) (ap (λ (n : exponent.Unit). n.0) k.ensures) c.requires.3 b.0;
      care_lt = shorter.0;
      value_lt = shorter.1;
      leaves = λ n made met.
          subst (λ (e : exponent.Unit). n + 2 ^ (e.0 + a.aligned.below - a.unit.0) ≤ 2 ^ columns_of a.f a.aligned) (sym k.ensures)
          (digits_room a.f a.aligned formed n made a.unit a.count (c.requires.8 n (made_lt a.f a.aligned n made) met) c.requires.3);
      toward_zero = c.requires.7;
    }))
