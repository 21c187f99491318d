-- Two exponent fields by size: what holds of a's field and b's holds of the larger one and the smaller in their order, and back. So the laws
-- of classes are stated over the side with the larger field and the other one, once for both orders. Assumes nothing.
use Rattle.std.proofs.Common.{ℕ, zero, suc, ◌<◌, ◌≤◌, ◌↔◌, inl, inr, arith, le-leb}
use native.Mathlib.Decide.{dec_le}
use borrow.Author.Tests.{lt-leb}
use Rattle.format.specs.declared.Format.{Format}
use Rattle.mask.specs.Mask.{WellFormed}
use Rattle.job.specs.declared.Wanted.{Wanted}
use Rattle.job.specs.declared.Job.{Job}
use Rattle.job.specs.declared.Role.TheVariants.{C}
use Rattle.job.specs.Job.{Valid}
use Rattle.job.specs.Role.{with_wanted}
use Rattle.word.specs.declared.Biased.{Biased}
use Rattle.word.specs.Word.{all_ones}
use Rattle.pair.specs.declared.Side.{Side}
use Rattle.pair.specs.Pair.{FiniteSide, Sums, side_a, side_b, SomeSigns, FinitePair}
use Rattle.pair.proofs.Finites.{finite_a, finite_b}
use Rattle.classes.specs.Class.{fields_of, InOrder, Ordered, at_field}

-- ---- the fields of a pair
module _ (ea eb : Biased) where
  pub in_order : (P : Biased → Biased → Type 0) → InOrder P (fields_of ea eb).order (fields_of ea eb).larger (fields_of ea eb).smaller ↔ P ea eb
  unfolding fields_of
  in_order P = go (dec_le eb.0 ea.0)
    where
      go : Dec (eb.0 ≤ ea.0) → InOrder P (fields_of ea eb).order (fields_of ea eb).larger (fields_of ea eb).smaller ↔ P ea eb
      go (yes l) = rw (le-leb eb.0 ea.0 l) (λ p. p, λ p. p)
      go (no l) = rw (lt-leb eb.0 ea.0 (omega arith)) (λ p. p, λ p. p)

  pub fields_ordered : Ordered (fields_of ea eb)
  unfolding fields_of
  fields_ordered = go (dec_le eb.0 ea.0)
    where
      go : Dec (eb.0 ≤ ea.0) → Ordered (fields_of ea eb)
      go (yes l) = rw (le-leb eb.0 ea.0 l) (record { order_lt = omega arith; ordered = l })
      go (no l) = rw (lt-leb eb.0 ea.0 (omega arith)) (record { order_lt = omega arith; ordered = omega arith })

-- ---- the sides of a pair

-- signs that pose a case whose larger field is E and whose other one is e, as the sides x and y of these fields; the same signs pose a case
-- with other fields, or other conditions on c, wherever the sides sum so
pub record Sides (j : Job) (o : ℕ) (E e : Biased) : Type 0 where
  pub x : Side
  pub y : Side
  pub x_lt : x.sign < 2
  pub y_lt : y.sign < 2
  pub x_formed : WellFormed j.setting.format.f x.fraction
  pub y_formed : WellFormed j.setting.format.f y.fraction
  pub sums : Sums j (at_field x E) (at_field y e)
  pub back : (c : Wanted) (G g : Biased) → Sums (with_wanted C j c) (at_field x G) (at_field y g) → InOrder (SomeSigns (with_wanted C j c)) o G g

-- the sum of exchanged sides
exchanged : (j : Job) (x y : Side) → Sums j x y → Sums j y x
exchanged j x y (inl l) = inr l
exchanged j x y (inr l) = inl l

-- the same signs pose a case with other fields, or other conditions on c
pub signs_of : (j : Job) (c : Wanted) (ea eb ga gb : Biased) (S : SomeSigns j ea eb) → Sums (with_wanted C j c) (side_a j S.sa ga) (side_b j S.sb gb) → SomeSigns (with_wanted C j c) ga gb
signs_of j c ea eb ga gb S sums = record {
  sa = S.sa;
  sb = S.sb;
  sa_lt = S.sa_lt;
  sb_lt = S.sb_lt;
  posed = record { a_sign = S.posed.a_sign; b_sign = S.posed.b_sign; sums = sums };
}

module _ (j : Job) (valid : Valid j) (E e : Biased) (E-lt : E.0 < all_ones j.setting.format) (e-lt : e.0 < all_ones j.setting.format) where
  abbrev F : Format
  F = j.setting.format

  -- the fields are those of finite operands
  in_range : (a b : Biased) → a.0 < all_ones F → b.0 < all_ones F → FinitePair F a b
  in_range a b ha hb = record { supported = valid.setting.format; a_finite = ha; b_finite = hb }

  -- x has the larger field
  sides : (o : ℕ) (x y : Side) → FiniteSide F x → FiniteSide F y → Sums j (at_field x E) (at_field y e)
      → ((c : Wanted) (G g : Biased) → Sums (with_wanted C j c) (at_field x G) (at_field y g) → InOrder (SomeSigns (with_wanted C j c)) o G g) → Sides j o E e
  sides o x y fx fy sums back = record {
    x = x;
    y = y;
    x_lt = fx.sign_lt;
    y_lt = fy.sign_lt;
    x_formed = fx.formed;
    y_formed = fy.formed;
    sums = sums;
    back = back;
  }

  pub sides_of : (o : ℕ) → InOrder (SomeSigns j) o E e → Sides j o E e
  sides_of zero S =
      sides 0 (side_a j S.sa E) (side_b j S.sb e) (finite_a j valid E e (in_range E e E-lt e-lt) S.sa S.sa_lt) (finite_b j valid E e (in_range E e E-lt e-lt) S.sb)
      S.posed.sums (λ c G g sums. signs_of j c E e G g S sums)
  sides_of (suc o) S =
      sides (suc o) (side_b j S.sb E) (side_a j S.sa e) (finite_b j valid e E (in_range e E e-lt E-lt) S.sb) (finite_a j valid e E (in_range e E e-lt E-lt) S.sa S.sa_lt)
      (exchanged j (side_a j S.sa e) (side_b j S.sb E) S.posed.sums)
      (λ c G g sums. signs_of j c e E g G S (exchanged (with_wanted C j c) (side_b j S.sb G) (side_a j S.sa g) sums))
