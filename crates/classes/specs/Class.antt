-- Classes of pairs of exponent fields. Of two finite operands the significands are aligned by the gap between their units, and from `far_gap`
-- places on all gaps are alike; the word c then depends on the units in its exponent field only. So one pair stands for its class, and
-- whether some case has c's exponent field i there is one answer for all pairs of the class. No definition of the promise cites this file.
-- Assumes nothing.
use Rattle.std.specs.Prelude.{ℕ, zero, suc, ◌+◌, ◌-◌, ◌*◌, ◌^◌, ◌<◌, ◌≤◌, cond, ◌⊎◌, nat_le}
use Rattle.format.specs.declared.Format.{Format}
use Rattle.mask.specs.declared.Mask.{Mask}
use Rattle.mask.specs.Mask.{Meets}
use Rattle.job.specs.declared.Job.{Job}
use Rattle.job.specs.declared.Role.TheVariants.{C}
use Rattle.job.specs.Job.{Valid}
use Rattle.job.specs.Guards.{reach}
use Rattle.job.specs.Role.{with_wanted, with_mask}
use Rattle.word.specs.declared.Biased.{Biased}
use Rattle.word.specs.declared.Unit as exponent
use Rattle.word.specs.Word.{unit_of, field_of, all_ones}
use Rattle.word.specs.Masks.{sign_mask, exponent_mask, fraction_mask}
use Rattle.special.specs.Asked.{field_is}
use Rattle.pair.specs.declared.Side.{Side}
use Rattle.pair.specs.Pair.{SomeSigns}
use Rattle.classes.specs.declared.Fields.{Fields}
use Rattle.classes.specs.declared.Class.{Class}

-- ---- two exponent fields by size

-- the order is 1 where b has the larger field, else 0
unfoldable pub fields_of : Biased → Biased → Fields
fields_of ea eb = cond (nat_le eb.0 ea.0) (record { order = 0; larger = ea; smaller = eb }) (record { order = 1; larger = eb; smaller = ea })

-- what is said of a's field and b's, said of the larger one and the smaller
abbrev pub InOrder : (Biased → Biased → Type 0) → ℕ → Biased → Biased → Type 0
InOrder P zero E e = P E e
InOrder P (suc o) E e = P e E

-- two fields by size
pub record Ordered (p : Fields) : Type 0 where
  pub order_lt : p.order < 2
  pub ordered : p.smaller.0 ≤ p.larger.0

-- the fields of two finite operands, by size
pub record FiniteFields (F : Format) (p : Fields) : Type 0 where
  pub by_size : Ordered p
  pub finite : p.larger.0 < all_ones F

-- a valid job, and two exponent fields that meet their masks
pub record Asked (j : Job) (ea eb : Biased) : Type 0 where
  pub valid : Valid j
  pub a_exponent : Meets ea.0 (exponent_mask j.setting.format j.a.mask)
  pub b_exponent : Meets eb.0 (exponent_mask j.setting.format j.b.mask)

-- the mask on the exponent field of the operand with the smaller one
abbrev pub smaller_mask : Job → ℕ → Mask
smaller_mask j zero = exponent_mask j.setting.format j.b.mask
smaller_mask j (suc o) = exponent_mask j.setting.format j.a.mask

-- ---- the pair that stands for a class

-- the gap from which on an aligned significand is its sticky bit alone; r is the reach of the job, its fraction bits and those that it tells
-- apart below the last kept one, but for the first: so this is f and the bits below a difference, two more than are told apart
abbrev pub far_gap : ℕ → ℕ
far_gap r = r + 3

-- the unit of its larger operand: the sum of any gap has digits enough for a normal number
abbrev pub class_unit : ℕ → exponent.Unit
class_unit r = record { 0 = far_gap r }

-- the larger field
abbrev pub top_field : ℕ → Biased
top_field r = field_of (class_unit r) 1

-- the smaller field: as far below the larger one as in the pair, but at most by the far gap; 0 for 0
abbrev pub lower_field : ℕ → ℕ → ℕ → Biased
lower_field r gap zero = field_is 0
lower_field r gap (suc e) = field_of (record { 0 = far_gap r - gap }) 1

abbrev pub low_field : ℕ → Biased → Biased → Biased
low_field r E e = lower_field r ((unit_of E).0 - (unit_of e).0) e.0

-- the class of a pair
abbrev pub class_of : ℕ → Fields → Class
class_of r p = record { order = p.order; low = low_field r p.larger p.smaller }

-- c's exponent field where the larger operand's unit is u, if it is i where it is the class's; a zero sum has 0 with any unit
abbrev pub moved_field : ℕ → ℕ → ℕ → ℕ
moved_field from to zero = 0
moved_field from to (suc i) = suc i + to - from

abbrev pub field_at : ℕ → exponent.Unit → Biased → Biased
field_at r u i = field_is (moved_field (far_gap r) u.0 i.0)

-- c's greatest exponent field there: a sum has one digit more than the larger operand at most, and may be rounded up to the next exponent
abbrev pub most_field : ℕ → ℕ
most_field r = (top_field r).0 + 2

-- and its least one: with a gap of 2 places or more the sum has one digit less than the larger operand at the least
unfoldable pub least_field : ℕ → Class → Biased
least_field r k = cond (nat_le (k.low.0 + 2) (top_field r).0) (field_is (far_gap r)) (field_is 0)

-- ---- what is asked of it

-- a side with another exponent field
abbrev pub at_field : Side → Biased → Side
at_field x e = record { lhs = x.lhs; sign = x.sign; exponent = e; fraction = x.fraction }

-- the mask c with another mask on its exponent field
unfoldable pub with_exponent : Format → Mask → Mask → Mask
with_exponent F c n = record {
  care = (sign_mask F c).care * 2 ^ (F.w + F.f) + (n.care * 2 ^ F.f + (fraction_mask F c).care);
  value = (sign_mask F c).value * 2 ^ (F.w + F.f) + (n.value * 2 ^ F.f + (fraction_mask F c).value);
}

-- the job that asks for another mask of c's exponent field
abbrev pub asking : Job → Mask → Job
asking j n = with_wanted C j (with_mask j.c (with_exponent j.setting.format j.c.mask n))

-- the mask of one exponent field
abbrev pub only_field : Format → Biased → Mask
only_field F i = record { care = all_ones F; value = i.0 }

-- the pair that stands for the class k admits a case, where n is asked of c's exponent field
abbrev pub ClassAdmits : Job → Class → Mask → Type 0
ClassAdmits j k n = InOrder (SomeSigns (asking j n)) k.order (top_field (reach j)) k.low

-- a class has an order and a smaller field
pub record ClassIn (r : ℕ) (k : Class) : Type 0 where
  pub order_lt : k.order < 2
  pub low_le : k.low.0 ≤ (top_field r).0

-- ---- the pairs that their classes answer for

-- a format with fields enough: c's greatest one there is finite, and so are the two after it
abbrev pub Wide : Format → ℕ → Type 0
Wide F r = most_field r + 3 ≤ all_ones F

-- a valid job, and a class whose pair its format has
pub record ClassFor (j : Job) (k : Class) : Type 0 where
  pub valid : Valid j
  pub wide : Wide j.setting.format (reach j)
  pub class_in : ClassIn (reach j) k

-- no word past the largest finite number meets c: those have the fraction 0 or all ones
pub record NeverPast (F : Format) (c : Mask) : Type 0 where
  pub zeros : Meets 0 (fraction_mask F c) → ⊥
  pub ones : Meets (2 ^ F.f - 1) (fraction_mask F c) → ⊥

-- each sum of operands with the fields E and e, E the larger, is 0 or has digits enough for a normal number, by the unit or by the gap
abbrev pub Normal : ℕ → Biased → Biased → Type 0
Normal r E e = ((top_field r).0 ≤ E.0) ⊎ ((1 ≤ e.0) × (e.0 + 2 ≤ E.0))

-- and no word that meets c is past the largest finite number
pub record Classed (F : Format) (r : ℕ) (c : Mask) (E e : Biased) : Type 0 where
  pub wide : Wide F r
  pub normal : Normal r E e
  pub within : (E.0 + 3 ≤ all_ones F) ⊎ NeverPast F c
