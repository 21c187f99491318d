-- What is kept of the classes of pairs during a pass over the exponent fields: a word for each class, with bits for c's exponent fields
-- where the pair that stands for the class is asked. A bit is an answer: no case has that field there. Behind them, a word for each order,
-- with a bit for each class that admits nothing at all. No definition of the promise cites this file. Assumes nothing.
use Rattle.std.specs.Prelude.{cond, List, ◌≡◌, ℕ, zero, suc, ◌+◌, ◌-◌, ◌*◌, ◌^◌, ◌≤◌, ◌<◌, ltb, length, get_or}
use Rattle.std.specs.Int.Bits.{bit_and}
use Rattle.bits.specs.Bit.{bit}
use Rattle.mask.specs.Mask.{Meets, free_mask}
use Rattle.job.specs.declared.Job.{Job}
use Rattle.job.specs.Guards.{reach}
use Rattle.word.specs.declared.Biased.{Biased}
use Rattle.word.specs.declared.Unit as exponent
use Rattle.word.specs.Word.{all_ones}
use Rattle.word.specs.Masks.{exponent_mask}
use Rattle.special.specs.Asked.{PairFits}
use Rattle.classes.specs.declared.Class.{Class}
use Rattle.classes.specs.Class.{far_gap, top_field, field_at, most_field, least_field, only_field, ClassAdmits, ClassIn, Normal, Classed}

-- ---- the table

-- its places: for either order the 64 smaller fields of the longest reach, 59, and one for its closed classes
abbrev pub places : ℕ
places = 130

-- the place of a class, where r is the reach of the job, and how many classes there are: each order has the smaller fields from 0 to the
-- larger one
abbrev pub place_of : ℕ → Class → ℕ
place_of r k = k.order * ((top_field r).0 + 1) + k.low.0

abbrev pub class_places : ℕ → ℕ
class_places r = 2 * ((top_field r).0 + 1)

-- no case of the class k has c's exponent field i
abbrev pub Never : Job → Class → Biased → Type 0
Never j k i = i.0 ≤ most_field (reach j) → ClassAdmits j k (only_field j.setting.format i) → ⊥

-- the bit that says that the class was asked
abbrev pub asked_bit : ℕ
asked_bit = 62

-- the bit of c's exponent field i, as a word: the largest field has bit 0, and one whose bit would not be below `asked_bit` has none
unfoldable pub bit_of : ℕ → ℕ → ℕ
bit_of r i = cond (ltb (most_field r - i) asked_bit) (2 ^ (most_field r - i)) 0

-- each bit of the class's word is such an answer
abbrev pub Refuses : Job → Class → ℕ → Type 0
Refuses j k word = (i : Biased) → (bit_and word (bit_of (reach j) i.0) ≡ 0 → ⊥) → Never j k i

-- the class k admits nothing, whatever c's exponent field
abbrev pub Closed : Job → Class → Type 0
Closed j k = ClassAdmits j k free_mask → ⊥

-- the place of an order's closed classes, and the bit of a class there: the bits go up with b's exponent field
abbrev pub closed_place : ℕ → ℕ → ℕ
closed_place r o = class_places r + o

abbrev pub closed_bit : ℕ → ℕ → ℕ → ℕ
closed_bit r zero low = low
closed_bit r (suc o) low = (top_field r).0 - low

-- each word of the table is an answer, of a class or of the classes of an order
pub record Kept (j : Job) (table : List ℕ) : Type 0 where
  pub size : length table ≡ places
  pub answers : (k : Class) → ClassIn (reach j) k → Refuses j k (get_or table (place_of (reach j) k) 0)
  pub closed : (k : Class) → ClassIn (reach j) k
      → bit (get_or table (closed_place (reach j) k.order) 0) (closed_bit (reach j) k.order k.low.0) ≡ 1 → Closed j k

-- ---- the questions

-- the class k admits nothing where the larger operand's unit is u: no field that c's mask lets through
abbrev pub NoField : Job → Class → exponent.Unit → Type 0
NoField j k u =
    (i : Biased) → (least_field (reach j) k).0 ≤ i.0 → Meets (field_at (reach j) u i).0 (exponent_mask j.setting.format j.c.mask) → Never j k i

-- classes answer for the pairs whose sums are normal numbers or 0 and whose larger field is below `end`
abbrev pub ClassEnd : Job → Biased → Type 0
ClassEnd j end = (E e : Biased) → Normal (reach j) E e → E.0 < end.0 → Classed j.setting.format (reach j) j.c.mask E e × (E.0 < all_ones j.setting.format)

-- no pair of a's exponent field e with one of b's from n on and below r admits a case
abbrev pub NoPartner : Job → Biased → Biased → Biased → Type 0
NoPartner j e n r = (d : Biased) → n.0 ≤ d.0 → d.0 < r.0 → PairFits j e d → ⊥

-- no pair whose fields are below `end`, a's above the far gap, admits a case
abbrev pub NoPair : Job → Biased → Type 0
NoPair j end = (d e : Biased) → far_gap (reach j) < d.0 → d.0 < end.0 → e.0 < end.0 → PairFits j d e → ⊥
