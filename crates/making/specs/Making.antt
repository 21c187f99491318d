-- What two aligned significands make that meet their masks, and a question about it: whether some number is made that meets a mask and,
-- rounded off, another. Assumes nothing.
use Rattle.std.specs.Prelude.{◌≡◌, Bool, true, false, not, cond, ℕ, ◌+◌, ◌-◌, ◌^◌, ◌≤◌, ◌<◌}
use Rattle.mask.specs.declared.Mask.{Mask}
use Rattle.mask.specs.Mask.{WellFormed, Meets, low}
use Rattle.columns.specs.Carry.{borrow, combined, carry_of}
use Rattle.columns.specs.Column.{allows}
use Rattle.rounding.specs.declared.Direction as way
use Rattle.rounding.specs.declared.Direction.TheVariants.{TowardZero}
use Rattle.rounding.specs.Width.{aligned_bits, sum_bits, mask_bits}
use Rattle.rounding.specs.Sticky.{head_at}
use Rattle.making.specs.declared.Aligned as pair

-- the carry into position i of H + T, the borrow at it of H - T, or where the row is reversed that of T - H (W-205)
abbrev pub row_carry : pair.Aligned → ℕ → ℕ → ℕ → ℕ
row_carry A H T i = cond A.reversed (borrow T H 0 i) (carry_of (not A.like) H T i)

-- two aligned significands that meet their masks, with carries that agree with the carry mask, make x: the carry out of bit i of the larger
-- significand goes into bit i + 1 of it, below which `below` bits stand; where the row is reversed, x is not 0
pub record Made (f : ℕ) (A : pair.Aligned) (x : ℕ) : Type 0 where
  pub H : ℕ
  pub T : ℕ
  pub head_lt : H < 2 ^ aligned_bits A.below f
  pub tail_lt : T < 2 ^ aligned_bits A.below f
  pub head_meets : Meets H A.head
  pub tail_meets : Meets T A.tail
  pub ordered : A.like ≡ false → T ≤ H
  pub less : A.reversed ≡ true → T < H
  pub carries_allow : (i : ℕ) → i < f + 1 → allows A.carries.care A.carries.value i (row_carry A H T (i + (1 + A.below))) ≡ true
  pub makes : combined (not A.like) H T ≡ x

-- some x that they make has the property P
pub record Making (f : ℕ) (A : pair.Aligned) (P : ℕ → Type 0) : Type 0 where
  pub x : ℕ
  pub made : Made f A x
  pub holds : P x

-- the most digits that a sum has, or else a difference
abbrev pub most_digits : ℕ → ℕ → Bool → ℕ
most_digits q f true = sum_bits q f
most_digits q f false = aligned_bits q f

-- the columns of a question: as many, since rounding never carries out of the longest
abbrev pub columns_of : ℕ → pair.Aligned → ℕ
columns_of f A = most_digits A.below f A.like

-- some bit stands below, and the columns fit a word with its top bit free
pub record RoomFor (f : ℕ) (like : Bool) (below : ℕ) : Type 0 where
  pub some : 0 < below
  pub columns : most_digits below f like < 64

abbrev pub Room : ℕ → pair.Aligned → Type 0
Room f A = RoomFor f A.like A.below

-- the largest significand with zeros below it, which no aligned significand exceeds
abbrev pub most_aligned : ℕ → ℕ → ℕ
most_aligned q f = head_at q (2 ^ (f + 1) - 1)

-- a mask that only numbers up to it meet
abbrev pub Bounded : ℕ → ℕ → Mask → Type 0
Bounded q f m = (x : ℕ) → x < 2 ^ mask_bits → Meets x m → x ≤ most_aligned q f

-- a mask that fixes the low q bits to 0
abbrev pub ZerosBelow : ℕ → Mask → Type 0
ZerosBelow q m = ((low q m).care ≡ 2 ^ q - 1) × ((low q m).value ≡ 0)

-- unlike operands with one unit: nothing stands below their significands
pub record OneUnit (A : pair.Aligned) : Type 0 where
  pub unlike : A.like ≡ false
  pub head : ZerosBelow A.below A.head
  pub tail : ZerosBelow A.below A.tail

-- there is room, both masks are bounded, the carry mask has p bits, and only unlike operands with one unit have a reversed row
pub record Formed (f : ℕ) (A : pair.Aligned) : Type 0 where
  pub room : Room f A
  pub head : Bounded A.below f A.head
  pub tail : Bounded A.below f A.tail
  pub carries : WellFormed (f + 1) A.carries
  pub one_unit : A.reversed ≡ true → OneUnit A

-- what they make and meets x leaves room in the columns for what rounding off j bits adds
abbrev pub Leaves : ℕ → pair.Aligned → ℕ → Mask → Type 0
Leaves f A j x = (n : ℕ) → Made f A n → Meets n x → n + 2 ^ j ≤ 2 ^ columns_of f A

-- a question can be put about j bits rounded off and a mask y of f + 2 bits on what is left: there is a column for each bit but y's top one,
-- and room for what rounding adds to a number that meets x; where the row is reversed nothing is added
pub record Askable (f : ℕ) (A : pair.Aligned) (d : way.Direction) (j : ℕ) (x y : Mask) : Type 0 where
  pub columns : j + f + 1 ≤ columns_of f A
  pub care_lt : y.care < 2 ^ (2 + f)
  pub value_lt : y.value < 2 ^ (2 + f)
  pub leaves : Leaves f A j x
  pub toward_zero : A.reversed ≡ true → d ≡ TowardZero
