-- The ways in which a number of so many digits has dropped bits that meet a mask (document 02, W-206). What lies below these bits is told by
-- the sticky bit alone: where that is to be 1 some bit there is, and a mask can only say which. Assumes nothing.
-- Internal: no public contract cites this.
use Rattle.std.specs.Prelude.{◌≡◌, cond, ◌↔◌, ℕ, ◌+◌, ◌-◌, ◌*◌, ◌%◌, ◌^◌, ◌<◌, eqb, leb, ltb}
use Rattle.std.specs.Float.Ieee.{size}
use Rattle.mask.specs.declared.Mask.{Mask}
use Rattle.mask.specs.Mask.{Meets, high, raised, pick_mask, free_mask}
use Rattle.job.specs.declared.Dropped.{Dropped}
use Rattle.word.specs.declared.Unit as exponent
use Rattle.rounding.specs.Width.{aligned_bits}
use Rattle.making.specs.Question.{one_bit}

-- in how many ways, for a number that has j bits below the last kept one: with no more than g + 1 of them they are the upper bits of the
-- mask, and zeros stand below; with more of them the lowest j - g are told by the sticky bit
unfoldable pub ways_of : Dropped → ℕ → ℕ
ways_of D j =
    cond (leb j (D.g + 1)) (cond (eqb (D.mask.value % 2 ^ (D.g + 1 - j)) 0) 1 0) (cond (eqb (D.mask.value % 2) 1) (j - D.g) 1)

-- what the dropped bits ask of the number
unfoldable pub upper_of : Dropped → ℕ → Mask
upper_of D j = pick_mask (leb j (D.g + 1)) (high (D.g + 1 - j) D.mask) (raised (j - D.g) (high 1 D.mask))

-- and the sticky bit, in the way t: a bit that is 1, or all of them 0 where it is fixed
unfoldable pub lower_of : Dropped → ℕ → ℕ → Mask
lower_of D j t =
    pick_mask (leb j (D.g + 1)) free_mask
    (pick_mask (eqb (D.mask.value % 2) 1) (one_bit t 1) (record { care = (2 ^ (j - D.g) - 1) * (D.mask.care % 2); value = 0 }))

-- n meets both
pub record InWay (D : Dropped) (j t n : ℕ) : Type 0 where
  pub upper : Meets n (upper_of D j)
  pub lower : Meets n (lower_of D j t)

-- in how many ways for a number of N digits, where u is the exponent of the larger operand's unit: in one where none is fixed, in none below
-- the smallest normal number
unfoldable pub ways_at : ℕ → ℕ → exponent.Unit → Dropped → ℕ → ℕ
ways_at q f u D N = cond (eqb D.mask.care 0) 1 (cond (ltb (N + u.0) (aligned_bits q f)) 0 (ways_of D (N - (f + 1))))

-- m is met by exactly those numbers of n bits that have N digits and are in the way t
abbrev pub OfWay : ℕ → ℕ → Dropped → ℕ → ℕ → Mask → Type 0
OfWay n N D j t m = (x : ℕ) → x < 2 ^ n → Meets x m ↔ ((size x ≡ N) × InWay D j t x)
