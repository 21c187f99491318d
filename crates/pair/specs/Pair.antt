-- The significand question of two finite operands, posed by a side for each: what is asked of an operand whose sign, in the effective
-- addition, and exponent field are known. Assumes nothing.
use Rattle.std.specs.Prelude.{Bool, true, false, not, ◌&&◌, ◌⊎◌, ℕ, ◌+◌, ◌-◌, ◌%◌, ◌≤◌, ◌<◌, eqb}
use Rattle.format.specs.declared.Format.{Format}
use Rattle.format.specs.Format.{Supported, precision}
use Rattle.mask.specs.declared.Mask.{Mask}
use Rattle.mask.specs.Mask.{Meets, WellFormed}
use Rattle.job.specs.declared.Job.{Job}
use Rattle.word.specs.declared.Biased.{Biased}
use Rattle.word.specs.Word.{unit_of, all_ones}
use Rattle.significand.specs.Significand.{significand_mask}
use Rattle.significand.specs.Tail.{tail_mask}
use Rattle.job.specs.Guards.{guards_of}
use Rattle.making.specs.declared.Aligned as pair
use Rattle.outcome.specs.declared.Target.{Target}
use Rattle.outcome.specs.Outcome.{Admits}
use Rattle.pair.specs.declared.Side.{Side}
use Rattle.word.specs.Masks.{sign_mask, fraction_mask}

-- a sign bit, the exponent field of a finite number, and a mask of f bits
pub record FiniteSide (F : Format) (x : Side) : Type 0 where
  pub sign_lt : x.sign < 2
  pub finite : x.exponent.0 < all_ones F
  pub formed : WellFormed F.f x.fraction

-- the significands that are asked for
abbrev pub significands_of : Format → Side → Mask
significands_of F x = significand_mask F.f x.fraction x.exponent

-- how many places the unit of y lies below that of x
abbrev pub gap_of : Side → Side → ℕ
gap_of x y = (unit_of x.exponent).0 - (unit_of y.exponent).0

-- the row is that of y less x, the larger: y is a, the exponents are equal and the signs unlike (W-205)
abbrev pub reversed_of : Side → Side → Bool
reversed_of x y = y.lhs && (eqb x.exponent.0 y.exponent.0 && not (eqb x.sign y.sign))

-- how many bits stand below the larger significand's last one, where G bits are told apart below the last kept one: one more in a sum, and
-- two in a difference, which may lose its top bit (W-206)
abbrev pub bits_below : ℕ → Bool → ℕ
bits_below G true = G + 1
bits_below G false = G + 2

-- the masks of two aligned significands, x's the larger
abbrev pub aligned_of : Format → ℕ → Mask → Side → Side → pair.Aligned
aligned_of F G carries x y = record {
  like = eqb x.sign y.sign;
  reversed = reversed_of x y;
  below = bits_below G (eqb x.sign y.sign);
  head = tail_mask (bits_below G (eqb x.sign y.sign)) (precision F) (significands_of F x) 0;
  tail = tail_mask (bits_below G (eqb x.sign y.sign)) (precision F) (significands_of F y) (gap_of x y);
  carries = carries;
}

-- what the job wants of the result
abbrev pub target_of : Job → Target
target_of j = record { c = j.c.mask; dropped = j.dropped }

-- x is the larger operand: its exponent is not the smaller one, and aligned significands make a word, dropped bits and carries that meet the
-- job's masks
abbrev pub Larger : Job → Side → Side → Type 0
Larger j x y =
    (y.exponent.0 ≤ x.exponent.0)
    × Admits j.setting.format j.setting.mode x.sign (unit_of x.exponent) (aligned_of j.setting.format (guards_of j.dropped) j.carries x y) (target_of j)

-- the one or the other is
abbrev pub Sums : Job → Side → Side → Type 0
Sums j x y = Larger j x y ⊎ Larger j y x

-- the sign of b in the effective addition
abbrev pub turned : ℕ → ℕ → ℕ
turned operation s = (s + operation) % 2

-- the sides of a and of b, by the sign and the exponent field of the word
abbrev pub side_a : Job → ℕ → Biased → Side
side_a j s e = record { lhs = true; sign = s; exponent = e; fraction = fraction_mask j.setting.format j.a.mask }

abbrev pub side_b : Job → ℕ → Biased → Side
side_b j s e = record { lhs = false; sign = turned j.setting.operation s; exponent = e; fraction = fraction_mask j.setting.format j.b.mask }

-- the signs meet their masks, and the two sides sum as the job asks
pub record Posed (j : Job) (ea eb : Biased) (sa sb : ℕ) : Type 0 where
  pub a_sign : Meets sa (sign_mask j.setting.format j.a.mask)
  pub b_sign : Meets sb (sign_mask j.setting.format j.b.mask)
  pub sums : Sums j (side_a j sa ea) (side_b j sb eb)

-- some two signs pose a case
pub record SomeSigns (j : Job) (ea eb : Biased) : Type 0 where
  pub sa : ℕ
  pub sb : ℕ
  pub sa_lt : sa < 2
  pub sb_lt : sb < 2
  pub posed : Posed j ea eb sa sb

-- two exponent fields of finite operands of a supported format
pub record FinitePair (F : Format) (ea eb : Biased) : Type 0 where
  pub supported : Supported F
  pub a_finite : ea.0 < all_ones F
  pub b_finite : eb.0 < all_ones F
