-- Of the words that meet a mask whose sign is fixed, those that lie between two ends (document 02, W-207), by their bits below the sign, read
-- as a number. Assumes nothing.
-- Internal: no public contract cites this.
use Rattle.std.specs.Prelude.{◌⊎◌, ◌≡◌, ℕ, zero, suc, ◌+◌, ◌-◌, ◌%◌, ◌^◌, ◌≤◌, ◌<◌}
use Rattle.std.specs.Int.Count.{count_leading_zeros}
use Rattle.bits.specs.Bit.{bit}
use Rattle.format.specs.declared.Format.{Format}
use Rattle.mask.specs.declared.Mask.{Mask}
use Rattle.mask.specs.Mask.{WellFormed, Meets, low}
use Rattle.bounds.specs.declared.Ends.{Ends}
use Rattle.bounds.specs.Bounds.{rank}
use Rattle.significand.specs.Tail.{greatest}
use Rattle.narrowing.specs.declared.Range as interval
use Rattle.narrowing.specs.declared.Extent as numbers
use Rattle.narrowing.specs.declared.Standing as relation
use Rattle.narrowing.specs.declared.Standing.TheVariants.{Inside, Outside, Across}

-- the words of sign s between two ends, by their other bits: a positive word has the rank 2^(w+f) and more, a negative one that and less
abbrev pub range_of : Format → Ends → ℕ → interval.Range
range_of F e zero = record { low = rank F e.low - 2 ^ (F.w + F.f); past = rank F e.high - (2 ^ (F.w + F.f) - 1) }
range_of F e (suc s) = record { low = 2 ^ (F.w + F.f) - rank F e.high; past = 2 ^ (F.w + F.f) + 1 - rank F e.low }

-- these numbers, and the least and the greatest that meet the mask
abbrev pub extent_of : Format → Mask → Ends → numbers.Extent
extent_of F m e = record {
  within = range_of F e (bit m.value (F.w + F.f));
  least = (low (F.w + F.f) m).value;
  most = greatest (F.w + F.f) (low (F.w + F.f) m);
}

-- all numbers from the least to the greatest are within, or none is; else k is the highest position at which these two differ in a bit
abbrev pub Decided : numbers.Extent → relation.Standing → Type 0
Decided n Inside = (n.within.low ≤ n.least) × (n.most < n.within.past)
Decided n Outside = (n.within.past ≤ n.within.low) ⊎ ((n.within.past ≤ n.least) ⊎ (n.most < n.within.low))
Decided n (Across k v) = (v < 2) × (n.least ≡ n.most → ⊥) × (k ≡ 63 - count_leading_zeros 64 (n.most - n.least))

-- r fixes no less than m: only numbers that meet m meet it, and each of these does whose bits below `place` read as a number from l to h
pub record Shares (place : ℕ) (m : Mask) (l h : ℕ) (r : Mask) : Type 0 where
  pub formed : (width : ℕ) → place ≤ width → WellFormed width m → WellFormed width r
  pub more : m.care ≤ r.care
  pub less : (x : ℕ) → Meets x r → Meets x m
  pub kept : (x : ℕ) → Meets x m → l ≤ x % 2 ^ place → x % 2 ^ place ≤ h → Meets x r
