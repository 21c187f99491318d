-- A pair of exponent fields of which one is all ones (document 01, "Numbers of a format": infinity where t = 0, else a NaN). With such an
-- operand there is no row and no bit below the last, and c depends only on the kinds of the operands ("The rounded result"). So four words
-- stand for all words with an exponent field that meet a mask: of either sign, with the least fraction, which is 0 where a fraction of 0
-- meets the mask, and with the greatest, which is not 0 where another one does. Whether some case fits is then whether one of the pairs of
-- these words fits. Assumes nothing.
use Rattle.std.specs.Prelude.{◌≡◌, ◌⊎◌, Bool, ◌&&◌, ℕ, zero, suc, ◌/◌, ◌%◌}
use Rattle.format.specs.declared.Format.{Format}
use Rattle.mask.specs.declared.Mask.{Mask}
use Rattle.mask.specs.Mask.{meets}
use Rattle.columns.specs.Machine.{some}
use Rattle.job.specs.declared.Job.{Job}
use Rattle.word.specs.declared.Biased.{Biased}
use Rattle.word.specs.Word.{all_ones, word_of}
use Rattle.word.specs.Masks.{fraction_mask}
use Rattle.fit.specs.Fit.{result_in}
use Rattle.significand.specs.Tail.{least, greatest}

-- "With an infinite or NaN operand": one of the exponent fields is all ones ("The carry row")
abbrev pub Special : Format → Biased → Biased → Type 0
Special F ea eb = (ea.0 ≡ all_ones F) ⊎ (eb.0 ≡ all_ones F)

-- nothing is fixed that there is not with such an operand: no carry, and no bit below the last ("The carry row"; W-206)
pub record Unfixed (j : Job) : Type 0 where
  pub carries : j.carries.care ≡ 0
  pub dropped : j.dropped.mask.care ≡ 0

-- of the fractions of f bits that meet a mask the least, for 0, or the greatest
abbrev pub extreme : ℕ → Mask → ℕ → ℕ
extreme f m zero = least m
extreme f m (suc n) = greatest f m

-- the words that stand for all with the exponent field e, for k from 0 to 3: k / 2 is the sign, k % 2 says which fraction
unfoldable pub representative : Format → Mask → Biased → ℕ → ℕ
representative F m e k = word_of F (k / 2) e.0 (extreme F.f (fraction_mask F m) (k % 2))

-- a, b and their rounded result meet their masks ("As c follows from a and b"); there is no row and no dropped bit to look at
unfoldable pub together : Job → ℕ → ℕ → Bool
together j a b = meets a j.a.mask && meets b j.b.mask && meets (result_in j.setting a b) j.c.mask

-- a goes together with a word that stands for those with the exponent field eb
unfoldable pub partnered : Job → ℕ → Biased → Bool
partnered j a eb = some 4 (λ k. together j a (representative j.setting.format j.b.mask eb k))

-- some two words that stand for those with the exponent fields ea and eb go together
unfoldable pub admitted : Job → Biased → Biased → Bool
admitted j ea eb = some 4 (λ k. partnered j (representative j.setting.format j.a.mask ea k) eb)
