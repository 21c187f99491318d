-- The signs that a job leaves to finite operands, whatever their exponents (document 01, "The rounded result": operands of like effective
-- sign have a sum of that sign). Assumes nothing.
use Rattle.std.specs.Prelude.{Bool, not, ◌&&◌, ◌||◌, ℕ, eqb}
use Rattle.mask.specs.Mask.{meets}
use Rattle.job.specs.declared.Job.{Job}
use Rattle.word.specs.Masks.{sign_mask}
use Rattle.pair.specs.Pair.{turned}

-- the signs sa and sb meet their masks, and where they are like in the effective addition, sa meets c's
unfoldable pub sign_left : Job → ℕ → ℕ → Bool
sign_left j sa sb =
    meets sa (sign_mask j.setting.format j.a.mask) && meets sb (sign_mask j.setting.format j.b.mask)
    && (not (eqb sa (turned j.setting.operation sb)) || meets sa (sign_mask j.setting.format j.c.mask))

-- some two signs
unfoldable pub signs_left : Job → Bool
signs_left j = sign_left j 0 0 || sign_left j 0 1 || sign_left j 1 0 || sign_left j 1 1
