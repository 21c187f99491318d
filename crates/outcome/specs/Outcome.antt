-- Whether some two aligned significands make a word c that meets a mask, with dropped bits that meet another: what they make is
-- `Rattle.making.specs.Making`'s, and its word `Rattle.rounding.specs.Outcome`'s. Assumes nothing.
use Rattle.std.specs.Prelude.{◌≡◌, ◌⊎◌, ℕ, ◌^◌, ◌<◌}
use Rattle.format.specs.declared.Format.{Format}
use Rattle.format.specs.Format.{Supported}
use Rattle.mask.specs.Mask.{Meets}
use Rattle.job.specs.declared.Dropped.{Dropped}
use Rattle.word.specs.declared.Unit as exponent
use Rattle.rounding.specs.Dropped.{dropped_word}
use Rattle.rounding.specs.Outcome.{outcome, NormalAt}
use Rattle.making.specs.declared.Aligned as pair
use Rattle.making.specs.Making.{Making}
use Rattle.outcome.specs.declared.Target.{Target}

-- the dropped bits of x meet what is wanted of them, which only those of a magnitude from the smallest normal one on do unless none is
-- fixed (W-206); x has the magnitude's own
abbrev pub DropsAs : Format → ℕ → exponent.Unit → Dropped → ℕ → Type 0
DropsAs F q u D x = (D.mask.care ≡ 0) ⊎ (NormalAt q F.f u x × Meets (dropped_word F D.g x) D.mask)

-- x has a word that meets c, and such dropped bits
pub record Serves (F : Format) (mode s : ℕ) (u : exponent.Unit) (A : pair.Aligned) (T : Target) (x : ℕ) : Type 0 where
  pub word : Meets (outcome A.below F mode A.like s u x) T.c
  pub drops : DropsAs F A.below u T.dropped x

-- some x that they make serves
abbrev pub Admits : Format → ℕ → ℕ → exponent.Unit → pair.Aligned → Target → Type 0
Admits F mode s u A T = Making F.f A (Serves F mode s u A T)

-- s is a sign, and u no larger an exponent than a supported format F has
pub record InFormat (F : Format) (s : ℕ) (u : exponent.Unit) : Type 0 where
  pub supported : Supported F
  pub sign_lt : s < 2
  pub unit_lt : u.0 < 2 ^ F.w
