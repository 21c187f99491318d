-- Sums with an infinity or a NaN (IEEE 754, "Infinity arithmetic", "Operations with NaNs", "Invalid operation"; document 01, "The rounded
-- result"), for words. Assumes nothing.
use Rattle.std.specs.Prelude.{◌≡◌, ℕ, ◌-◌, ◌^◌}
use Rattle.format.specs.declared.Format.{Format}
use Rattle.word.specs.Word.{fraction, biased, sign}
use Rattle.standard.specs.Fields.{TheNan, Infinity, effective_sign}
use Rattle.standard.specs.Number.{FiniteWord}

-- e all ones and t = 0
abbrev pub InfiniteWord : Format → ℕ → Type 0
InfiniteWord F x = ((biased F x).0 ≡ 2 ^ F.w - 1) × (fraction F x ≡ 0)

-- e all ones and any other t
abbrev pub NanWord : Format → ℕ → Type 0
NanWord F x = ((biased F x).0 ≡ 2 ^ F.w - 1) × (fraction F x ≡ 0 → ⊥)

-- a NaN, or infinities of unlike effective sign, give the one NaN; any other infinity gives infinity of its effective sign
pub record SpecialSum (F : Format) (operation a b c : ℕ) : Type 0 where
  pub first_nan : NanWord F a → TheNan F c
  pub second_nan : NanWord F b → TheNan F c
  pub unlike : InfiniteWord F a → InfiniteWord F b → (sign F a ≡ effective_sign F operation b → ⊥) → TheNan F c
  pub like : InfiniteWord F a → InfiniteWord F b → sign F a ≡ effective_sign F operation b → Infinity F (sign F a) c
  pub first_infinite : InfiniteWord F a → FiniteWord F b → Infinity F (sign F a) c
  pub second_infinite : FiniteWord F a → InfiniteWord F b → Infinity F (effective_sign F operation b) c
