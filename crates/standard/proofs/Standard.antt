-- The rounded result is exactly the word that the standard asks for: it is one such word, and the only one. Assumes nothing.
use mathlib.Core.Path.{◌≡◌, sym, subst}
use mathlib.Core.Logic.{◌⊎◌, inl, inr, ◌↔◌}
use Prim.Native.Nat.{ℕ, ◌-◌, ◌^◌, ◌≤◌, ◌<◌}
use native.Mathlib.Decide.{ℕ_discrete}
use Rattle.format.specs.declared.Format.{Format}
use Rattle.format.specs.Format.{Supported, word_bits}
use Rattle.format.specs.Limits.{most_mode}
use Rattle.word.specs.Word.{fraction, biased, sign}
use Rattle.adder.specs.Result.{result_of}
use Rattle.adder.proofs.ResultLaws.{result_lt}
use Rattle.standard.specs.Fields.{Fields, effective_sign}
use Rattle.standard.specs.Number.{FiniteWord}
use Rattle.standard.specs.Special.{InfiniteWord, NanWord}
use Rattle.standard.specs.Standard.{StandardSum}
use Rattle.standard.proofs.Fields.{fields_unique}
use Rattle.standard.proofs.Sums.{result_rounded, result_sign}
use Rattle.standard.proofs.Unique.{result_only}
use Rattle.standard.proofs.Special.{result_special}

-- a word is finite, an infinity or a NaN
word_kind : (F : Format) (x : ℕ) → FiniteWord F x ⊎ (InfiniteWord F x ⊎ NanWord F x)
word_kind F x = go (ℕ_discrete (biased F x).0 (2 ^ F.w - 1)) (ℕ_discrete (fraction F x) 0)
  where
    go : Dec ((biased F x).0 ≡ 2 ^ F.w - 1) → Dec (fraction F x ≡ 0) → FiniteWord F x ⊎ (InfiniteWord F x ⊎ NanWord F x)
    go (no e) t = inl e
    go (yes e) (yes t) = inr (inl (e, t))
    go (yes e) (no t) = inr (inr (e, t))

module _ (F : Format) (ok : Supported F) (operation mode a b : ℕ) (ho : operation < 2) (hm : mode ≤ most_mode) where
  pub result_standard : StandardSum F operation mode a b (result_of F operation mode a b)
  result_standard = record {
    special = result_special F ok operation mode a b;
    rounded = λ fa fb. result_rounded F ok operation mode a b ho fa fb hm;
    signed = λ fa fb. result_sign F ok operation mode a b ho fa fb;
  }

  standard_only : (c : ℕ) → c < 2 ^ word_bits F → StandardSum F operation mode a b c → c ≡ result_of F operation mode a b
  standard_only c hc g = go (word_kind F a) (word_kind F b) (ℕ_discrete (sign F a) (effective_sign F operation b))
    where
      same : {s e t : ℕ} → Fields F c s e t → Fields F (result_of F operation mode a b) s e t → c ≡ result_of F operation mode a b
      same = fields_unique F hc (result_lt F ok operation mode a b)

      go : FiniteWord F a ⊎ (InfiniteWord F a ⊎ NanWord F a) → FiniteWord F b ⊎ (InfiniteWord F b ⊎ NanWord F b) → Dec (sign F a ≡ effective_sign F operation b)
          → c ≡ result_of F operation mode a b
      go (inr (inr n)) y d = same (g.special.first_nan n) (result_standard.special.first_nan n)
      go (inl x) (inr (inr n)) d = same (g.special.second_nan n) (result_standard.special.second_nan n)
      go (inr (inl x)) (inr (inr n)) d = same (g.special.second_nan n) (result_standard.special.second_nan n)
      go (inr (inl x)) (inr (inl y)) (yes l) = same (g.special.like x y l) (result_standard.special.like x y l)
      go (inr (inl x)) (inr (inl y)) (no l) = same (g.special.unlike x y l) (result_standard.special.unlike x y l)
      go (inr (inl x)) (inl y) d = same (g.special.first_infinite x y) (result_standard.special.first_infinite x y)
      go (inl x) (inr (inl y)) d = same (g.special.second_infinite x y) (result_standard.special.second_infinite x y)
      go (inl x) (inl y) d = result_only F ok operation mode a b c ho hm x y hc (g.rounded x y) (g.signed x y)

  -- c is the sum or difference by the standard exactly where it is the rounded result
  pub standard_exactly : (c : ℕ) → c < 2 ^ word_bits F → StandardSum F operation mode a b c ↔ (c ≡ result_of F operation mode a b)
  standard_exactly c hc = (standard_only c hc, λ e. subst (StandardSum F operation mode a b) (sym e) result_standard)
