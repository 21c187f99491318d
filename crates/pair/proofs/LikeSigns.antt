-- Finite operands of like effective sign have a sum of that sign, so a job that leaves them no two signs has no case with finite operands.
-- Assumes nothing.
use mathlib.Core.Path.{◌≡◌, refl, sym, ap₂, ◌∙◌, subst}
use mathlib.Core.Bool.{Bool, true, false, not, cond, ◌&&◌, ◌||◌, false≢true}
use mathlib.Core.Logic.{⊎_elim}
use Prim.Native.Nat.{ℕ, zero, suc, ◌+◌, ◌^◌, ◌<◌}
use native.Mathlib.Nat.{mod-lt, lt_of_le_of_lt, lt_trans}
use native.Mathlib.Omega.{arith}
use borrow.Author.Tests.{eqb-true, eq-eqb, ltb-true}
use lib.Dec.{eqb, ltb}
use Rattle.format.specs.declared.Format.{Format}
use Rattle.format.specs.Format.{Supported, word_bits}
use Rattle.mask.specs.declared.Mask.{Mask}
use Rattle.mask.specs.Mask.{Meets, meets, WellFormed}
use Rattle.mask.proofs.Checks.{meets_true}
use Rattle.mask.proofs.ByParts.{meets_fields}
use Rattle.job.specs.declared.Job.{Job}
use Rattle.job.specs.Job.{Valid}
use Rattle.rounding.specs.declared.Direction.{Direction}
use Rattle.word.specs.declared.Biased.{Biased}
use Rattle.word.specs.declared.Unit as exponent
use Rattle.word.specs.Word.{signed, infinity_word}
use Rattle.rounding.specs.Rounding.{direction, overflow_word}
use Rattle.word.proofs.Bounds.{infinity_lt}
use Rattle.rounding.proofs.Rounded.{overflow_le}
use Rattle.word.proofs.Fields.{signed_sign}
use Rattle.making.specs.declared.Aligned as pair
use Rattle.outcome.specs.declared.Target.{Target}
use Rattle.rounding.specs.Outcome.{held_word, bounded_held, outcome}
use Rattle.outcome.specs.Outcome.{Admits}
use Rattle.word.specs.Masks.{sign_mask}
use Rattle.special.specs.Asked.{PairFits}
use Rattle.pair.specs.declared.Side.{Side}
use Rattle.pair.specs.Pair.{target_of, Larger, turned, side_a, side_b, Posed, FinitePair}
use Rattle.pair.specs.Signs.{sign_left, signs_left}
use Rattle.pair.proofs.Finites.{pair_finite}

module _ (F : Format) (ok : Supported F) where
  bounded_lt : (q : ℕ) (d : Direction) (x : ℕ) (u : exponent.Unit) → bounded_held q F d x u < 2 ^ (F.w + F.f)
  unfolding bounded_held
  bounded_lt q d x u = go (ltb (held_word q F d x u) (infinity_word F)) refl
    where
      go : (t : Bool) → ltb (held_word q F d x u) (infinity_word F) ≡ t → cond t (held_word q F d x u) (overflow_word F d) < 2 ^ (F.w + F.f)
      go true e = lt_trans (ltb-true (held_word q F d x u) (infinity_word F) e) (infinity_lt F ok)
      go false e = lt_of_le_of_lt (overflow_le F d) (infinity_lt F ok)

  -- the word of a sign and a magnitude has that sign
  word_sign : (s m : ℕ) (c : Mask) → WellFormed (word_bits F) c → s < 2 → m < 2 ^ (F.w + F.f) → Meets (signed F s m) c → Meets s (sign_mask F c)
  word_sign s m c h hs hm met = subst (λ (n : ℕ). Meets n (sign_mask F c)) (signed_sign F s m hs hm) ((meets_fields F.w F.f c h (signed F s m)).0 met).0

  like_outcome : (q mode s : ℕ) (u : exponent.Unit) (x : ℕ) (c : Mask) → WellFormed (word_bits F) c → s < 2 → Meets (outcome q F mode true s u x) c → Meets s (sign_mask F c)
  unfolding outcome
  like_outcome q mode s u zero c h hs met = word_sign s 0 c h hs (lib.Pow.pow_pos (F.w + F.f)) met
  like_outcome q mode s u (suc x) c h hs met = word_sign s (bounded_held q F (direction mode s) (suc x) u) c h hs (bounded_lt q (direction mode s) (suc x) u) met

  -- a sum of operands of like sign
  like_sign : (mode s : ℕ) (u : exponent.Unit) (A : pair.Aligned) (T : Target) → WellFormed (word_bits F) T.c → s < 2 → A.like ≡ true → Admits F mode s u A T → Meets s (sign_mask F T.c)
  like_sign mode s u A T h hs like a =
      like_outcome A.below mode s u a.x T.c h hs (subst (λ (t : Bool). Meets (outcome A.below F mode t s u a.x) T.c) like a.holds.word)

module _ (j : Job) (v : Valid j) (ea eb : Biased) where
  -- the larger side's sign is that of c
  larger_sign : (x y : Side) → x.sign < 2 → x.sign ≡ y.sign → Larger j x y → Meets x.sign (sign_mask j.setting.format j.c.mask)
  larger_sign x y hs e l = like_sign j.setting.format v.setting.format j.setting.mode x.sign _ _ (target_of j) v.c.mask hs (eq-eqb x.sign y.sign e) l.1

  posed_left : (sa sb : ℕ) → sa < 2 → sb < 2 → Posed j ea eb sa sb → sign_left j sa sb ≡ true
  unfolding sign_left
  posed_left sa sb ha hb P =
      ap₂ ◌&&◌
      (ap₂ ◌&&◌ ((meets_true sa (sign_mask j.setting.format j.a.mask)).1 P.a_sign) ((meets_true sb (sign_mask j.setting.format j.b.mask)).1 P.b_sign))
      (go (eqb sa (turned j.setting.operation sb)) refl)
    where
      of_c : sa ≡ turned j.setting.operation sb → Meets sa (sign_mask j.setting.format j.c.mask)
      of_c e =
          ⊎_elim (larger_sign (side_a j sa ea) (side_b j sb eb) ha e)
          (λ l.
          subst (λ (n : ℕ). Meets n (sign_mask j.setting.format j.c.mask)) (sym e)
          (larger_sign (side_b j sb eb) (side_a j sa ea) (mod-lt (sb + j.setting.operation) (omega arith)) (sym e) l))
          P.sums

      go : (t : Bool) → eqb sa (turned j.setting.operation sb) ≡ t → (not t || meets sa (sign_mask j.setting.format j.c.mask)) ≡ true
      go true q = (meets_true sa (sign_mask j.setting.format j.c.mask)).1 (of_c (eqb-true sa (turned j.setting.operation sb) q))
      go false q = refl

or_true : (t : Bool) → (t || true) ≡ true
or_true true = refl
or_true false = refl

-- the signs of finite operands of a case are left
left_some : (j : Job) (sa sb : ℕ) → sa < 2 → sb < 2 → sign_left j sa sb ≡ true → signs_left j ≡ true
unfolding signs_left
left_some j zero zero ha hb q = rw q
left_some j zero (suc zero) ha hb q = rw (q, or_true)
left_some j (suc zero) zero ha hb q = rw (q, or_true)
left_some j (suc zero) (suc zero) ha hb q = rw (q, or_true)
left_some j zero (suc (suc n)) ha hb q = absurd (omega (arith, hb))
left_some j (suc zero) (suc (suc n)) ha hb q = absurd (omega (arith, hb))
left_some j (suc (suc n)) sb ha hb q = absurd (omega (arith, ha))

pub signs_none : (j : Job) → Valid j → (ea eb : Biased) → FinitePair j.setting.format ea eb → signs_left j ≡ false → PairFits j ea eb → ⊥
signs_none j valid ea eb fin none P =
    let S = ((pair_finite j valid ea eb fin).0 P).2 in
    let some = left_some j S.sa S.sb S.sa_lt S.sb_lt (posed_left j valid ea eb S.sa S.sb S.sa_lt S.sb_lt S.posed) in
    false≢true (sym none ∙ some)
