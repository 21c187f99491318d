-- What the checks of masks tell: a mask has no cause exactly when it is well formed, the cause of four masks names the first malformed one,
-- and the Bool of a test is the statement.
-- Assumes nothing.
use mathlib.Core.Logic.{◌↔◌}
use mathlib.Core.Path.{◌≡◌, refl, sym, ap, ◌∙◌}
use mathlib.Core.Bool.{Bool, true, false, and-eq-true_iff, false≢true}
use Prim.Native.Nat.{ℕ, ◌^◌}
use borrow.Author.Tests.{ltb-true, lt-ltb, eqb-true, eq-eqb}
use lib.Bits.{bit_and}
use lib.Dec.{ltb}
use Rattle.format.specs.declared.cause.Cause.TheVariants as cause
use Rattle.format.specs.declared.cause.Cause.{Cause}
use Rattle.format.specs.Cause.{clear, unless, first}
use Rattle.format.proofs.Laws.{both_none, unless_none}
use Rattle.mask.specs.declared.Mask.{Mask}
use Rattle.mask.specs.Mask.{Inside, inside, WellFormed, well_formed, mask_cause, masks_cause, Meets, meets}
use Rattle.mask.specs.Named as named
use Rattle.mask.specs.Named.{Named}

pub meets_true : (x : ℕ) (m : Mask) → (meets x m ≡ true) ↔ Meets x m
meets_true x m = (eqb-true (bit_and x m.care) m.value, eq-eqb (bit_and x m.care) m.value)

-- the same of a test against a mask that is known as another
pub meets_tested : (x : ℕ) {m n : Mask} {t : Bool} → t ≡ meets x m → m ≡ n → (t ≡ true) ↔ Meets x n
meets_tested x {m} {n} {t} test is =
    let law = meets_true x n in
    let same : t ≡ meets x n = test ∙ ap (meets x) is in
    ((λ h. law.0 (sym same ∙ h)), λ h. same ∙ law.1 h)

pub inside_true : (m : Mask) → (inside m ≡ true) ↔ Inside m
inside_true m = meets_true m.value m

pub well_formed_true : (width : ℕ) (m : Mask) → (well_formed width m ≡ true) ↔ WellFormed width m
well_formed_true width m =
    let both = and-eq-true_iff (ltb m.care (2 ^ width)) (inside m) in (
      (λ e. record { below = ltb-true m.care (2 ^ width) (both.0 e).0; inside = (inside_true m).0 (both.0 e).1 }),
      λ w. both.1 (lt-ltb m.care (2 ^ width) w.below, (inside_true m).1 w.inside),
    )

well_formed_false : (width : ℕ) (m : Mask) → well_formed width m ≡ false → WellFormed width m → ⊥
well_formed_false width m e w = false≢true (sym e ∙ (well_formed_true width m).1 w)

mask_none : (k : Cause) (width : ℕ) (m : Mask) → (mask_cause k width m ≡ clear) ↔ WellFormed width m
unfolding mask_cause
mask_none k width m =
    let none = unless_none (well_formed width m) k in
    let formed = well_formed_true width m in
    ((λ e. formed.0 (none.0 e)), λ w. none.1 (formed.1 w))

module _ (width positions : ℕ) (a b c carries : Mask) where
  -- four masks have no cause exactly when all are well formed
  pub masks_none :
      (masks_cause width positions a b c carries ≡ clear)
      ↔ (WellFormed width a × (WellFormed width b × (WellFormed width c × WellFormed positions carries)))
  unfolding masks_cause
  masks_none = both_none _ _ (mask_none cause.Mask _ _) (both_none _ _ (mask_none cause.SecondMask _ _) (both_none _ _ (mask_none cause.ThirdMask _ _) (mask_none cause.CarryMask _ _)))

  -- their cause names the first malformed one
  pub masks_named : Named width positions a b c carries (masks_cause width positions a b c carries)
  unfolding mask_cause masks_cause
  masks_named = by (well_formed width a) (well_formed width b) (well_formed width c) (well_formed positions carries) refl refl refl refl
    where
      yes : (m : Mask) → well_formed width m ≡ true → WellFormed width m
      yes m = (well_formed_true width m).0

      by : (s t u v : Bool) → well_formed width a ≡ s → well_formed width b ≡ t → well_formed width c ≡ u → well_formed positions carries ≡ v
          → Named width positions a b c carries
          (first (unless s cause.Mask) (first (unless t cause.SecondMask) (first (unless u cause.ThirdMask) (unless v cause.CarryMask))))
      by false t u v es et eu ev = named.first (well_formed_false width a es)
      by true false u v es et eu ev = named.second (yes a es) (well_formed_false width b et)
      by true true false v es et eu ev = named.third (yes a es) (yes b et) (well_formed_false width c eu)
      by true true true false es et eu ev = named.carry (yes a es) (yes b et) (yes c eu) (well_formed_false positions carries ev)
      by true true true true es et eu ev = named.none (yes a es) (yes b et) (yes c eu) ((well_formed_true positions carries).0 ev)
