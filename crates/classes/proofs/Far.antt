-- Pairs that need no question of their own: those whose smaller exponent field is far below the larger one have one answer, and where c's mask
-- lets through no exponent field near the larger one only a zero sum is left; with a gap of 2 or more none is, and near is at most 1 below. Assumes nothing.
use Rattle.std.proofs.Common.{◌≡◌, ℕ, zero, suc, ◌+◌, ◌-◌, ◌^◌, ◌<◌, ◌≤◌, ◌⊎◌, refl, subst, inl, inr, ⊎_elim, arith, le-leb}
use native.Mathlib.Decide.{dec_le}
use Rattle.mask.specs.Mask.{Meets}
use Rattle.job.specs.declared.Job.{Job}
use Rattle.job.specs.Job.{Valid}
use Rattle.job.specs.Guards.{reach}
use Rattle.word.specs.declared.Biased.{Biased}
use Rattle.word.specs.Word.{unit_of, all_ones}
use Rattle.word.specs.Masks.{exponent_mask}
use Rattle.special.specs.Asked.{PairFits}
use Rattle.special.proofs.Beside.{beside_a, beside_b}
use Rattle.classes.specs.Class.{InOrder, far_gap, top_field, lower_field, low_field, moved_field, least_field, Classed, smaller_mask}
use Rattle.classes.specs.Far.{FarBelow, LetsNear, LetsZero}
use Rattle.classes.proofs.Classes.{ClassFieldReached, class_reached, far_pair}

-- ---- fields far below E
beside : (j : Job) → Valid j → (o : ℕ) (E e g : Biased) → E.0 ≡ all_ones j.setting.format → e.0 < all_ones j.setting.format → g.0 < all_ones j.setting.format
    → Meets g.0 (smaller_mask j o) → InOrder (PairFits j) o E e → InOrder (PairFits j) o E g
beside j valid zero E e g ones e-lt g-lt met P = beside_a j valid E e g ones e-lt g-lt met P
beside j valid (suc o) E e g ones e-lt g-lt met P = beside_b j valid E e g ones e-lt g-lt met P

-- they have one answer
pub far_alike : (j : Job) → Valid j → (o : ℕ) (E e g : Biased) → FarBelow j.setting.format (reach j) E e → FarBelow j.setting.format (reach j) E g
    → Meets g.0 (smaller_mask j o) → InOrder (PairFits j) o E e → InOrder (PairFits j) o E g
far_alike j valid o E e g (inl h) (inl k) met P = far_pair j valid E e g h.2 h.0 k.0 h.1 k.1 o met P
far_alike j valid o E e g (inl h) (inr k) met P = absurd (omega (arith, h.2, k.0))
far_alike j valid o E e g (inr h) (inl k) met P = absurd (omega (arith, k.2, h.0))
far_alike j valid o E e g (inr h) (inr k) met P = beside j valid o E e g h.0 h.1 k.1 met P

-- ---- c's exponent field

-- the fields of a pair whose class may have a zero sum differ by 1 at most
low_near : (f E e : ℕ) → e ≤ E → (top_field f).0 < (lower_field f (E - 1 - (e - 1)) e).0 + 2 → E ≤ e + 1
low_near f E zero h l = absurd (omega arith)
low_near f E (suc e) h l = go (dec_le (E - 1 - (suc e - 1)) 1)
  where
    go : Dec (E - 1 - (suc e - 1) ≤ 1) → E ≤ suc e + 1
    go (yes q) = omega arith
    go (no q) = absurd (omega arith)

module _ (j : Job) (valid : Valid j) (o : ℕ) (E e : Biased) (finite : E.0 < all_ones j.setting.format) (under : e.0 ≤ E.0) (P : InOrder (PairFits j) o E e)
    (classed : Classed j.setting.format (reach j) j.c.mask E e) where
  abbrev f : ℕ
  f = reach j

  r : ClassFieldReached j E (record { order = o; low = low_field f E e })
  r = class_reached j valid o E e finite under P classed

  some : 1 ≤ E.0
  some = ⊎_elim (λ h. omega arith) (λ h. omega arith) classed.normal

  moved_meets : (i : ℕ) → r.field.0 ≡ i → Meets (moved_field (far_gap f) (unit_of E).0 i) (exponent_mask j.setting.format j.c.mask)
  moved_meets i is = subst (λ (n : ℕ). Meets (moved_field (far_gap f) (unit_of E).0 n) (exponent_mask j.setting.format j.c.mask)) is r.meets

  -- of a sum that is not 0
  nonzero_near : (i below : ℕ) → r.field.0 ≡ suc i → far_gap f ≤ i + below → LetsNear j below E
  nonzero_near i below is least = record {
    field = suc i + (unit_of E).0 - far_gap f;
    within = subst (λ (n : ℕ). moved_field (far_gap f) (unit_of E).0 n < 2 ^ j.setting.format.w) is r.within;
    meets = moved_meets (suc i) is;
    least = omega arith;
    most = omega (arith, r.most, some);
  }

  pub near_or_zero : LetsNear j (far_gap f) E ⊎ LetsZero j
  near_or_zero = go r.field.0 refl
    where
      go : (i : ℕ) → r.field.0 ≡ i → LetsNear j (far_gap f) E ⊎ LetsZero j
      go zero is = let z = r.zero is in inr (record { exponent = moved_meets 0 is; fraction = z.0; unfixed = z.1 })
      go (suc i) is = inl (nonzero_near i (far_gap f) is (omega arith))

  -- with a gap of 2 or more
  pub near_sum : e.0 + 2 ≤ E.0 → LetsNear j 1 E
  unfolding least_field
  near_sum apart = go r.field.0 refl (least (dec_le ((low_field f E e).0 + 2) (top_field f).0))
    where
      least : Dec ((low_field f E e).0 + 2 ≤ (top_field f).0) → far_gap f ≤ r.field.0
      least (yes l) = rw (le-leb ((low_field f E e).0 + 2) (top_field f).0 l) at r.least
      least (no l) = absurd (omega (arith, low_near f E.0 e.0 under (omega arith)))

      go : (i : ℕ) → r.field.0 ≡ i → far_gap f ≤ r.field.0 → LetsNear j 1 E
      go zero is l = absurd (omega arith)
      go (suc i) is l = nonzero_near i 1 is (omega arith)
