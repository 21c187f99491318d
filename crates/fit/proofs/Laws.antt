-- The tests and the records of a fitting case say the same; what it means that no cause stands against a case. Assumes nothing.
use Rattle.std.specs.Prelude.{Option, Some, None}
use mathlib.Core.Path.{◌≡◌, sym}
use mathlib.Core.Bool.{Bool, true, ◌&&◌, and-eq-true_iff}
use mathlib.Core.Logic.{◌↔◌}
use Prim.Native.Nat.{ℕ, ◌^◌, ◌<◌}
use borrow.Author.Tests.{eqb-true, eq-eqb}
use lib.Dec.{eqb}
use Rattle.format.specs.declared.Format.{Format}
use Rattle.format.specs.Format.{word_bits}
use Rattle.format.proofs.Laws.{both_none, word_none}
use Rattle.mask.specs.declared.Mask.{Mask}
use Rattle.mask.specs.Mask.{Inside, meets}
use Rattle.mask.proofs.ByBits.{free_meets}
use Rattle.mask.proofs.Checks.{meets_true}
use Rattle.bounds.specs.Bounds.{within}
use Rattle.bounds.proofs.Laws.{within_true}
use Rattle.job.specs.declared.Setting.{Setting}
use Rattle.job.specs.declared.Wanted.{Wanted}
use Rattle.job.specs.declared.Job.{Job}
use Rattle.job.specs.Job.{ValidSetting, Valid}
use Rattle.job.proofs.Laws.{with_none}
use Rattle.adder.proofs.Causes.{Fit}
use Rattle.format.specs.Cause.{clear}
use Rattle.fit.specs.Fit.{result_in, row_in, below_in, Allowed, allowed, PartMeets, part_meets, Satisfies, satisfies, Fits, fits, case_cause}

pub part_meets_true : (r : Option ℕ) (m : Mask) → part_meets r m ≡ true ↔ PartMeets r m
part_meets_true (Some r) m = meets_true r m
part_meets_true None m = (λ e. eqb-true m.care 0 e, λ e. eq-eqb m.care 0 e)

-- dropped bits, and that there are none, meet a mask that fixes no bit
pub unfixed_met : (r : Option ℕ) (m : Mask) → Inside m → m.care ≡ 0 → PartMeets r m
unfixed_met (Some r) m inside none = free_meets r m inside none
unfixed_met None m inside none = none

pub allowed_true : (F : Format) (x : ℕ) (W : Wanted) → allowed F x W ≡ true ↔ Allowed F x W
allowed_true F x W =
    let both = and-eq-true_iff (meets x W.mask) (within F x W.bounds) in (
      (λ e. record { mask = (meets_true x W.mask).0 (both.0 e).0; within = (within_true F x W.bounds).0 (both.0 e).1 }),
      λ h. both.1 ((meets_true x W.mask).1 h.mask, (within_true F x W.bounds).1 h.within),
    )

pub satisfies_true : (j : Job) (a b c : ℕ) → satisfies j a b c ≡ true ↔ Satisfies j a b c
unfolding satisfies
satisfies_true j a b c = (
  λ e.
      let d = (and-eq-true_iff (A && B && C && R) D).0 e in
      let p = (and-eq-true_iff (A && B && C) R).0 d.0 in
      let q = (and-eq-true_iff (A && B) C).0 p.0 in
      let o = (and-eq-true_iff A B).0 q.0 in
      record {
        a_allowed = (allowed_true F a j.a).0 o.0;
        b_allowed = (allowed_true F b j.b).0 o.1;
        c_allowed = (allowed_true F c j.c).0 q.1;
        row = (part_meets_true (row_in j.setting a b) j.carries).0 p.1;
        dropped = (part_meets_true (below_in j.setting j.dropped.g a b) j.dropped.mask).0 d.1;
      },
  λ h.
      let o = (and-eq-true_iff A B).1 ((allowed_true F a j.a).1 h.a_allowed, (allowed_true F b j.b).1 h.b_allowed) in
      let q = (and-eq-true_iff (A && B) C).1 (o, (allowed_true F c j.c).1 h.c_allowed) in
      let p = (and-eq-true_iff (A && B && C) R).1 (q, (part_meets_true (row_in j.setting a b) j.carries).1 h.row) in
      (and-eq-true_iff (A && B && C && R) D).1 (p, (part_meets_true (below_in j.setting j.dropped.g a b) j.dropped.mask).1 h.dropped),
)
  where
    F : Format
    F = j.setting.format

    A : Bool
    A = allowed F a j.a

    B : Bool
    B = allowed F b j.b

    C : Bool
    C = allowed F c j.c

    R : Bool
    R = part_meets (row_in j.setting a b) j.carries

    D : Bool
    D = part_meets (below_in j.setting j.dropped.g a b) j.dropped.mask

-- three words of a format
pub record Words (F : Format) (a b c : ℕ) : Type 0 where
  pub a_word : a < 2 ^ word_bits F
  pub b_word : b < 2 ^ word_bits F
  pub c_word : c < 2 ^ word_bits F

pub fits_true : (j : Job) (a b c : ℕ) → Words j.setting.format a b c → fits j a b c ≡ true ↔ Fits j a b c
unfolding fits
fits_true j a b c words = (
  λ e.
      let p = (and-eq-true_iff (eqb (result_in j.setting a b) c) (satisfies j a b c)).0 e in
      record {
        right = record { a_word = words.a_word; b_word = words.b_word; c_word = words.c_word; sum = sym (eqb-true (result_in j.setting a b) c p.0) };
        satisfies = (satisfies_true j a b c).0 p.1;
      },
  λ h.
      (and-eq-true_iff (eqb (result_in j.setting a b) c) (satisfies j a b c)).1
      (eq-eqb (result_in j.setting a b) c (sym h.right.sum), (satisfies_true j a b c).1 h.satisfies),
)

-- two words of the format stand against no cause of the result and the row
pub words_fit : (S : Setting) → ValidSetting S → (a b : ℕ) → a < 2 ^ word_bits S.format → b < 2 ^ word_bits S.format → Fit S.format S.operation a b
words_fit S valid a b ha hb = record { supported = valid.format; operation_fits = valid.operation; a_fits = ha; b_fits = hb }

pub case_none : (j : Job) (a b c : ℕ) → case_cause j a b c ≡ clear ↔ (Valid j × Words j.setting.format a b c)
unfolding case_cause
case_none j a b c =
    let width = word_bits j.setting.format in
    let law = with_none j _ (both_none _ _ (word_none width a) (both_none _ _ (word_none width b) (word_none width c))) in (
      (λ e.
          let p = law.0 e in
          let w = p.1 in
          (p.0, record { a_word = w.0; b_word = w.1.0; c_word = w.1.1 })),
      λ h. law.1 (h.0, (h.1.a_word, (h.1.b_word, h.1.c_word))),
    )
