-- The tries of the representatives settle the pair: where one succeeds a case fits, and where a case fits, the representatives of its
-- operands' kinds go together. Assumes nothing.
use Rattle.std.specs.Prelude.{Option, Ok}
use mathlib.Core.Path.{◌≡◌, refl, sym, ap, ◌∙◌, subst, subst₂}
use mathlib.Core.Logic.{◌↔◌, inl, inr}
use mathlib.Core.Bool.{Bool, true, false, ◌&&◌, and-eq-true_iff}
use Prim.Native.Nat.{ℕ, suc, ◌/◌, ◌^◌, ◌<◌}
use native.Mathlib.Nat.{mod-lt}
use lib.Pow.{pow_pos}
use Rattle.format.specs.Format.{word_bits}
use Rattle.mask.specs.Mask.{Meets, meets}
use Rattle.mask.proofs.Checks.{meets_true}
use Rattle.columns.specs.Machine.{some}
use Rattle.columns.proofs.Some.{some_sound, some_complete}
use Rattle.job.specs.Role.{unbounded}
use Rattle.job.specs.declared.Job.{Job}
use Rattle.job.specs.Job.{Valid}
use Rattle.word.specs.declared.Biased.{Biased}
use Rattle.word.specs.Word.{biased}
use Rattle.adder.specs.Result.{result_reply}
use Rattle.adder.proofs.Causes.{result_word}
use Rattle.adder.proofs.ResultLaws.{result_lt}
use Rattle.fit.proofs.Laws.{words_fit}
use Rattle.fit.specs.Fit.{result_in, PartMeets, Fits}
use Rattle.special.specs.Asked.{InRange, PairFits}
use Rattle.special.specs.Special.{Special, Unfixed, representative, together, partnered, admitted}
use Rattle.special.proofs.Alike.{special_row, special_below, alike_result}
use Rattle.special.proofs.Representatives.{representative_lt, representative_biased, stands_for, stands_lt, representative_alike, representative_meets}

-- where no number below n passes a test, and n does not
pub some_none : (n : ℕ) (test : ℕ → Bool) → some n test ≡ false → test n ≡ false → some (suc n) test ≡ false
some_none n test e f = rw (e, f)

-- words of a valid job
module _ (j : Job) (valid : Valid j) where
  -- the reply about two of them is their rounded result
  pub result_replied : (a b : ℕ) → a < 2 ^ word_bits j.setting.format → b < 2 ^ word_bits j.setting.format
      → result_reply j.setting.format j.setting.operation j.setting.mode a b ≡ Ok (result_in j.setting a b)
  result_replied a b ha hb = result_word j.setting.format j.setting.operation j.setting.mode a b (words_fit j.setting valid.setting a b ha hb) valid.setting.mode

  -- a test of three words
  together_meets : (a b : ℕ) → together j a b ≡ true ↔ (Meets a j.a.mask × Meets b j.b.mask × Meets (result_in j.setting a b) j.c.mask)
  unfolding together
  together_meets a b = (
    λ e.
        let p = (and-eq-true_iff (meets a j.a.mask && meets b j.b.mask) (meets (result_in j.setting a b) j.c.mask)).0 e in
        let q = (and-eq-true_iff (meets a j.a.mask) (meets b j.b.mask)).0 p.0 in
        ((meets_true a j.a.mask).0 q.0, (meets_true b j.b.mask).0 q.1, (meets_true (result_in j.setting a b) j.c.mask).0 p.1),
    λ m.
        (and-eq-true_iff (meets a j.a.mask && meets b j.b.mask) (meets (result_in j.setting a b) j.c.mask)).1 (
          (and-eq-true_iff (meets a j.a.mask) (meets b j.b.mask)).1 ((meets_true a j.a.mask).1 m.0, (meets_true b j.b.mask).1 m.1),
          (meets_true (result_in j.setting a b) j.c.mask).1 m.2,
        ),
  )

  -- with nothing fixed beside the words that is a case
  together_fits : (a b : ℕ) → a < 2 ^ word_bits j.setting.format → b < 2 ^ word_bits j.setting.format → Special j.setting.format (biased j.setting.format a) (biased j.setting.format b)
      → Unfixed j → together j a b ≡ true → Fits (unbounded j) a b (result_in j.setting a b)
  together_fits a b ha hb special free t =
      let m = (together_meets a b).0 t in
      record {
        right = record { a_word = ha; b_word = hb; c_word = result_lt j.setting.format valid.setting.format j.setting.operation j.setting.mode a b; sum = refl };
        satisfies = record {
          a_allowed = record { mask = m.0; within = tt };
          b_allowed = record { mask = m.1; within = tt };
          c_allowed = record { mask = m.2; within = tt };
          row = subst (λ (r : Option ℕ). PartMeets r j.carries) (sym (special_row j.setting.format j.setting.operation a b special)) free.carries;
          dropped = subst (λ (r : Option ℕ). PartMeets r j.dropped.mask) (sym (special_below j.setting.format j.setting.operation j.dropped.g a b special)) free.dropped;
        };
      }

-- ---- the pair
module _ (j : Job) (valid : Valid j) (ea eb : Biased) where
  -- the exponent fields of words are in range
  pub fields_in_range : PairFits j ea eb → InRange j.setting.format ea eb
  fields_in_range p = record {
    supported = valid.setting.format;
    a_lt = subst (λ (e : Biased). e.0 < 2 ^ j.setting.format.w) p.a_exponent (mod-lt (p.a / 2 ^ j.setting.format.f) (pow_pos j.setting.format.w));
    b_lt = subst (λ (e : Biased). e.0 < 2 ^ j.setting.format.w) p.b_exponent (mod-lt (p.b / 2 ^ j.setting.format.f) (pow_pos j.setting.format.w));
  }

  fields_special : (p : PairFits j ea eb) → Special j.setting.format ea eb → Special j.setting.format (biased j.setting.format p.a) (biased j.setting.format p.b)
  fields_special p (inl e) = inl (ap (λ (n : Biased). n.0) p.a_exponent ∙ e)
  fields_special p (inr e) = inr (ap (λ (n : Biased). n.0) p.b_exponent ∙ e)

  pub admitted_sound : InRange j.setting.format ea eb → Special j.setting.format ea eb → Unfixed j → admitted j ea eb ≡ true → PairFits j ea eb
  unfolding admitted partnered
  admitted_sound range special free e =
      let F = j.setting.format in
      let k = some_sound 4 (λ k. partnered j (representative F j.a.mask ea k) eb) e in
      let l = some_sound 4 (λ l. together j (representative F j.a.mask ea k.0) (representative F j.b.mask eb l)) k.2 in
      let a = representative F j.a.mask ea k.0 in
      let b = representative F j.b.mask eb l.0 in
      let fa = representative_biased F j.a.mask valid.a.mask ea k.0 range.a_lt k.1 in
      let fb = representative_biased F j.b.mask valid.b.mask eb l.0 range.b_lt l.1 in
      record {
        a = a;
        b = b;
        c = result_in j.setting a b;
        fits =
            together_fits j valid a b
            (representative_lt F j.a.mask valid.a.mask ea k.0 range.a_lt k.1)
            (representative_lt F j.b.mask valid.b.mask eb l.0 range.b_lt l.1)
            (subst₂ (Special F) (sym fa) (sym fb) special) free l.2;
        a_exponent = fa;
        b_exponent = fb;
      }

  pub admitted_complete : Special j.setting.format ea eb → PairFits j ea eb → admitted j ea eb ≡ true
  unfolding admitted partnered
  admitted_complete special p =
      some_complete 4 (λ k. partnered j (representative j.setting.format j.a.mask ea k) eb) (stands_for j.setting.format p.a) (stands_lt j.setting.format p.a)
      (some_complete 4 (λ l. together j (representative j.setting.format j.a.mask ea (stands_for j.setting.format p.a)) (representative j.setting.format j.b.mask eb l))
      (stands_for j.setting.format p.b) (stands_lt j.setting.format p.b) (rw (← p.a_exponent, ← p.b_exponent) both))
    where
      a' : ℕ
      a' = representative j.setting.format j.a.mask (biased j.setting.format p.a) (stands_for j.setting.format p.a)

      b' : ℕ
      b' = representative j.setting.format j.b.mask (biased j.setting.format p.b) (stands_for j.setting.format p.b)

      same : p.c ≡ result_in j.setting a' b'
      same =
          p.fits.right.sum
          ∙ alike_result j.setting.format j.setting.operation j.setting.mode
          (representative_alike j.setting.format j.a.mask valid.a.mask p.a p.fits.satisfies.a_allowed.mask)
          (representative_alike j.setting.format j.b.mask valid.b.mask p.b p.fits.satisfies.b_allowed.mask)
          (fields_special p special)

      both : together j a' b' ≡ true
      both = (together_meets j valid a' b').1 (
        representative_meets j.setting.format j.a.mask valid.a.mask p.a p.fits.satisfies.a_allowed.mask,
        representative_meets j.setting.format j.b.mask valid.b.mask p.b p.fits.satisfies.b_allowed.mask,
        subst (λ (n : ℕ). Meets n j.c.mask) same p.fits.satisfies.c_allowed.mask,
      )

  -- a mask that fixes a carry or a bit below the last is not met
  pub special_unfixed : Special j.setting.format ea eb → PairFits j ea eb → Unfixed j
  special_unfixed special p = record {
    carries = rw (special_row j.setting.format j.setting.operation p.a p.b (fields_special p special)) at p.fits.satisfies.row;
    dropped = rw (special_below j.setting.format j.setting.operation j.dropped.g p.a p.b (fields_special p special)) at p.fits.satisfies.dropped;
  }
