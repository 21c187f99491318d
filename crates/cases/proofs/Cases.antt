-- Every row of the table holds: a test of a row that antt computes, and one law that turns a passed test into the row's claim.
-- Assumes nothing.
use Rattle.generator.specs.Promise as generator
use Rattle.std.specs.Prelude.{Option, Some, None, Result, Ok, Err, is_ok}
use Rattle.format.specs.declared.cause.Cause.{Cause}
use mathlib.Core.Path.{◌≡◌, refl, ap, subst, sym, ◌∙◌}
use mathlib.Core.Bool.{Bool, true, false, ◌&&◌, ◌||◌, and-eq-true_iff, false≢true}
use mathlib.Core.List.Memᴰ
use mathlib.Core.List.{List, [], ◌∷◌, Memᴰ}
use mathlib.Core.Logic.{◌⊎◌, inl, inr, ⊎_elim}
use Prim.Native.Nat.{ℕ, ◌+◌, ◌%◌, ◌^◌, ◌<◌}
use borrow.Author.Tests.{eqb-true, ltb-true}
use lib.Bits.{bit_xor}
use lib.Dec.{eqb, ltb}
use lib.Ieee.{size}
use Rattle.format.specs.Limits.{least_length, most_length, within}
use Rattle.format.specs.Cause.{number, Check, clear, first}
use Rattle.format.specs.Format.{word_bits, format_cause, operation_cause, mode_cause, word_cause}
use Rattle.format.proofs.Laws.{ok_clear, both_none, word_none, within_holds}
use Rattle.mask.specs.Mask.{mask_cause, masks_cause}
use Rattle.choice.specs.Choice.{Farther}
use Rattle.columns.proofs.Some.{or_cases}
use Rattle.job.specs.declared.Job.{Job}
use Rattle.job.specs.Dropped.{dropped_cause}
use Rattle.job.specs.Job.{setting_cause, form_cause, cause_with, job_cause, request_cause}
use Rattle.bounds.specs.Bounds.{rank, ends_cause, bounds_cause}
use Rattle.job.proofs.Laws.{job_none, request_none, taken_words}
use Rattle.word.specs.Word.{significand}
use Rattle.word.specs.Operand.{operand_of}
use Rattle.rounding.specs.Rounding.{direction, increment, round_off, magnitude_word, overflow_word, bounded_word, cancelled_sign}
use Rattle.rounding.specs.Dropped.{with_sticky, dropped_word}
use Rattle.adder.specs.Exact.{exact_magnitude}
use Rattle.adder.specs.Result.{finite_sum, infinite_sum, kind_sum, result_of, result_cause, result_reply}
use Rattle.adder.specs.Row.{gather, finite_row, kind_row, row_of, row_cause, row_reply}
use Rattle.adder.specs.Below.{finite_below, kind_below, below_of}
use Rattle.format.specs.declared.cause.Cause.TheVariants as cause
use Rattle.fit.specs.Fit.{Fits, satisfies, fits, case_cause}
use Rattle.whole.specs.Sum.{addends}
use Rattle.whole.specs.Reply.{Replied}
use Rattle.whole.proofs.Sum.{sum_replied}
use Rattle.cases.specs.Cases.{Carried, row, no_row, unsaid, Claim, sum, below, exactly, found, refused, whole_sum, CarriedIs, Holds, cases}
use Rattle.cases.proofs.Words.{each_word}
use Rattle.cases.proofs.Fitting.{is_case, is_case_lem, each_case, every_case}

-- ---- the test of a row

is_word : Result ℕ Cause → ℕ → Bool
is_word (Ok x) c = eqb x c
is_word (Err n) c = false

is_carried : Carried → Result (Option ℕ) Cause → Bool
is_carried (row n) (Ok (Some m)) = eqb m n
is_carried (row n) (Ok None) = false
is_carried (row n) (Err m) = false
is_carried no_row (Ok (Some m)) = false
is_carried no_row (Ok None) = true
is_carried no_row (Err m) = false
is_carried unsaid r = true

is_row : ℕ → Option ℕ → Bool
is_row n (Some m) = eqb m n
is_row n None = false

is_below : Option ℕ → Option ℕ → Bool
is_below (Some m) (Some n) = eqb m n
is_below (Some m) None = false
is_below None (Some n) = false
is_below None None = true

is_refused : ℕ → Check → Bool
is_refused k (Ok u) = false
is_refused k (Err c) = eqb (number c) k

all_fit : Job → List (ℕ × ℕ × ℕ) → Bool
all_fit j [] = true
all_fit j (t ∷ ts) = is_case j t.0 t.1 t.2 && all_fit j ts

listed : List (ℕ × ℕ × ℕ) → ℕ → ℕ → ℕ → Bool
listed [] a b c = false
listed (t ∷ ts) a b c = (eqb a t.0 && (eqb b t.1 && eqb c t.2)) || listed ts a b c

-- (x, y) is (a, b), or farther from the words r and s
not_closer : ℕ → ℕ → ℕ → ℕ → ℕ → ℕ → Bool
not_closer r s a b x y = ltb (bit_xor a r) (bit_xor x r) || (eqb x a && (eqb y b || ltb (bit_xor b s) (bit_xor y s)))

is_whole : ℕ → ℕ → ℕ → ℕ → ℕ → ℕ → Bool
is_whole n x y c z carries =
    within least_length most_length n && ((ltb x (2 ^ n) && (ltb y (2 ^ n) && ltb c 2)) && (eqb ((x + y + c) % 2 ^ n) z && eqb (bit_xor (bit_xor x y) (x + y + c)) carries))

passes : Claim → Bool
passes (sum F operation mode a b c carried) = is_word (result_reply F operation mode a b) c && is_carried carried (row_reply F operation a b)
passes (below F operation g a b bits) = is_below (below_of F operation g a b) bits
passes (exactly j fitting) = is_ok (job_cause j) && (all_fit j fitting && each_case j (listed fitting))
passes (found j r1 r2 a b c carries) =
    is_ok (request_cause j r1 r2) && ((is_case j a b c && is_row carries (row_of j.setting.format j.setting.operation a b)) && each_case j (λ x y z. not_closer r1 r2 a b x y))
passes (refused j k) = is_refused k (job_cause j) || (is_ok (job_cause j) && (eqb k (number cause.NoCase) && each_case j (λ x y z. false)))
passes (whole_sum n x y carry_in z carries) = is_whole n x y carry_in z carries

every : List Claim → Bool
every [] = true
every (x ∷ xs) = passes x && every xs

-- ---- a row that passes holds

word_is : (r : Result ℕ Cause) (c : ℕ) → is_word r c ≡ true → r ≡ Ok c
unfolding is_word
word_is (Ok x) c e = ap Ok (eqb-true x c e)
word_is (Err n) c e = absurd (false≢true e)

carried_is : (e : Carried) (r : Result (Option ℕ) Cause) → is_carried e r ≡ true → CarriedIs e r
unfolding is_carried
carried_is (row n) (Ok (Some m)) t = ap (λ (k : ℕ). Ok (Some k)) (eqb-true m n t)
carried_is (row n) (Ok None) t = absurd (false≢true t)
carried_is (row n) (Err m) t = absurd (false≢true t)
carried_is no_row (Ok (Some m)) t = absurd (false≢true t)
carried_is no_row (Ok None) t = refl
carried_is no_row (Err m) t = absurd (false≢true t)
carried_is unsaid r t = tt

row_is : (n : ℕ) (r : Option ℕ) → is_row n r ≡ true → Some n ≡ r
unfolding is_row
row_is n (Some m) e = ap Some (sym (eqb-true m n e))
row_is n None e = absurd (false≢true e)

below_is : (r s : Option ℕ) → is_below r s ≡ true → r ≡ s
unfolding is_below
below_is (Some m) (Some n) e = ap Some (eqb-true m n e)
below_is (Some m) None e = absurd (false≢true e)
below_is None (Some n) e = absurd (false≢true e)
below_is None None e = refl

all_fit_lem : (j : Job) (ts : List (ℕ × ℕ × ℕ)) → all_fit j ts ≡ true → (t : ℕ × ℕ × ℕ) → Memᴰ t ts → Fits j t.0 t.1 t.2
unfolding all_fit
all_fit_lem j [] e t m = absurd (Memᴰ.not-nil m)
all_fit_lem j (u ∷ us) e t m =
    let both = (and-eq-true_iff (is_case j u.0 u.1 u.2) (all_fit j us)).0 e in
    ⊎_elim
    (λ (q : t ≡ u). subst (λ (v : ℕ × ℕ × ℕ). Fits j v.0 v.1 v.2) (sym q) (is_case_lem j u.0 u.1 u.2 both.0))
    (λ (n : Memᴰ t us). all_fit_lem j us both.1 t n)
    (Memᴰ.cases_cons m)

is_listed : (ts : List (ℕ × ℕ × ℕ)) (a b c : ℕ) → listed ts a b c ≡ true → Memᴰ (a, b, c) ts
unfolding listed
is_listed [] a b c e = absurd (false≢true e)
is_listed (t ∷ ts) a b c e =
    ⊎_elim
    (λ (s : (eqb a t.0 && (eqb b t.1 && eqb c t.2)) ≡ true).
    let p = (and-eq-true_iff (eqb a t.0) (eqb b t.1 && eqb c t.2)).0 s in
    let q = (and-eq-true_iff (eqb b t.1) (eqb c t.2)).0 p.1 in
    let ea = eqb-true a t.0 p.0 in
    let eb = eqb-true b t.1 q.0 in
    let ec = eqb-true c t.2 q.1 in
    Memᴰ.head (λ i. (ea i, eb i, ec i)))
    (λ (s : listed ts a b c ≡ true). Memᴰ.tail (is_listed ts a b c s))
    (or_cases (eqb a t.0 && (eqb b t.1 && eqb c t.2)) (listed ts a b c) e)

not_closer_lem : (r s a b x y : ℕ) → not_closer r s a b x y ≡ true → Farther r a x ((y ≡ b) ⊎ (bit_xor b s < bit_xor y s))
unfolding not_closer
not_closer_lem r s a b x y e =
    let rest = eqb y b || ltb (bit_xor b s) (bit_xor y s) in
    ⊎_elim
    (λ h. inl (ltb-true (bit_xor a r) (bit_xor x r) h))
    (λ h.
    let p = (and-eq-true_iff (eqb x a) rest).0 h in
    inr (
      eqb-true x a p.0,
      ⊎_elim (λ u. inl (eqb-true y b u)) (λ u. inr (ltb-true (bit_xor b s) (bit_xor y s) u)) (or_cases (eqb y b) (ltb (bit_xor b s) (bit_xor y s)) p.1),
    ))
    (or_cases (ltb (bit_xor a r) (bit_xor x r)) (eqb x a && rest) e)

whole_is : (n x y c z carries : ℕ) → is_whole n x y c z carries ≡ true → Holds (whole_sum n x y c z carries)
unfolding is_whole
whole_is n x y c z carries e w wx wy wz =
    let p = (and-eq-true_iff (within least_length most_length n) ((ltb x (2 ^ n) && (ltb y (2 ^ n) && ltb c 2)) && (eqb ((x + y + c) % 2 ^ n) z && eqb (bit_xor (bit_xor x y) (x + y + c)) carries))).0 e in
    let q = (and-eq-true_iff (ltb x (2 ^ n) && (ltb y (2 ^ n) && ltb c 2)) (eqb ((x + y + c) % 2 ^ n) z && eqb (bit_xor (bit_xor x y) (x + y + c)) carries)).0 p.1 in
    let small = (and-eq-true_iff (ltb x (2 ^ n)) (ltb y (2 ^ n) && ltb c 2)).0 q.0 in
    let small' = (and-eq-true_iff (ltb y (2 ^ n)) (ltb c 2)).0 small.1 in
    let sums = (and-eq-true_iff (eqb ((x + y + c) % 2 ^ n) z) (eqb (bit_xor (bit_xor x y) (x + y + c)) carries)).0 q.1 in
    let length = (within_holds least_length most_length n).0 p.0 in
    subst (λ (k : ℕ). Replied (record { length = n; masks = addends n x y c; words = w }) (Ok (record { x = x; y = y; z = z; carries = k })))
    (eqb-true (bit_xor (bit_xor x y) (x + y + c)) carries sums.1)
    (subst
    (λ (k : ℕ). Replied (record { length = n; masks = addends n x y c; words = w }) (Ok (record { x = x; y = y; z = k; carries = bit_xor (bit_xor x y) (x + y + c) })))
    (eqb-true ((x + y + c) % 2 ^ n) z sums.0)
    (sum_replied n x y c length.0 (ltb-true x (2 ^ n) small.0) (ltb-true y (2 ^ n) small'.0) (ltb-true c 2 small'.1) length.1 w wx wy wz))

found_is : (j : Job) (r1 r2 a b c carries : ℕ) → passes (found j r1 r2 a b c carries) ≡ true → Holds (found j r1 r2 a b c carries)
unfolding passes
found_is j r1 r2 a b c carries e =
    let test : ℕ → ℕ → ℕ → Bool = λ x y z. not_closer r1 r2 a b x y in
    let row_of = row_of j.setting.format j.setting.operation a b in
    let p = (and-eq-true_iff (is_ok (request_cause j r1 r2)) ((is_case j a b c && is_row carries row_of) && each_case j test)).0 e in
    let q = (and-eq-true_iff (is_case j a b c && is_row carries row_of) (each_case j test)).0 p.1 in
    let s = (and-eq-true_iff (is_case j a b c) (is_row carries row_of)).0 q.0 in
    let none : request_cause j r1 r2 ≡ clear = ok_clear p.0 in
    let fit = is_case_lem j a b c s.0 in (
      none,
      record {
        fits = fit;
        row = row_is carries row_of s.1;
        closest = record {
          member = (c, fit);
          least = λ x y m. not_closer_lem r1 r2 a b x y (every_case j test ((request_none j r1 r2).0 none).valid q.1 x y m.0 m.1);
        };
      },
    )

-- a cause against the job is the one that is named
caused_is : (j : Job) (k : ℕ) → is_refused k (job_cause j) ≡ true → Holds (refused j k)
unfolding request_cause is_refused
caused_is j k e r1 r2 h1 h2 = by (job_cause j) refl e
  where
    named : request_cause j r1 r2 ≡ job_cause j
    named =
        let width = word_bits j.setting.format in
        taken_words j (first (word_cause width r1) (word_cause width r2)) ((both_none _ _ (word_none width r1) (word_none width r2)).1 (h1, h2))

    by : (r : Check) → job_cause j ≡ r → is_refused k r ≡ true → (c : Cause) × (number c ≡ k) × generator.Replied j r1 r2 (Err c)
    by (Ok u) is t = absurd (false≢true t)
    by (Err c) is t = (c, eqb-true (number c) k t, inl (named ∙ is))

no_case_is : (j : Job) (k : ℕ) → (is_ok (job_cause j) && (eqb k (number cause.NoCase) && each_case j (λ x y z. false))) ≡ true → Holds (refused j k)
no_case_is j k e r1 r2 h1 h2 =
    let test : ℕ → ℕ → ℕ → Bool = λ x y z. false in
    let p = (and-eq-true_iff (is_ok (job_cause j)) (eqb k (number cause.NoCase) && each_case j test)).0 e in
    let q = (and-eq-true_iff (eqb k (number cause.NoCase)) (each_case j test)).0 p.1 in
    let valid = (job_none j).0 (ok_clear p.0) in (
      cause.NoCase,
      sym (eqb-true k (number cause.NoCase) q.0),
      inr (
        record {
          taken = (request_none j r1 r2).1 (record { valid = valid; first_word = h1; second_word = h2 });
          none = λ a b c f. false≢true (every_case j test valid q.1 a b c f);
        },
        refl,
      ),
    )

refused_is : (j : Job) (k : ℕ) → passes (refused j k) ≡ true → Holds (refused j k)
unfolding passes
refused_is j k e =
    ⊎_elim (caused_is j k) (no_case_is j k)
    (or_cases (is_refused k (job_cause j)) (is_ok (job_cause j) && (eqb k (number cause.NoCase) && each_case j (λ x y z. false))) e)

passes_holds : (x : Claim) → passes x ≡ true → Holds x
unfolding passes
passes_holds (sum F operation mode a b c carried) e =
    let both = (and-eq-true_iff (is_word (result_reply F operation mode a b) c) (is_carried carried (row_reply F operation a b))).0 e in
    (word_is (result_reply F operation mode a b) c both.0, carried_is carried (row_reply F operation a b) both.1)
passes_holds (below F operation g a b bits) e = below_is (below_of F operation g a b) bits e
passes_holds (exactly j fitting) e =
    let p = (and-eq-true_iff (is_ok (job_cause j)) (all_fit j fitting && each_case j (listed fitting))).0 e in
    let q = (and-eq-true_iff (all_fit j fitting) (each_case j (listed fitting))).0 p.1 in
    let none : job_cause j ≡ clear = ok_clear p.0 in (
      none,
      λ a b c. (
        λ f. is_listed fitting a b c (every_case j (listed fitting) ((job_none j).0 none) q.1 a b c f),
        λ m. all_fit_lem j fitting q.0 (a, b, c) m,
      ),
    )
passes_holds (found j r1 r2 a b c carries) e = found_is j r1 r2 a b c carries e
passes_holds (refused j k) e = refused_is j k e
passes_holds (whole_sum n x y carry_in z carries) e = whole_is n x y carry_in z carries e

every_holds : (xs : List Claim) → every xs ≡ true → (x : Claim) → Memᴰ x xs → Holds x
unfolding every
every_holds [] t x m = absurd (Memᴰ.not-nil m)
every_holds (y ∷ ys) t x m =
    let both = (and-eq-true_iff (passes y) (every ys)).0 t in
    ⊎_elim
    (λ (e : x ≡ y). subst Holds (sym e) (passes_holds y both.0))
    (λ (n : Memᴰ x ys). every_holds ys both.1 x n)
    (Memᴰ.cases_cons m)

-- ---- the table

pub cases_hold : (x : Claim) → Memᴰ x cases → Holds x
unfolding every passes is_refused number is_word is_carried is_row is_below all_fit listed not_closer is_whole is_case each_case each_word fits satisfies case_cause cause_with form_cause setting_cause request_cause masks_cause mask_cause dropped_cause ends_cause bounds_cause rank format_cause operation_cause mode_cause word_cause result_cause row_cause size significand operand_of direction increment round_off magnitude_word overflow_word bounded_word cancelled_sign finite_sum infinite_sum kind_sum result_of gather finite_row kind_row row_of with_sticky dropped_word exact_magnitude finite_below kind_below below_of
cases_hold = every_holds cases refl
