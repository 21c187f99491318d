-- A test of one case of a job, and one of every case that fits: a runs over the words that meet its mask, b over those that meet its own,
-- and c is the rounded result. Assumes nothing.
use Rattle.std.specs.Prelude.{is_ok}
use Rattle.format.proofs.Laws.{ok_clear}
use mathlib.Core.Path.{◌≡◌, sym, subst}
use mathlib.Core.Bool.{Bool, true, ◌&&◌, and-eq-true_iff}
use Prim.Native.Nat.{ℕ}
use Rattle.format.specs.Format.{word_bits}
use Rattle.job.specs.declared.Job.{Job}
use Rattle.job.specs.Job.{Valid}
use Rattle.adder.specs.Result.{result_of}
use Rattle.fit.specs.Fit.{Fits, fits, case_cause}
use Rattle.fit.proofs.Laws.{fits_true, case_none}
use Rattle.cases.proofs.Words.{implies, implies_elim, each_word, every_word}

-- the rounded result of a job's a and b
abbrev pub result_at : Job → ℕ → ℕ → ℕ
result_at j a b = result_of j.setting.format j.setting.operation j.setting.mode a b

unfoldable pub is_case : Job → ℕ → ℕ → ℕ → Bool
is_case j a b c = is_ok (case_cause j a b c) && fits j a b c

pub is_case_lem : (j : Job) (a b c : ℕ) → is_case j a b c ≡ true → Fits j a b c
unfolding is_case
is_case_lem j a b c e =
    let both = (and-eq-true_iff (is_ok (case_cause j a b c)) (fits j a b c)).0 e in
    (fits_true j a b c ((case_none j a b c).0 (ok_clear both.0)).1).0 both.1

unfoldable pub each_case : Job → (ℕ → ℕ → ℕ → Bool) → Bool
each_case j test =
    each_word j.a.mask (word_bits j.setting.format) (λ a. each_word j.b.mask (word_bits j.setting.format) (λ b. implies (fits j a b (result_at j a b)) (test a b (result_at j a b))))

pub every_case : (j : Job) (test : ℕ → ℕ → ℕ → Bool) → Valid j → each_case j test ≡ true → (a b c : ℕ) → Fits j a b c → test a b c ≡ true
unfolding each_case
every_case j test valid e a b c f =
    let width = word_bits j.setting.format in
    let inner : ℕ → ℕ → Bool = λ a b. implies (fits j a b (result_at j a b)) (test a b (result_at j a b)) in
    let at_a = every_word j.a.mask width (λ a. each_word j.b.mask width (inner a)) valid.a.mask e a f.right.a_word f.satisfies.a_allowed.mask in
    let at_b : inner a b ≡ true = every_word j.b.mask width (inner a) valid.b.mask at_a b f.right.b_word f.satisfies.b_allowed.mask in
    let fit : fits j a b c ≡ true = (fits_true j a b c (record { a_word = f.right.a_word; b_word = f.right.b_word; c_word = f.right.c_word })).1 f in
    let at_c : implies (fits j a b c) (test a b c) ≡ true = subst (λ (u : ℕ). implies (fits j a b u) (test a b u) ≡ true) (sym f.right.sum) at_b in
    implies_elim (fits j a b c) (test a b c) at_c fit
