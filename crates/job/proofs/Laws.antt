-- What it means that no cause stands against a setting, a job, and a job and two random words. Assumes nothing.
use mathlib.Core.Path.{◌≡◌, refl, sym, ap, ◌∙◌}
use mathlib.Core.Logic.{◌↔◌}
use Prim.Native.Nat.{ℕ}
use Rattle.format.specs.Cause.{Check, clear, first}
use Rattle.format.specs.Format.{Supported, word_bits, precision}
use Rattle.format.proofs.Laws.{first_none, both_none, first_some, format_none, operation_none, mode_none, word_none}
use Rattle.mask.specs.Mask.{WellFormed}
use Rattle.mask.proofs.Checks.{masks_none}
use Rattle.bounds.specs.Bounds.{ends_cause, bounds_cause}
use Rattle.bounds.proofs.Laws.{bounds_none}
use Rattle.job.specs.declared.Setting.{Setting}
use Rattle.job.specs.declared.Job.{Job}
use Rattle.job.proofs.DroppedLaws.{dropped_none, normalised_valid}
use Rattle.job.specs.Dropped.{ValidDropped, normalised_job}
use Rattle.job.specs.Job.{setting_cause, job_ends_cause, job_bounds_cause, form_cause, cause_with, job_cause, ValidSetting, Valid, request_cause, Request}

-- the part of a valid job that is tested before any word
record FormedJob (j : Job) : Type 0 where
  setting : ValidSetting j.setting
  a : WellFormed (word_bits j.setting.format) j.a.mask
  b : WellFormed (word_bits j.setting.format) j.b.mask
  c : WellFormed (word_bits j.setting.format) j.c.mask
  carries : WellFormed (precision j.setting.format) j.carries
  dropped : ValidDropped j.dropped

pub setting_none : (S : Setting) → (setting_cause S ≡ clear) ↔ ValidSetting S
unfolding setting_cause
setting_none S =
    let law = both_none _ _ (format_none S.format) (both_none _ _ (operation_none S.operation) (mode_none S.mode)) in (
      (λ e. let v = law.0 e in record { format = v.0; operation = v.1.0; mode = v.1.1 }),
      λ v. law.1 (v.format, (v.operation, v.mode)),
    )

-- where no cause stands against the form of a job, its setting is valid and its masks are well formed
form_none : (j : Job) → (form_cause j ≡ clear) ↔ FormedJob j
unfolding form_cause
form_none j =
    let F = j.setting.format in
    let masks = masks_none (word_bits F) (precision F) j.a.mask j.b.mask j.c.mask j.carries in
    let law = both_none _ _ (setting_none j.setting) (both_none _ _ masks (dropped_none j.dropped)) in (
      (λ e.
          let v = law.0 e in
          let m = v.1.0 in
          record { setting = v.0; a = m.0; b = m.1.0; c = m.1.1.0; carries = m.1.1.1; dropped = v.1.1 }),
      λ v. law.1 (v.setting, ((v.a, (v.b, (v.c, v.carries))), v.dropped)),
    )

pub form_supported : (j : Job) → form_cause j ≡ clear → Supported j.setting.format
form_supported j e = ((form_none j).0 e).setting.format

-- a job is valid, and words that come with it are taken, exactly where no cause stands against both
pub with_none : {P : Type 0} (j : Job) (words : Check) → (words ≡ clear) ↔ P → (cause_with j words ≡ clear) ↔ (Valid j × P)
unfolding cause_with
with_none j words taken =
    let F = j.setting.format in
    let a = bounds_none F j.a.bounds in
    let b = bounds_none F j.b.bounds in
    let c = bounds_none F j.c.bounds in
    let ends = three (ends_cause F j.a.bounds) (ends_cause F j.b.bounds) (ends_cause F j.c.bounds) in
    let order = three (bounds_cause F j.a.bounds) (bounds_cause F j.b.bounds) (bounds_cause F j.c.bounds) in
    let law = both_none _ _ (form_none j) (both_none _ _ ends (both_none _ _ taken order)) in (
      (λ e.
          let v = law.0 e in
          let n = v.1.0 in
          let o = v.1.1.1 in (
            record {
              setting = v.0.setting;
              a = record { mask = v.0.a; bounds = a.0 (n.0, o.0) };
              b = record { mask = v.0.b; bounds = b.0 (n.1.0, o.1.0) };
              c = record { mask = v.0.c; bounds = c.0 (n.1.1, o.1.1) };
              carries = v.0.carries;
              dropped = v.0.dropped;
            },
            v.1.1.0,
          )),
      λ h.
          let v = h.0 in
          let p = a.1 v.a.bounds in
          let q = b.1 v.b.bounds in
          let r = c.1 v.c.bounds in
          law.1 (
            record { setting = v.setting; a = v.a.mask; b = v.b.mask; c = v.c.mask; carries = v.carries; dropped = v.dropped },
            ((p.0, (q.0, r.0)), (h.1, (p.1, (q.1, r.1)))),
          ),
    )
  where
    three : (x y z : Check) → (first x (first y z) ≡ clear) ↔ ((x ≡ clear) × ((y ≡ clear) × (z ≡ clear)))
    three x y z = both_none x (first y z) (λ e. e, λ e. e) (first_none y z)

pub job_none : (j : Job) → (job_cause j ≡ clear) ↔ Valid j
job_none j = let law = with_none {P = Prim.Unit {0}} j clear (λ e. tt, λ t. refl) in (λ e. (law.0 e).0, λ v. law.1 (v, tt))

-- in a format that is refused the job is too, and what is tested after it does not count
pub form_first : (j : Job) (m n : Check) → (Supported j.setting.format → ⊥) → cause_with j m ≡ cause_with j n
unfolding cause_with
form_first j m n h =
    first_some (form_cause j) (rest m) refused ∙ sym (first_some (form_cause j) (rest n) refused)
  where
    refused : form_cause j ≡ clear → ⊥
    refused e = h (form_supported j e)

    rest : Check → Check
    rest k = first (job_ends_cause j) (first k (job_bounds_cause j))

-- words that are taken do not count
pub taken_words : (j : Job) (n : Check) → n ≡ clear → cause_with j n ≡ job_cause j
taken_words j n e = ap (cause_with j) e

pub request_none : (j : Job) (r1 r2 : ℕ) → (request_cause j r1 r2 ≡ clear) ↔ Request j r1 r2
unfolding request_cause
request_none j r1 r2 =
    let width = word_bits j.setting.format in
    let law = with_none j _ (both_none _ _ (word_none width r1) (word_none width r2)) in (
      (λ e. let p = law.0 e in record { valid = p.0; first_word = p.1.0; second_word = p.1.1 }),
      λ h. law.1 (h.valid, (h.first_word, h.second_word)),
    )

-- a job that no cause stands against has none with its g taken as 0 where no dropped bit is fixed
pub normalised_request : (j : Job) (r1 r2 : ℕ) → Request j r1 r2 → Request (normalised_job j) r1 r2
normalised_request j r1 r2 q =
    let v = q.valid in
    record {
      valid = record { setting = v.setting; a = v.a; b = v.b; c = v.c; carries = v.carries; dropped = normalised_valid j.dropped v.dropped };
      first_word = q.first_word;
      second_word = q.second_word;
    }
