-- What the definition of the listing amounts to: a file has one listing; every line brings it nearer to its end; and the file that is
-- written of some entries lists as the replies to them, line by line. Assumes nothing.
use Rattle.format.specs.Cause.{number, clear}
use Rattle.format.proofs.Laws.{err_ok}
use Rattle.generator.specs.declared.Case.{Case}
use Rattle.std.specs.Prelude.{Option, Some, None, Result, Ok, Err}
use Rattle.format.specs.declared.cause.Cause.{Cause}
use mathlib.Core.Path.{◌≡◌, refl, sym, ap, ap₂, ◌∙◌, subst}
use mathlib.Core.Bool.{Bool, true, false, cond, false≢true}
use mathlib.Core.Logic.{inl, inr}
use Prim.Native.Nat.{ℕ, ◌+◌, ◌-◌, ◌*◌, ◌≤◌, ◌<◌}
use native.Mathlib.Omega.{arith}
use mathlib.Core.List.{List, ◌++◌}
use lib.ListN.{length, drop, length-drop}
use lib.Seq.{drop-drop}
use Rattle.job.specs.declared.Job.{Job}
use Rattle.job.specs.Job.{request_cause}
use Rattle.records.specs.Record.{First, first_in, record_cause, record_length}
use Rattle.records.specs.File.{file_bytes, normalised_entries, Reads, end as no_byte, next as record_first, Writable, none as no_entry, more as entry_first}
use Rattle.layout.specs.declared.Entry.{Entry}
use Rattle.records.proofs.Causes.{job_same, first_job, first_none_left}
use Rattle.records.proofs.Files.{file_read}
use Rattle.generator.specs.Promise.{Replied}
use Rattle.generator.proofs.Replies.{reply_unique}
use Rattle.generator.proofs.Normalised.{normalised_replied}
use Rattle.lines.specs.Text.{reply_line, refused_line}
use Rattle.lines.specs.Listing.{longest, stops, Reading, Ended, Lists, long, end, refused, answered, Listed, last, more, Listing, Lines, none, next}
use Rattle.lines.specs.declared.Place.{Place}

-- ---- every line brings the listing nearer to its end

-- what a listing has left at most: two lines for a byte that is not read, and the end
abbrev pub left : List ℕ → Place → ℕ
left s p = 2 * (length s - p.at) + cond p.stopped 0 1

-- a job's record has four bytes at least, and lies in the file
pub job_within : (s : List ℕ) (at : ℕ) (e : Entry) (n : ℕ) → first_in (drop at s) ≡ Ok (Some (e, n)) → (4 ≤ n) × (at + n ≤ length s)
unfolding record_length
job_within s at e n q =
    let t = first_job (drop at s) e n q in
    let some : 4 ≤ n = omega (arith, t.count) in
    (some, omega (arith, some, t.count, t.readable.whole, length-drop at s))

flag : (b : Bool) → cond b 0 1 ≤ 1
flag true = omega arith
flag false = omega arith

going_on : (b : Bool) → b ≡ false → ◌≡◌ {A = ℕ} (cond b 0 1) 1
going_on true q = absurd (false≢true (sym q))
going_on false q = refl

pub lists_less : {s : List ℕ} {p q : Place} {t : List ℕ} → Lists s p t (Some q) → left s q < left s p
lists_less {s} {p} (refused short on at) =
    let one = going_on p.stopped on.reading in
    omega (arith, one)
lists_less {s} {p} (answered {e} {n} r short on at replied) =
    let w = job_within s p.at e n at in
    let one = flag (stops r) in
    omega (arith, w.0, w.1, one)

-- ---- a file has one listing

-- where a record is to be read, the end comes only with the last byte
ended : (s : List ℕ) (p : Place) → Reading p → Ended s p → first_in (drop p.at s) ≡ Ok None
ended s p on (inl stopped) = absurd (false≢true (sym on.reading ∙ stopped))
ended s p on (inr (inl many)) = absurd (omega (arith, many, on.most))
ended s p on (inr (inr none_left)) = none_left

pub lists_unique : {s : List ℕ} {p : Place} {t u : List ℕ} {x y : Option Place} → Lists s p t x → Lists s p u y → (t ≡ u) × (x ≡ y)
lists_unique (long h) (long g) = (refl, refl)
lists_unique (long h) (end short e) = absurd (omega (arith, h, short))
lists_unique (long h) (refused short on q) = absurd (omega (arith, h, short))
lists_unique (long h) (answered r short on q replied) = absurd (omega (arith, h, short))
lists_unique (end short e) (long g) = absurd (omega (arith, g, short))
lists_unique (end short e) (end short₂ f) = (refl, refl)
lists_unique {s} {p} (end short e) (refused {k} short₂ on q) =
    let both : ◌≡◌ {A = First} (Ok None) (Err k) = sym (ended s p on e) ∙ q in
    absurd (let z : ◌≡◌ {A = ℕ} 0 1 = cc in omega arith)
lists_unique {s} {p} (end short e) (answered {e = d} {n} r short₂ on q replied) =
    let both : ◌≡◌ {A = First} (Ok None) (Ok (Some (d, n))) = sym (ended s p on e) ∙ q in
    absurd (let z : ◌≡◌ {A = ℕ} 0 1 = cc in omega arith)
lists_unique (refused short on q) (long g) = absurd (omega (arith, g, short))
lists_unique {s} {p} (refused {k} short on q) (end short₂ e) =
    let both : ◌≡◌ {A = First} (Ok None) (Err k) = sym (ended s p on e) ∙ q in
    absurd (let z : ◌≡◌ {A = ℕ} 0 1 = cc in omega arith)
lists_unique {s} {p} (refused {k} short on q) (refused {k = l} short₂ on₂ q₂) =
    let both : ◌≡◌ {A = First} (Err k) (Err l) = sym q ∙ q₂ in
    let same : k ≡ l = cc in
    (ap (λ (m : Cause). refused_line (p.lines + 1) (number m)) same, refl)
lists_unique (refused {k} short on q) (answered {e} {n} r short₂ on₂ q₂ replied) =
    let both : ◌≡◌ {A = First} (Err k) (Ok (Some (e, n))) = sym q ∙ q₂ in
    absurd (let z : ◌≡◌ {A = ℕ} 0 1 = cc in omega arith)
lists_unique (answered r short on q replied) (long g) = absurd (omega (arith, g, short))
lists_unique {s} {p} (answered {e} {n} r short on q replied) (end short₂ f) =
    let both : ◌≡◌ {A = First} (Ok None) (Ok (Some (e, n))) = sym (ended s p on f) ∙ q in
    absurd (let z : ◌≡◌ {A = ℕ} 0 1 = cc in omega arith)
lists_unique (answered {e} {n} r short on q replied) (refused {k} short₂ on₂ q₂) =
    let both : ◌≡◌ {A = First} (Err k) (Ok (Some (e, n))) = sym q₂ ∙ q in
    absurd (let z : ◌≡◌ {A = ℕ} 0 1 = cc in omega arith)
lists_unique {s} {p} (answered {e} {n} r short on q replied) (answered {e = d} {n = m} r₂ short₂ on₂ q₂ replied₂) =
    let both = job_same (sym q ∙ q₂) in
    let same_entry : e ≡ d = both.0 in
    let same_length : n ≡ m = both.1 in
    let same : r ≡ r₂ = reply_unique e.job e.r1 e.r2 r r₂ replied (subst (λ (x : Entry). Replied x.job x.r1 x.r2 r₂) (sym same_entry) replied₂) in (
      ap₂ (λ (d : Entry) (x : Result Case Cause). reply_line d.job.setting.format (p.lines + 1) x) same_entry same,
      ap₂ (λ (i : ℕ) (x : Result Case Cause). Some (record { at = p.at + i; lines = p.lines + 1; stopped = stops x })) same_length same,
    )

-- by induction, line by line
pub listed_unique : {s : List ℕ} {p : Place} {t u : List ℕ} → Listed s p t → Listed s p u → t ≡ u
listed_unique (last a) (last b) = (lists_unique a b).0
listed_unique (last a) (more {q} b rest) = let both : None ≡ Some q = (lists_unique a b).1 in absurd (let z : ◌≡◌ {A = ℕ} 0 1 = cc in omega arith)
listed_unique (more {q} a rest) (last b) = let both : None ≡ Some q = sym (lists_unique a b).1 in absurd (let z : ◌≡◌ {A = ℕ} 0 1 = cc in omega arith)
listed_unique {s} (more {q = q} {u = u} a rest) (more {q = q₂} {u = v} b rest₂) =
    let both : Some q ≡ Some q₂ = (lists_unique a b).1 in
    let same : q ≡ q₂ = cc in
    ap₂ ◌++◌ (lists_unique a b).0 (listed_unique rest (subst (λ (x : Place). Listed s x v) (sym same) rest₂))

-- ---- written files

-- a job that was read is refused for no other cause than 7
pub stops_none : (j : Job) (r1 r2 : ℕ) (r : Result Case Cause) → request_cause j r1 r2 ≡ clear → Replied j r1 r2 r → stops r ≡ false
stops_none j r1 r2 (Ok x) ok p = refl
stops_none j r1 r2 (Err k) ok (inl p) = absurd (err_ok (sym p ∙ ok))
stops_none j r1 r2 (Err k) ok (inr p) = ap (λ (m : Cause). stops (Err m)) p.1

read_taken : (s : List ℕ) (e : Entry) (n : ℕ) → first_in s ≡ Ok (Some (e, n)) → request_cause e.job e.r1 e.r2 ≡ clear
read_taken s e n q = let t = first_job s e n q in ap record_cause (sym t.entry) ∙ t.readable.sound

reads_listed : (s u : List ℕ) (at n : ℕ) {es : List Entry} {t : List ℕ} → length s ≤ longest → n ≤ at → at ≤ length s → u ≡ drop at s → Reads u es → Lines n es t
    → Listed s (record { at = at; lines = n; stopped = false }) t
reads_listed s u at n short few within is no_byte none = last (end short (inr (inr (first_none_left (drop at s) (ap length (sym is))))))
reads_listed s u at n short few within is (record_first {e = e} {n = k} {es = es} q rest) (next {t = t} r replied lines) =
    let job : first_in (drop at s) ≡ Ok (Some (e, k)) = ap first_in (sym is) ∙ q in
    let w = job_within s at e k job in
    let going : stops r ≡ false = stops_none e.job e.r1 e.r2 r (read_taken u e k q) replied in
    let after : Listed s (record { at = at + k; lines = n + 1; stopped = false }) t =
    reads_listed s (drop k u) (at + k) (n + 1) short (omega (arith, few, w.0)) w.1 (ap (drop k) is ∙ drop-drop k at s) rest lines in
    let place : Reading (record { at = at; lines = n; stopped = false }) = record { reading = refl; most = omega (arith, few, within, short) } in
    more (answered r short place job replied)
    (subst (λ (b : Bool). Listed s (record { at = at + k; lines = n + 1; stopped = b }) t) (sym going) after)

-- entries have the lines of the same with g taken as 0 where no dropped bit is fixed, as they are read
normalised_lines : {n : ℕ} {es : List Entry} {t : List ℕ} → Writable es → Lines n es t → Lines n (normalised_entries es) t
unfolding normalised_entries
normalised_lines {n = n} no_entry none = none
normalised_lines {n = n} (entry_first {e = e} ok rest) (next r replied lines) =
    next r ((normalised_replied e.job e.r1 e.r2 r ok).0 replied) (normalised_lines {n = n + 1} rest lines)

-- entries that are written list as the replies to them
pub file_listed : {es : List Entry} {t : List ℕ} → Writable es → length (file_bytes es) ≤ longest → Lines 0 es t → Listing (file_bytes es) t
file_listed {es} ok short lines =
    reads_listed (file_bytes es) (file_bytes es) 0 0 short (omega arith) (omega arith) refl (file_read ok) (normalised_lines ok lines)
