-- What it means that no cause stands against an entry: the job is valid and the random words have their width, so every number fits its
-- byte count. And what a reply of reading says of the bytes. Assumes nothing.
use Rattle.bounds.specs.declared.Ends.{Ends}
use Rattle.std.specs.Prelude.{Option, Some, None, Ok, Err}
use mathlib.Core.Path.{◌≡◌, refl, ap, ap₂, ◌∙◌}
use mathlib.Core.Logic.{◌↔◌}
use mathlib.Core.Bool.{Bool, false, not}
use Prim.Native.Nat.{ℕ, ◌+◌, ◌*◌, ◌^◌, ◌≤◌, ◌<◌}
use native.Mathlib.Nat.{lt_of_lt_of_le}
use native.Mathlib.Omega.{arith}
use borrow.Author.Tests.{ltb-true, leb-true, lt-ltb, le-leb, not-true}
use mathlib.Core.List.{List, [], ◌∷◌}
use lib.ListN.{length}
use lib.Dec.{leb, ltb}
use lib.Pow.{pow_mono, pow_pos}
use Rattle.format.specs.declared.cause.Cause.{Cause}
use Rattle.format.specs.declared.cause.Cause.TheVariants as cause
use Rattle.format.specs.Cause.{Check, clear, unless, first}
use Rattle.format.specs.Format.{word_bits, precision, Supported}
use Rattle.format.specs.declared.Format.{Format}
use Rattle.format.proofs.Laws.{first_none, both_none, unless_none}
use Rattle.format.proofs.Room.{word_room}
use Rattle.mask.specs.declared.Mask.{Mask}
use Rattle.mask.specs.Mask.{WellFormed}
use Rattle.mask.proofs.ByBits.{value_below}
use Rattle.bounds.specs.Bounds.{ValidBounds}
use Rattle.job.specs.declared.Dropped.{Dropped}
use Rattle.job.specs.Dropped.{ValidDropped}
use Rattle.job.specs.Job.{Request}
use Rattle.job.proofs.Laws.{request_none, normalised_request}
use Rattle.numbers.specs.Numbers.{number_bytes}
use Rattle.layout.specs.Fields.{word_bytes, map_width, with_default, layout, ends_of, field_numbers, normalised_entry, entry_numbers, field_sizes, entry_word, entry_map, says_absence}
use Rattle.records.specs.Record.{record_cause, record_bytes, map_in, record_length, entry_in, read_cause, First, read_reply, format_in, first_with, first_in}
use Rattle.layout.specs.declared.Entry.{Entry}
use Rattle.numbers.proofs.BySizes.{Fits, none, more, length_bytes}
use Rattle.layout.proofs.ByMap.{counts, fits_map}
use Rattle.layout.proofs.JobLayout.{by_width, total_most}
use Rattle.layout.proofs.Maps.{entry_map_absent}
use Rattle.records.proofs.Headers.{length_headed}

-- ---- every number fits its byte count

-- a word of a supported format
word_fits : (F : Format) → Supported F → (width x : ℕ) → width ≤ word_bits F → x < 2 ^ width → x < 256 ^ word_bytes F
word_fits F h width x le lt =
    by_width (λ (k : ℕ). x < 256 ^ k) F
    (λ narrow. lt_of_lt_of_le lt (pow_mono {i = width} {j = 8 * 4} (omega (arith, le, narrow))))
    (λ wide. lt_of_lt_of_le lt (pow_mono {i = width} {j = 8 * 8} (omega (arith, le, word_room F h))))

-- the two numbers of a mask, before others
mask_fits : (F : Format) → Supported F → (width : ℕ) (m : Mask) → width ≤ word_bits F → WellFormed width m
    → {ks ns : List ℕ} → Fits ks ns → Fits (word_bytes F ∷ word_bytes F ∷ ks) (m.care ∷ m.value ∷ ns)
mask_fits F h width m le w f =
    more (word_fits F h width m.care le w.below) (more (word_fits F h width m.value le (value_below width m w)) f)

-- what is wanted of the dropped bits, before others
dropped_fits : (D : Dropped) → ValidDropped D → {ks ns : List ℕ} → Fits ks ns → Fits (1 ∷ 2 ∷ 2 ∷ ks) (D.g ∷ D.mask.care ∷ D.mask.value ∷ ns)
dropped_fits D v f =
    let most = pow_mono {i = D.g + 1} {j = 9} (omega (arith, v.g_most)) in
    more {k = 1} {n = D.g} (omega (arith, v.g_most))
    (more {k = 2} {n = D.mask.care} (omega (arith, v.mask.below, most))
    (more {k = 2} {n = D.mask.value} (omega (arith, value_below (D.g + 1) D.mask v.mask, most)) f))

-- bounds, before others
bounds_fit : (F : Format) → Supported F → (B : Option Ends) → ValidBounds F B → {ks ns : List ℕ} → Fits ks ns
    → Fits (word_bytes F ∷ word_bytes F ∷ ks) ((ends_of B).low ∷ (ends_of B).high ∷ ns)
bounds_fit F h None v f =
    let zero : 0 < 256 ^ word_bytes F = word_fits F h (word_bits F) 0 (omega arith) (pow_pos (word_bits F)) in
    more {n = 0} zero (more {n = 0} zero f)
bounds_fit F h (Some e) v f =
    more (word_fits F h (word_bits F) e.low (omega arith) v.low_word) (more (word_fits F h (word_bits F) e.high (omega arith) v.high_word) f)

fields_fit : (e : Entry) → Request e.job e.r1 e.r2 → Fits (counts (layout (entry_word e))) (field_numbers e)
unfolding layout with_default
fields_fit e v =
    let F : Format = e.job.setting.format in
    let h : Supported F = v.valid.setting.format in
    let W : ℕ = word_bits F in
    mask_fits F h W e.job.a.mask (omega arith) v.valid.a.mask
    (mask_fits F h W e.job.b.mask (omega arith) v.valid.b.mask
    (mask_fits F h W e.job.c.mask (omega arith) v.valid.c.mask
    (mask_fits F h (precision F) e.job.carries (omega arith) v.valid.carries
    (more {k = 1} {n = e.job.setting.mode} (omega (arith, v.valid.setting.mode))
    (more (word_fits F h W e.r1 (omega arith) v.first_word)
    (more (word_fits F h W e.r2 (omega arith) v.second_word)
    (dropped_fits e.job.dropped v.valid.dropped
    (bounds_fit F h e.job.a.bounds v.valid.a.bounds
    (bounds_fit F h e.job.b.bounds v.valid.b.bounds (bounds_fit F h e.job.c.bounds v.valid.c.bounds none))))))))))

pub entry_fits : (e : Entry) → Request e.job e.r1 e.r2 → Fits (counts (layout (entry_word e))) (entry_numbers e)
unfolding entry_numbers
entry_fits e v = fields_fit (normalised_entry e) (normalised_request e.job e.r1 e.r2 v)

-- in a record it has these bytes, or it is 0
pub record_fits : (e : Entry) → record_cause e ≡ clear → Fits (field_sizes (entry_word e) (entry_map e)) (entry_numbers e)
record_fits e ok =
    fits_map (entry_map e) (layout (entry_word e)) (entry_numbers e) (entry_fits e ((request_none e.job e.r1 e.r2).0 ok)) (entry_map_absent e)

-- the length by the map is the record's length
pub record_length_lem : (e : Entry) → record_cause e ≡ clear → record_length (entry_word e) (entry_map e) ≡ length (record_bytes e)
unfolding record_length record_bytes
record_length_lem e ok =
    let S = e.job.setting in
    let fields : List ℕ = number_bytes (field_sizes (entry_word e) (entry_map e)) (entry_numbers e) in
    omega (arith, length_bytes (record_fits e ok), length_headed (entry_map e) S.format S.operation fields)

-- the longest record has 139 bytes
pub record_most : (e : Entry) → record_cause e ≡ clear → length (record_bytes e) ≤ 139
unfolding record_length
record_most e ok = omega (arith, record_length_lem e ok, total_most e.job.setting.format (entry_map e))

-- ---- replies

-- one entry and one length are read
entry_of : Entry → First → Entry
entry_of d (Ok (Some p)) = p.0
entry_of d (Ok None) = d
entry_of d (Err k) = d

length_of : First → ℕ
length_of (Ok (Some p)) = p.1
length_of (Ok None) = 0
length_of (Err k) = 0

pub job_same : {e d : Entry} {n k : ℕ} → ◌≡◌ {A = First} (Ok (Some (e, n))) (Ok (Some (d, k))) → (e ≡ d) × (n ≡ k)
unfolding entry_of length_of
job_same {e} q = (ap (entry_of e) q, ap length_of q)

first_assoc : (k m n : Check) → first k (first m n) ≡ first (first k m) n
first_assoc (Ok u) m n = refl
first_assoc (Err k) m n = refl

-- a cause other than a map with a bit that has no meaning or a record that is cut short
abbrev pub late_cause : ℕ → List ℕ → Check
late_cause word s = first (record_cause (entry_in word s)) (unless (not (says_absence word (map_in s) (entry_numbers (entry_in word s)))) cause.DefaultField)

-- ---- what reading says, where so many map bits have a meaning and a word has so many bytes
module _ (bits word : ℕ) where
  -- no cause stands against reading these bytes
  pub record Readable (s : List ℕ) : Type 0 where
    pub map : map_in s < 2 ^ bits
    pub whole : record_length word (map_in s) ≤ length s
    pub sound : record_cause (entry_in word s) ≡ clear
    pub no_default : says_absence word (map_in s) (entry_numbers (entry_in word s)) ≡ false

  pub read_none : (s : List ℕ) → (read_cause bits word s ≡ clear) ↔ Readable s
  unfolding read_cause
  read_none s =
      let m : ℕ = map_in s in
      let d : Bool = says_absence word m (entry_numbers (entry_in word s)) in
      let n : ℕ = record_length word m in
      let k : Check = record_cause (entry_in word s) in
      let itself : (k ≡ clear) ↔ (k ≡ clear) = ((λ e. e), λ e. e) in
      let last = both_none _ _ itself (unless_none (not d) cause.DefaultField) in
      let law = both_none _ _ (unless_none (ltb m (2 ^ bits)) cause.MapBits) (both_none _ _ (unless_none (leb n (length s)) cause.Cut) last) in (
        (λ z.
            let y = law.0 z in
            record {
              map = ltb-true m (2 ^ bits) y.0;
              whole = leb-true n (length s) y.1.0;
              sound = y.1.1.0;
              no_default = not-true d y.1.1.1;
            }),
        λ r. law.1 (lt-ltb m (2 ^ bits) r.map, (le-leb n (length s) r.whole, (r.sound, ap not r.no_default))),
      )

  -- a reply with a job
  pub record Taken (s : List ℕ) (e : Entry) (n : ℕ) : Type 0 where
    pub readable : Readable s
    pub entry : entry_in word s ≡ e
    pub count : record_length word (map_in s) ≡ n

  pub job_with : (s : List ℕ) (e : Entry) (n : ℕ) → first_with bits word s ≡ Ok (Some (e, n)) → Taken s e n
  unfolding first_with
  job_with [] e n q = absurd (let z : ◌≡◌ {A = ℕ} 0 1 = cc in omega arith)
  job_with (b ∷ bs) e n q = go (read_cause bits word (b ∷ bs)) refl q
    where
      go : (k : Check) → read_cause bits word (b ∷ bs) ≡ k → read_reply k (entry_in word (b ∷ bs)) (record_length word (map_in (b ∷ bs))) ≡ Ok (Some (e, n)) → Taken (b ∷ bs) e n
      go (Ok u) z q = let same = job_same q in record { readable = (read_none (b ∷ bs)).0 z; entry = same.0; count = same.1 }
      go (Err k) z q = absurd (let z : ◌≡◌ {A = ℕ} 0 1 = cc in omega arith)

  -- and back
  pub taken_job : (s : List ℕ) (e : Entry) (n : ℕ) → Taken s e n → first_with bits word s ≡ Ok (Some (e, n))
  unfolding first_with record_length
  taken_job [] e n t = absurd (omega (arith, t.readable.whole))
  taken_job (b ∷ bs) e n t =
      ap (λ (k : Check). read_reply k (entry_in word (b ∷ bs)) (record_length word (map_in (b ∷ bs)))) ((read_none (b ∷ bs)).1 t.readable) ∙ ap₂ (λ (d : Entry) (k : ℕ). Ok (Some (d, k))) t.entry t.count

  pub end_with : (s : List ℕ) → first_with bits word s ≡ Ok None → s ≡ []
  unfolding first_with
  end_with [] q = refl
  end_with (b ∷ bs) q = go (read_cause bits word (b ∷ bs)) q
    where
      go : (k : Check) → read_reply k (entry_in word (b ∷ bs)) (record_length word (map_in (b ∷ bs))) ≡ Ok None → b ∷ bs ≡ []
      go (Ok u) q = absurd (let z : ◌≡◌ {A = ℕ} 0 1 = cc in omega arith)
      go (Err k) q = absurd (let z : ◌≡◌ {A = ℕ} 0 1 = cc in omega arith)

  -- ---- reading, test by test
  pub none_left_with : (s : List ℕ) → length s ≡ 0 → first_with bits word s ≡ Ok None
  unfolding first_with
  none_left_with [] e = refl
  none_left_with (b ∷ bs) e = absurd (omega arith)

  first_some_left : (s : List ℕ) → (length s ≡ 0 → ⊥) → first_with bits word s ≡ read_reply (read_cause bits word s) (entry_in word s) (record_length word (map_in s))
  unfolding first_with
  first_some_left [] h = absurd (h refl)
  first_some_left (b ∷ bs) h = refl

  -- a map with a bit that has no meaning, or a record that is cut short
  abbrev pub early_cause : List ℕ → Check
  early_cause s = first (unless (ltb (map_in s) (2 ^ bits)) cause.MapBits) (unless (leb (record_length word (map_in s)) (length s)) cause.Cut)

  cause_split : (s : List ℕ) → read_cause bits word s ≡ first (early_cause s) (late_cause word s)
  unfolding read_cause
  cause_split s = first_assoc (unless (ltb (map_in s) (2 ^ bits)) cause.MapBits) (unless (leb (record_length word (map_in s)) (length s)) cause.Cut) (late_cause word s)

  module _ (s : List ℕ) (some : length s ≡ 0 → ⊥) where
    by_cause : (k : Check) → read_cause bits word s ≡ k → first_with bits word s ≡ read_reply k (entry_in word s) (record_length word (map_in s))
    by_cause k e = first_some_left s some ∙ ap (λ (j : Check). read_reply j (entry_in word s) (record_length word (map_in s))) e

    pub early_refused : (k : Cause) → early_cause s ≡ Err k → first_with bits word s ≡ Err k
    early_refused k e = by_cause (Err k) (cause_split s ∙ ap (λ (j : Check). first j (late_cause word s)) e)

    pub late_with : early_cause s ≡ clear → first_with bits word s ≡ read_reply (late_cause word s) (entry_in word s) (record_length word (map_in s))
    late_with e = by_cause (late_cause word s) (cause_split s ∙ ap (λ (k : Check). first k (late_cause word s)) e)

  pub early_none : (s : List ℕ) → early_cause s ≡ clear → (map_in s < 2 ^ bits) × (record_length word (map_in s) ≤ length s)
  early_none s e =
      let m : ℕ = map_in s in
      let n : ℕ = record_length word m in
      let both = (first_none (unless (ltb m (2 ^ bits)) cause.MapBits) (unless (leb n (length s)) cause.Cut)).0 e in
      (ltb-true m (2 ^ bits) ((unless_none (ltb m (2 ^ bits)) cause.MapBits).0 both.0), leb-true n (length s) ((unless_none (leb n (length s)) cause.Cut).0 both.1))

-- ---- the same for this version of the job files

-- the byte count of a word of the record that stands first
abbrev pub word_in : List ℕ → ℕ
word_in s = word_bytes (format_in s)

pub first_job : (s : List ℕ) (e : Entry) (n : ℕ) → first_in s ≡ Ok (Some (e, n)) → Taken map_width (word_in s) s e n
unfolding first_in
first_job s = job_with map_width (word_in s) s

pub first_end : (s : List ℕ) → first_in s ≡ Ok None → s ≡ []
unfolding first_in
first_end s = end_with map_width (word_in s) s

pub first_none_left : (s : List ℕ) → length s ≡ 0 → first_in s ≡ Ok None
unfolding first_in
first_none_left s = none_left_with map_width (word_in s) s
