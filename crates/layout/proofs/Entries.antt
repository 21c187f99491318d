-- The numbers of an entry's record: those of its fields, with g taken as 0 where no dropped bit is fixed (document 02, W-206). With its map
-- they give the entry back. Numbers that were read, and of which no field says its default, carry no such g. Assumes nothing.
use Rattle.std.specs.Prelude.{Option, Some, None}
use mathlib.Core.Path.{◌≡◌, refl, sym, ap, ap₂, ◌∙◌}
use mathlib.Core.Bool.{Bool, true, false, not, cond, ◌&&◌, ◌||◌, true≢false, and-eq-true_iff}
use Prim.Native.Nat.{ℕ}
use native.Mathlib.Omega.{arith}
use mathlib.Core.List.{List, [], ◌∷◌, ◌++◌}
use borrow.Author.Tests.{eqb-true, eq-eqb}
use lib.Dec.{eqb}
use lib.ListN.{get_or}
use Rattle.bits.specs.Bit.{bit}
use Rattle.format.specs.declared.Format.{Format}
use Rattle.mask.specs.declared.Mask.{Mask}
use Rattle.mask.proofs.Bitwise.{bit_case}
use Rattle.mask.proofs.ByBits.{free_value}
use Rattle.bounds.specs.declared.Ends.{Ends}
use Rattle.job.specs.declared.Dropped.{Dropped}
use Rattle.job.specs.Dropped.{ValidDropped, free_dropped, normalised, with_dropped}
use Rattle.job.proofs.DroppedLaws.{normalised_again, normalised_none, normalised_mask, normalised_same}
use Rattle.numbers.specs.Numbers.{numbers}
use Rattle.layout.specs.Layout.{sizes, is_default, says_default}
use Rattle.layout.specs.Fields.{default_fields, with_default, layout, mask_numbers, ends_of, ends_numbers, earlier_numbers, field_numbers, normalised_entry, entry_numbers, ends_at, bounds_with, job_with, entry_with, field_sizes, presence, entry_map}
use Rattle.layout.specs.declared.Slot.{Slot}
use Rattle.layout.specs.declared.Entry.{Entry}
use Rattle.layout.proofs.ByMap.{Absent, read_absent, no_default}
use Rattle.layout.proofs.Maps.{Announces, entry_announces}

-- the map bit of the dropped bits
abbrev dropped_bit : ℕ
dropped_bit = 6

-- an entry with other dropped bits
abbrev entry_dropping : Entry → Dropped → Entry
entry_dropping e D = record { job = with_dropped e.job D; r1 = e.r1; r2 = e.r2 }

-- ---- entries and their numbers

-- bounds with their own presence, and their ends
bounds_back : (B : Option Ends) (b : ℕ) → b ≡ presence B → bounds_with b (ends_of B) ≡ B
bounds_back None b s = rw s
bounds_back (Some e) b s = rw s

-- the entry with the map and the numbers of an entry's record is that entry, with its g taken as it is written
pub entry_back : (e : Entry) → entry_with e.job.setting.format e.job.setting.operation (entry_map e) (entry_numbers e) ≡ normalised_entry e
unfolding entry_numbers
entry_back e =
    let j = e.job in
    let s = entry_announces e in
    let a = bounds_back j.a.bounds (bit (entry_map e) 8) s.a in
    let b = bounds_back j.b.bounds (bit (entry_map e) 9) s.b in
    let c = bounds_back j.c.bounds (bit (entry_map e) 10) s.c in
    λ i. record {
      job = record {
        setting = j.setting;
        a = record { mask = j.a.mask; bounds = a i };
        b = record { mask = j.b.mask; bounds = b i };
        c = record { mask = j.c.mask; bounds = c i };
        carries = j.carries;
        dropped = normalised j.dropped;
      };
      r1 = e.r1;
      r2 = e.r2;
    }

pub numbers_again : (e : Entry) → entry_numbers (normalised_entry e) ≡ entry_numbers e
unfolding entry_numbers
numbers_again e = ap (λ (D : Dropped). field_numbers (entry_dropping e D)) (normalised_again e.job.dropped)

-- an entry that carries no g where no dropped bit is fixed
module _ (e : Entry) (same : normalised e.job.dropped ≡ e.job.dropped) where
  pub entry_same : normalised_entry e ≡ e
  entry_same = ap (entry_dropping e) same

  pub numbers_same : entry_numbers e ≡ field_numbers e
  unfolding entry_numbers
  numbers_same = ap field_numbers entry_same

-- ---- numbers that were read with a map

-- bounds that were read are stated where the map says so
pub read_announces : (F : Format) (o m : ℕ) (ns : List ℕ) → Announces m (job_with F o m ns)
read_announces F o m ns = record { a = read_presence m 8 _; b = read_presence m 9 _; c = read_presence m 10 _ }
  where
    read_presence : (m k : ℕ) (e : Ends) → bit m k ≡ presence (bounds_with (bit m k) e)
    read_presence m k e = bit_case m k (λ z. rw z) (λ z. rw z)

-- and their ends are the numbers that were read
ends_read : (b : ℕ) (e : Ends) → (b ≡ 0 → (e.low ≡ 0) × (e.high ≡ 0)) → ends_of (bounds_with b e) ≡ e
ends_read b e none = go (eqb b 0) refl
  where
    go : (t : Bool) → eqb b 0 ≡ t → ends_of (cond t None (Some e)) ≡ e
    go true q = let z = none (eqb-true b 0 q) in λ i. record { low = sym z.0 i; high = sym z.1 i }
    go false q = refl

both_zero : (x y : ℕ) → eqb x 0 && (eqb y 0 && true) ≡ true → (x ≡ 0) × (y ≡ 0)
both_zero x y t =
    let first = (and-eq-true_iff (eqb x 0) (eqb y 0 && true)).0 t in
    (eqb-true x 0 first.0, eqb-true y 0 ((and-eq-true_iff (eqb y 0) true).0 first.1).0)

-- so the numbers of the fields of the entry are the numbers that were read
pub numbers_read : (F : Format) (o word m : ℕ) (s : List ℕ) → field_numbers (entry_with F o m (numbers (field_sizes word m) s)) ≡ numbers (field_sizes word m) s
unfolding layout with_default sizes numbers is_default
numbers_read F o word m s =
    let ns : List ℕ = numbers (field_sizes word m) s in
    let absent = read_absent m (layout word) s in
    let a = ends_read (bit m 8) (ends_at ns 14) (λ z. both_zero (get_or ns 14 0) (get_or ns 15 0) (absent 8 z)) in
    let b = ends_read (bit m 9) (ends_at ns 16) (λ z. both_zero (get_or ns 16 0) (get_or ns 17 0) (absent 9 z)) in
    let c = ends_read (bit m 10) (ends_at ns 18) (λ z. both_zero (get_or ns 18 0) (get_or ns 19 0) (absent 10 z)) in
    λ i. earlier_numbers (entry_with F o m ns) ++ (ends_numbers (a i) ++ (ends_numbers (b i) ++ ends_numbers (c i)))

-- ---- defaults

-- a number that becomes 0 takes nothing from a default
default_zero : (i : ℕ) (ps : List Slot) (xs : List ℕ) (n : ℕ) (ys : List ℕ) → is_default i ps (xs ++ n ∷ ys) ≡ true → is_default i ps (xs ++ 0 ∷ ys) ≡ true
unfolding is_default
default_zero i [] xs n ys e = refl
default_zero i (p ∷ ps) [] n ys e =
    let both = (and-eq-true_iff (not (eqb p.bit i) || eqb n 0) (is_default i ps ys)).0 e in
    (and-eq-true_iff (not (eqb p.bit i) || true) (is_default i ps ys)).1 (either (not (eqb p.bit i)), both.1)
  where
    either : (t : Bool) → t || true ≡ true
    either true = refl
    either false = refl
default_zero i (p ∷ ps) (x ∷ xs) n ys e =
    let t : Bool = not (eqb p.bit i) || eqb x 0 in
    let both = (and-eq-true_iff t (is_default i ps (xs ++ n ∷ ys))).0 e in
    (and-eq-true_iff t (is_default i ps (xs ++ 0 ∷ ys))).1 (both.0, default_zero i ps xs n ys both.1)

-- the fields that say their default in an entry say it in its record
pub entry_absent : (m word : ℕ) (e : Entry) → Absent m (layout word) (field_numbers e) → Absent m (layout word) (entry_numbers e)
unfolding entry_numbers normalised
entry_absent m word e absent i z = go (eqb e.job.dropped.mask.care 0)
  where
    others : List ℕ
    others =
        mask_numbers e.job.a.mask ++ (mask_numbers e.job.b.mask ++ (mask_numbers e.job.c.mask ++ (mask_numbers e.job.carries
        ++ (e.job.setting.mode ∷ e.r1 ∷ e.r2 ∷ []))))

    later : List ℕ
    later =
        mask_numbers e.job.dropped.mask
        ++ (ends_numbers (ends_of e.job.a.bounds) ++ (ends_numbers (ends_of e.job.b.bounds) ++ ends_numbers (ends_of e.job.c.bounds)))

    go : (t : Bool) → is_default i (layout word) (field_numbers (entry_dropping e (record { g = cond t 0 e.job.dropped.g; mask = e.job.dropped.mask }))) ≡ true
    go true = default_zero i (layout word) others e.job.dropped.g later (absent i z)
    go false = absent i z

-- field 6 says its default exactly where its three numbers are 0
dropped_default : (word : ℕ) (e : Entry) → is_default dropped_bit (layout word) (field_numbers e) ≡ true
    → (e.job.dropped.g ≡ 0) × (e.job.dropped.mask.care ≡ 0) × (e.job.dropped.mask.value ≡ 0)
unfolding layout with_default is_default
dropped_default word e q =
    let D = e.job.dropped in
    let first = (and-eq-true_iff (eqb D.g 0) (eqb D.mask.care 0 && (eqb D.mask.value 0 && true))).0 q in
    let second = (and-eq-true_iff (eqb D.mask.care 0) (eqb D.mask.value 0 && true)).0 first.1 in
    let third = (and-eq-true_iff (eqb D.mask.value 0) true).0 second.1 in
    (eqb-true D.g 0 first.0, eqb-true D.mask.care 0 second.0, eqb-true D.mask.value 0 third.0)

default_dropped : (word : ℕ) (e : Entry) → e.job.dropped.g ≡ 0 → e.job.dropped.mask.care ≡ 0 → e.job.dropped.mask.value ≡ 0
    → is_default dropped_bit (with_default word) (field_numbers e) ≡ true
unfolding with_default is_default
default_dropped word e g care value = rw (eq-eqb e.job.dropped.g 0 g, eq-eqb e.job.dropped.mask.care 0 care, eq-eqb e.job.dropped.mask.value 0 value)

-- where the bit of the dropped bits does not stand, nothing is wanted of them
pub dropped_absent : (m word : ℕ) (e : Entry) → Absent m (layout word) (field_numbers e) → bit m dropped_bit ≡ 0 → e.job.dropped ≡ free_dropped
dropped_absent m word e absent z =
    let none = dropped_default word e (absent dropped_bit z) in
    ap₂ (λ (g : ℕ) (k : Mask). record { g = g; mask = k }) none.0 (ap₂ (λ (c v : ℕ). record { care = c; value = v }) none.1 none.2)

-- an entry that was read, and of which no field says its default, carries no g where no dropped bit is fixed
pub read_normalised : (m word : ℕ) (e : Entry) → ValidDropped e.job.dropped → Absent m (layout word) (field_numbers e)
    → says_default default_fields m (with_default word) (entry_numbers e) ≡ false → normalised e.job.dropped ≡ e.job.dropped
unfolding entry_numbers
read_normalised m word e valid absent none-says = normalised_same e.job.dropped carried
  where
    D : Dropped
    D = e.job.dropped

    carried : D.mask.care ≡ 0 → D.g ≡ 0
    carried none =
        bit_case m dropped_bit (λ z. (dropped_default word e (absent dropped_bit z)).0)
        (λ one. absurd (true≢false (sym
        (default_dropped word (normalised_entry e) (normalised_none D none) (ap (λ (k : Mask). k.care) (normalised_mask D) ∙ none)
        (ap (λ (k : Mask). k.value) (normalised_mask D) ∙ free_value D.mask valid.mask.inside none))
        ∙ no_default default_fields m (with_default word) (entry_numbers e) none-says dropped_bit (omega arith) one)))
