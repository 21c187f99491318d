-- The map of an entry's record (document 02, W-207): its low bits are those of the fields that have a default, bit 7 stands where bounds are
-- stated, and bits 8 to 10 say of which words. So the test for 10 compares the map that was read with the entry's own. Assumes nothing.
use Rattle.bounds.specs.declared.Ends.{Ends}
use Rattle.std.specs.Prelude.{Option, Some, None}
use mathlib.Core.Path.{◌≡◌, refl, sym, ap, ◌∙◌}
use mathlib.Core.Bool.{Bool, true, false, not, cond, ◌&&◌, ◌||◌}
use Prim.Native.Nat.{ℕ, ◌+◌, ◌*◌, ◌/◌, ◌%◌, ◌^◌, ◌<◌}
use native.Mathlib.Omega.{arith}
use native.Mathlib.Decide.{dec_lt}
use mathlib.Core.List.{List, ◌++◌}
use borrow.Author.Tests.{eqb-true, eqb-false, eq-eqb, ne_eqb, not-true}
use lib.Dec.{eqb}
use lib.Pow.{pow_mono}
use native.Mathlib.Nat.{lt_of_lt_of_le}
use Rattle.bits.specs.Bit.{bit}
use Rattle.bits.proofs.Laws.{bit_mod, bit_above}
use Rattle.mask.proofs.Bitwise.{bit_case}
use Rattle.job.specs.declared.Job.{Job}
use Rattle.job.specs.Role.{unbounded}
use Rattle.layout.specs.Layout.{map_of, is_default, says_default}
use Rattle.layout.specs.Fields.{default_fields, announcing, map_width, two, with_default, of_bounds, layout, ends_of, ends_numbers, entry_numbers, entry_word, presence, second_map, both_maps, entry_map, empty_second, says_absence}
use Rattle.layout.specs.declared.Entry.{Entry}
use Rattle.layout.proofs.ByMap.{Absent, map_lt, map_absent, default_front, default_append, default_map}
use Rattle.layout.proofs.JobLayout.{default_bits}

-- ---- both map bytes as one number

pub presence_lt : (B : Option Ends) → presence B < 2
presence_lt None = omega arith
presence_lt (Some e) = omega arith

-- the second map byte is empty, or it is not
module _ (l q : ℕ) where
  both_cases : (P : ℕ → Type 0) → (q ≡ 0 → P l) → (0 < q → P (l + (128 + 256 * q))) → P (both_maps l q)
  both_cases P none some = go (eqb q 0) refl
    where
      go : (z : Bool) → eqb q 0 ≡ z → P (cond z l (l + (128 + 256 * q)))
      go true e = none (eqb-true q 0 e)
      go false e = let ne : q ≡ 0 → ⊥ = eqb-false q 0 e in some (omega arith)

  module _ (h : l < 128) where
    both_low : both_maps l q % 128 ≡ l
    both_low = both_cases (λ (m : ℕ). m % 128 ≡ l) (λ z. omega arith) (λ z. omega arith)

    both_second : both_maps l q / 256 ≡ q
    both_second = both_cases (λ (m : ℕ). m / 256 ≡ q) (λ z. omega arith) (λ z. omega arith)

    both_announced : bit (both_maps l q) announcing ≡ 0 → both_maps l q < 256
    both_announced = both_cases (λ (m : ℕ). bit m announcing ≡ 0 → m < 256) (λ z e. omega arith) (λ z e. absurd (omega arith))

    both_lt : q < 8 → both_maps l q < 2 ^ map_width
    both_lt few = both_cases (λ (m : ℕ). m < 2 ^ map_width) (λ z. omega arith) (λ z. omega arith)

    -- with the second map byte of m the number is m, unless the low bits differ or an announced second map is empty
    module _ (m : ℕ) (second : q ≡ m / 256) (announced : bit m announcing ≡ 0 → m < 256) where
      both_compared : (d : Bool) → not d ≡ eqb l (m % 128) → not (d || empty_second m) ≡ eqb (both_maps l q) m
      both_compared true low =
          sym (ne_eqb (both_maps l q) m (λ e. eqb-false l (m % 128) (sym low) (sym both_low ∙ ap (λ (k : ℕ). k % 128) e)))
      both_compared false low = bit_case m announcing off on
        where
          same : l ≡ m % 128
          same = eqb-true l (m % 128) (sym low)

          off : bit m announcing ≡ 0 → not (empty_second m) ≡ eqb (both_maps l q) m
          off z =
              let few : m < 256 = announced z in
              rw (z, eq-eqb (both_maps l q) m (both_cases (λ (k : ℕ). k ≡ m) (λ n. omega (arith, same)) (λ n. absurd (omega arith))))

          on : bit m announcing ≡ 1 → not (empty_second m) ≡ eqb (both_maps l q) m
          on z = rw z (go (eqb (m / 256) 0) refl)
            where
              go : (t : Bool) → eqb (m / 256) 0 ≡ t → not t ≡ eqb (both_maps l q) m
              go true e =
                  let none : m / 256 ≡ 0 = eqb-true (m / 256) 0 e in
                  sym (ne_eqb (both_maps l q) m (both_cases (λ (k : ℕ). k ≡ m → ⊥) (λ n s. omega arith) (λ n s. omega arith)))
              go false e =
                  let some : m / 256 ≡ 0 → ⊥ = eqb-false (m / 256) 0 e in
                  sym (eq-eqb (both_maps l q) m (both_cases (λ (k : ℕ). k ≡ m) (λ n. absurd (omega arith)) (λ n. omega (arith, same))))

-- ---- the map of an entry

-- bits 8 to 10 of the map m say of which words a job states bounds
pub record Announces (m : ℕ) (j : Job) : Type 0 where
  pub a : bit m 8 ≡ presence j.a.bounds
  pub b : bit m 9 ≡ presence j.b.bounds
  pub c : bit m 10 ≡ presence j.c.bounds

pub second_lt : (j : Job) → second_map j < 8
second_lt j = omega (arith, presence_lt j.a.bounds, presence_lt j.b.bounds, presence_lt j.c.bounds)

second_back : (m : ℕ) (j : Job) → m < 2 ^ map_width → Announces m j → second_map j ≡ m / 256
second_back m j h s = omega (arith, s.a, s.b, s.c)

-- the part of it that the numbers tell
abbrev pub earlier_map : Entry → ℕ
earlier_map e = map_of (with_default (entry_word e)) (entry_numbers e)

pub earlier_lt : (e : Entry) → earlier_map e < 128
earlier_lt e = map_lt default_fields (with_default (entry_word e)) (entry_numbers e) (default_bits (entry_word e))

module _ (e : Entry) where
  pub entry_map_lt : entry_map e < 2 ^ map_width
  unfolding entry_map
  entry_map_lt = both_lt (earlier_map e) (second_map e.job) (earlier_lt e) (second_lt e.job)

  -- without bit 7 the map is one byte
  pub entry_map_announced : bit (entry_map e) announcing ≡ 0 → entry_map e < 256
  unfolding entry_map
  entry_map_announced = both_announced (earlier_map e) (second_map e.job) (earlier_lt e)

  pub entry_announces : Announces (entry_map e) e.job
  unfolding entry_map
  entry_announces =
      let j = e.job in
      let second : entry_map e / 256 ≡ second_map j = both_second (earlier_map e) (second_map j) (earlier_lt e) in
      let a = presence_lt j.a.bounds in
      let b = presence_lt j.b.bounds in
      let c = presence_lt j.c.bounds in
      record { a = omega arith; b = omega arith; c = omega arith }

  -- the bits of the fields that have a default are as the numbers tell
  earlier_absent : (i : ℕ) → bit (entry_map e) i ≡ 0 → bit (earlier_map e) i ≡ 0
  unfolding entry_map
  earlier_absent i z = go (dec_lt i default_fields)
    where
      go : Dec (i < default_fields) → bit (earlier_map e) i ≡ 0
      go (yes lt) = ap (λ (m : ℕ). bit m i) (sym (both_low (earlier_map e) (second_map e.job) (earlier_lt e))) ∙ bit_mod (entry_map e) i default_fields lt ∙ z
      go (no ge) = bit_above i (lt_of_lt_of_le (earlier_lt e) (pow_mono {i = default_fields} {j = i} (omega arith)))

-- ---- absent bounds

-- a job states no bounds where the map is one byte
pub unbounded_absent : (m : ℕ) (j : Job) → Announces m j → m < 256 → unbounded j ≡ j
unbounded_absent m j s h =
    let a = absent j.a.bounds (omega arith) in
    let b = absent j.b.bounds (omega arith) in
    let c = absent j.c.bounds (omega arith) in
    λ i. record {
      setting = j.setting;
      a = record { mask = j.a.mask; bounds = a i };
      b = record { mask = j.b.mask; bounds = b i };
      c = record { mask = j.c.mask; bounds = c i };
      carries = j.carries;
      dropped = j.dropped;
    }
  where
    absent : (B : Option Ends) → presence B ≡ 0 → None ≡ B
    absent None e = refl
    absent (Some ends) e = absurd (omega arith)

-- where the bit of bounds does not stand their numbers are 0
bounds_default : (m i k word : ℕ) (B : Option Ends) → bit m k ≡ presence B → bit m i ≡ 0 → is_default i (two k word) (ends_numbers (ends_of B)) ≡ true
unfolding is_default
bounds_default m i k word None s z = go (eqb k i)
  where
    go : (t : Bool) → (not t || true) && ((not t || true) && true) ≡ true
    go true = refl
    go false = refl
bounds_default m i k word (Some e) s z = rw (ne_eqb k i (λ q. let one = ap (bit m) q in omega (arith, one, s, z)))

-- the fields of an entry whose bits do not stand in its own map say their default
pub entry_map_absent : (e : Entry) → Absent (entry_map e) (layout (entry_word e)) (entry_numbers e)
unfolding layout with_default entry_numbers is_default
entry_map_absent e i z =
    let m : ℕ = entry_map e in
    let word : ℕ = entry_word e in
    let j = e.job in
    let s = entry_announces e in
    let c : List ℕ = ends_numbers (ends_of j.c.bounds) in
    let bc : List ℕ = ends_numbers (ends_of j.b.bounds) ++ c in
    default_append i (with_default word) (of_bounds word) (entry_numbers e) (map_absent (with_default word) (entry_numbers e) i (earlier_absent e i z))
    (default_append i (two 8 word) (two 9 word ++ two 10 word) (ends_numbers (ends_of j.a.bounds) ++ bc) (bounds_default m i 8 word j.a.bounds s.a z)
    (default_append i (two 9 word) (two 10 word) bc (bounds_default m i 9 word j.b.bounds s.b z) (bounds_default m i 10 word j.c.bounds s.c z)))

-- ---- the test for 10

-- of an entry that was read with the map m the test compares m with the entry's own map
pub absence_map : (m : ℕ) (e : Entry) → m < 2 ^ map_width → (bit m announcing ≡ 0 → m < 256) → Announces m e.job → Absent m (layout (entry_word e)) (entry_numbers e)
    → not (says_absence (entry_word e) m (entry_numbers e)) ≡ eqb (entry_map e) m
unfolding says_absence entry_map layout
absence_map m e h announced s absent =
    let ps = with_default (entry_word e) in
    let ns : List ℕ = entry_numbers e in
    both_compared (earlier_map e) (second_map e.job) (earlier_lt e) m (second_back m e.job h s) announced (says_default default_fields m ps ns)
    (default_map default_fields m ps ns (default_bits (entry_word e)) (λ i z. default_front i ps (of_bounds (entry_word e)) ns (absent i z)))

-- so no field that an entry's own map announces says its default
pub own_absence : (e : Entry) → says_absence (entry_word e) (entry_map e) (entry_numbers e) ≡ false
own_absence e =
    not-true _ (absence_map (entry_map e) e (entry_map_lt e) (entry_map_announced e) (entry_announces e) (entry_map_absent e) ∙ eq-eqb (entry_map e) (entry_map e) refl)
