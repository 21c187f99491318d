-- The header of a record (document 01, "Job files"; document 02, W-207): a map of one byte or two, then w, f and the operation. A header that
-- was written reads back, and the header of bytes that were read is written as these bytes. Assumes nothing.
use mathlib.Core.Path.{◌≡◌, refl, sym, ap, ap₂, ◌∙◌}
use Prim.Native.Nat.{ℕ, suc, ◌+◌, ◌*◌, ◌^◌, ◌≤◌, ◌<◌}
use native.Mathlib.Omega.{arith}
use native.Mathlib.Nat.{add-zero}
use mathlib.Core.List.{List, [], ◌∷◌, ◌++◌}
use lib.ListN.{length, get_or, take, drop, length-append, take-append-drop}
use lib.Seq.{length-take-le, take_at, take-append-add, drop-append-add, get_or-append-add}
use Rattle.bits.specs.Bit.{bit}
use Rattle.bits.proofs.Laws.{bit_mod}
use Rattle.format.specs.declared.Format.{Format}
use Rattle.numbers.specs.Number.{Bytes, little_endian, number}
use Rattle.numbers.specs.Numbers.{numbers}
use Rattle.numbers.proofs.Numbers.{bytes_take, length_number, number_bytes_lem, bytes_number, number_take_lt}
use Rattle.numbers.proofs.BySizes.{drop_one}
use Rattle.mask.proofs.Bitwise.{bit_case}
use Rattle.layout.specs.Fields.{announcing, entry_with, field_sizes, entry_map}
use Rattle.layout.specs.declared.Entry.{Entry}
use Rattle.layout.proofs.Maps.{entry_map_lt, entry_map_announced}
use Rattle.records.specs.Record.{map_bytes, header_bytes, headed, map_in, format_in, operation_in, entry_in}

-- ---- written and read back
module _ (m : ℕ) (F : Format) (o : ℕ) (t : List ℕ) where
  map_length : length (little_endian (map_bytes m) m) ≡ map_bytes m
  map_length = length_number (map_bytes m) m

  pub length_headed : length (headed m F o t) ≡ header_bytes m + length t
  length_headed = omega (arith, length-append (little_endian (map_bytes m) m) (F.w ∷ F.f ∷ o ∷ t), map_length)

  pub take_headed : (n : ℕ) → take (header_bytes m + n) (headed m F o t) ≡ headed m F o (take n t)
  take_headed n =
      let long : header_bytes m + n ≡ length (little_endian (map_bytes m) m) + suc (suc (suc n)) = omega (arith, map_length) in
      ap (λ (k : ℕ). take k (headed m F o t)) long ∙ take-append-add (little_endian (map_bytes m) m) (F.w ∷ F.f ∷ o ∷ t) (suc (suc (suc n)))

  fields_headed : drop (header_bytes m) (headed m F o t) ≡ t
  fields_headed =
      ap (λ (k : ℕ). drop (k + 3) (headed m F o t)) (sym map_length) ∙ drop-append-add (little_endian (map_bytes m) m) (F.w ∷ F.f ∷ o ∷ t) 3

  byte_headed : (i : ℕ) → get_or (headed m F o t) (map_bytes m + i) 0 ≡ get_or (F.w ∷ F.f ∷ o ∷ t) i 0
  byte_headed i =
      ap (λ (k : ℕ). get_or (headed m F o t) (k + i) 0) (sym map_length) ∙ get_or-append-add (little_endian (map_bytes m) m) (F.w ∷ F.f ∷ o ∷ t) i 0

  module _ (h : m < 256 ^ map_bytes m) where
    pub map_headed : map_in (headed m F o t) ≡ m
    unfolding map_in little_endian
    map_headed =
        ap (λ (b : ℕ). number (take (suc b) (headed m F o t))) (bit_mod m announcing 8 (omega arith))
        ∙ ap number (take_at (little_endian (map_bytes m) m) (F.w ∷ F.f ∷ o ∷ t) (map_bytes m) map_length) ∙ number_bytes_lem (map_bytes m) m h

    pub format_headed : format_in (headed m F o t) ≡ F
    format_headed =
        let s : List ℕ = headed m F o t in
        let first : get_or s (map_bytes m) 0 ≡ F.w = ap (λ (k : ℕ). get_or s k 0) (sym (add-zero (map_bytes m))) ∙ byte_headed 0 in
        (λ i. record { w = get_or s (map_bytes (map_headed i)) 0; f = get_or s (map_bytes (map_headed i) + 1) 0 })
        ∙ λ i. record { w = first i; f = byte_headed 1 i }

    pub entry_headed : (word : ℕ) → entry_in word (headed m F o t) ≡ entry_with F o m (numbers (field_sizes word m) t)
    unfolding entry_in
    entry_headed word =
        let s : List ℕ = headed m F o t in
        let operation : operation_in s ≡ o = ap (λ (k : ℕ). get_or s (map_bytes k + 2) 0) map_headed ∙ byte_headed 2 in
        let fields : drop (header_bytes (map_in s)) s ≡ t = ap (λ (k : ℕ). drop (header_bytes k) s) map_headed ∙ fields_headed in
        λ i. entry_with (format_headed i) (operation i) (map_headed i) (numbers (field_sizes word (map_headed i)) (fields i))

-- the map of an entry's record fits its bytes
pub entry_map_fits : (e : Entry) → entry_map e < 256 ^ map_bytes (entry_map e)
entry_map_fits e =
    bit_case (entry_map e) announcing (λ z. rw z (omega (arith, entry_map_announced e z))) (λ z. rw z (omega (arith, entry_map_lt e)))

-- ---- read and written back

-- a second map byte does not change the first
map_first : (s : List ℕ) → map_bytes (map_in s) ≡ map_bytes (get_or s 0 0)
unfolding map_in number
map_first [] = refl
map_first (b ∷ t) = ap suc (omega arith)

module _ (s : List ℕ) (b : Bytes s) where
  pub map_fits : map_in s < 256 ^ map_bytes (map_in s)
  unfolding map_in
  map_fits = rw (map_first s) (number_take_lt (map_bytes (get_or s 0 0)) s b)

  map_back : map_bytes (map_in s) ≤ length s → little_endian (map_bytes (map_in s)) (map_in s) ≡ take (map_bytes (map_in s)) s
  unfolding map_in
  map_back h =
      let k : ℕ = map_bytes (get_or s 0 0) in
      let same : map_bytes (map_in s) ≡ k = map_first s in
      let long : length (take k s) ≡ k = length-take-le k s (omega arith) in
      ap (λ (j : ℕ). little_endian j (map_in s)) (same ∙ sym long) ∙ bytes_number (take k s) (bytes_take k s b) ∙ ap (λ (j : ℕ). take j s) (sym same)

  pub headed_back : header_bytes (map_in s) ≤ length s → headed (map_in s) (format_in s) (operation_in s) (drop (header_bytes (map_in s)) s) ≡ s
  headed_back h =
      let k : ℕ = map_bytes (map_in s) in
      let second : k + 1 + 1 ≡ k + 2 = omega arith in
      let third : k + 2 + 1 ≡ k + 3 = omega arith in
      let rest : drop k s ≡ (format_in s).w ∷ (format_in s).f ∷ operation_in s ∷ drop (k + 3) s =
      drop_one s k 0 (omega arith)
      ∙ ap (λ (l : List ℕ). (format_in s).w ∷ l) (drop_one s (k + 1) 0 (omega arith) ∙ ap (λ (j : ℕ). (format_in s).f ∷ drop j s) second)
      ∙ ap (λ (l : List ℕ). (format_in s).w ∷ (format_in s).f ∷ l) (drop_one s (k + 2) 0 (omega arith) ∙ ap (λ (j : ℕ). operation_in s ∷ drop j s) third) in
      ap₂ ◌++◌ (map_back (omega arith)) (sym rest) ∙ take-append-drop k s

-- the map in bytes, by whether a second map byte is announced
pub map_one : (s : List ℕ) → map_bytes (get_or s 0 0) ≡ 1 → map_in s ≡ get_or s 0 0
unfolding map_in number
map_one [] e = refl
map_one (b ∷ t) e = let z : bit b announcing ≡ 0 = omega arith in rw z (omega arith)

pub map_two : (s : List ℕ) → map_bytes (get_or s 0 0) ≡ 2 → map_in s ≡ get_or s 0 0 + 256 * get_or s 1 0
unfolding map_in number
map_two [] e = refl
map_two (b ∷ []) e = let z : bit b announcing ≡ 1 = omega arith in rw z (omega arith)
map_two (b ∷ c ∷ t) e = let z : bit b announcing ≡ 1 = omega arith in rw z (omega arith)
