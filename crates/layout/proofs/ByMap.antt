-- The numbers of a record and its map: bit i of the map stands exactly where field i does not say its default. So numbers fit the byte
-- counts that their own map gives, and of numbers that were read the map is the one they were read with, unless a field says its default.
-- Assumes nothing.
use mathlib.Core.Path.{◌≡◌, refl, sym, ap, ◌∙◌}
use mathlib.Core.Bool.{Bool, true, false, not, cond, ◌&&◌, ◌||◌, true≢false, and-eq-true_iff}
use Prim.Native.Nat.{ℕ, zero, suc, ◌+◌, ◌*◌, ◌%◌, ◌^◌, ◌≤◌, ◌<◌}
use native.Mathlib.Nat.{zero-mul, one-mul, zero-div, mod-lt}
use native.Mathlib.Decide.{dec_lt}
use native.Mathlib.Omega.{arith}
use borrow.Author.Tests.{ltb-true, eqb-true, eqb-false, eq-eqb, ne_eqb}
use mathlib.Core.List.{List, [], ◌∷◌, ◌++◌}
use mathlib.Core.Logic.{◌⊎◌, inl, inr}
use lib.ListN.{length, get_or, take, drop, set}
use lib.Dec.{eqb, ltb}
use lib.Bits.{bit_or, or_zero_r, or_comm, or_lt}
use lib.Pow.{pow-lt, pow_pos}
use Rattle.bits.specs.Bit.{bit}
use Rattle.bits.proofs.Laws.{bit_lt, bit_mod, by_bits, bit_pow_same, bit_pow_other}
use Rattle.bits.proofs.Logic.{bit_of_or}
use Rattle.mask.proofs.Bitwise.{of_bit, bit_case}
use Rattle.mask.proofs.Joining.{or_assoc}
use Rattle.numbers.specs.Number.{number}
use Rattle.numbers.specs.Numbers.{total, numbers}
use Rattle.layout.specs.Layout.{sizes, map_of, is_default, says_default}
use Rattle.layout.specs.declared.Slot.{Slot}
use Rattle.numbers.proofs.BySizes.{Fits, none, more, drop_one, place_one}

-- ---- the columns of a layout
abbrev pub counts : List Slot → List ℕ
counts [] = []
counts (p ∷ ps) = p.size ∷ counts ps

abbrev pub map_bits : List Slot → List ℕ
map_bits [] = []
map_bits (p ∷ ps) = p.bit ∷ map_bits ps

-- every element is below n, as a test that is computed
abbrev pub all_below : ℕ → List ℕ → Bool
all_below n [] = true
all_below n (x ∷ xs) = ltb x n && all_below n xs

pub below_cons : (n x : ℕ) (xs : List ℕ) → all_below n (x ∷ xs) ≡ true → (x < n) × (all_below n xs ≡ true)
below_cons n x xs t = let both = (and-eq-true_iff (ltb x n) (all_below n xs)).0 t in (ltb-true x n both.0, both.1)

pub field_below : (c : ℕ) (ps : List Slot) (d : Slot) → all_below c (map_bits ps) ≡ true → d.bit < c → (i : ℕ) → (get_or ps i d).bit < c
field_below c [] d t h i = h
field_below c (p ∷ ps) d t h zero = (below_cons c p.bit (map_bits ps) t).0
field_below c (p ∷ ps) d t h (suc i) = field_below c ps d (below_cons c p.bit (map_bits ps) t).1 h i

-- a number has no more bytes than its byte count
pub sizes_below : (n : ℕ) (ps : List Slot) (m : ℕ) → all_below n (counts ps) ≡ true → 0 < n → (i : ℕ) → get_or (sizes ps m) i 0 < n
unfolding sizes
sizes_below n [] m t h i = omega arith
sizes_below n (p ∷ ps) m t h zero =
    bit_case m p.bit (λ e. rw (e, zero-mul p.size) h) (λ e. rw (e, one-mul p.size) (below_cons n p.size (counts ps) t).0)
sizes_below n (p ∷ ps) m t h (suc i) = sizes_below n ps m (below_cons n p.size (counts ps) t).1 h i

pub sizes_most : (ps : List Slot) (m : ℕ) → total (sizes ps m) ≤ total (counts ps)
unfolding sizes total
sizes_most [] m = omega arith
sizes_most (p ∷ ps) m =
    bit_case m p.bit
    (λ e. rw (e, zero-mul p.size) (omega (arith, sizes_most ps m)))
    (λ e. rw (e, one-mul p.size) (omega (arith, sizes_most ps m)))

-- ---- a turn of the loop over a layout
module _ (ps : List Slot) (i : ℕ) (d : Slot) (h : i < length ps) where
  pub sizes_turn : (m : ℕ) (l : List ℕ) → i < length l
      → take (i + 1) (set l i (bit m (get_or ps i d).bit * (get_or ps i d).size)) ++ sizes (drop (i + 1) ps) m ≡ take i l ++ sizes (drop i ps) m
  unfolding sizes
  sizes_turn m l g =
      place_one l (sizes (drop (i + 1) ps) m) i (bit m (get_or ps i d).bit * (get_or ps i d).size) g
      ∙ ap (λ (qs : List Slot). take i l ++ sizes qs m) (sym (drop_one ps i d h))

-- ---- turns of the loop over the fields: m is the map of the numbers passed
module _ (m : ℕ) (p : Slot) (n : ℕ) (ps : List Slot) (ns : List ℕ) where
  pub map_same : n ≡ 0 → bit_or m (map_of ps ns) ≡ bit_or m (map_of (p ∷ ps) (n ∷ ns))
  unfolding map_of
  map_same e = rw (eq-eqb n 0 e) refl

  pub map_set : (n ≡ 0 → ⊥) → bit_or (bit_or m (2 ^ p.bit)) (map_of ps ns) ≡ bit_or m (map_of (p ∷ ps) (n ∷ ns))
  unfolding map_of
  map_set e = rw (ne_eqb n 0 e) (or_assoc m (2 ^ p.bit) (map_of ps ns) ∙ ap (bit_or m) (or_comm (2 ^ p.bit) (map_of ps ns)))

-- after the last of them nothing is left
pub map_none : (ps : List Slot) (ns : List ℕ) → (ps ≡ []) ⊎ (ns ≡ []) → map_of ps ns ≡ 0
unfolding map_of
map_none [] ns h = refl
map_none (p ∷ ps) [] h = refl
map_none (p ∷ ps) (n ∷ ns) (inl e) = absurd (cc)
map_none (p ∷ ps) (n ∷ ns) (inr e) = absurd (cc)

-- ---- the bits of the map

-- 0 where the test holds, else 1
abbrev pub bit_unless : Bool → ℕ
bit_unless true = 0
bit_unless false = 1

bit_zero : (i : ℕ) → bit 0 i ≡ 0
bit_zero i = ap (λ (u : ℕ). u % 2) (zero-div (2 ^ i))

-- a bit set in a number
set_same : (m i : ℕ) → bit (bit_or m (2 ^ i)) i ≡ 1
set_same m i = bit_of_or m (2 ^ i) i ∙ ap (bit_or (bit m i)) (bit_pow_same i) ∙ of_bit (λ (b : ℕ). bit_or b 1 ≡ 1) refl refl (bit m i) (bit_lt m i)

set_other : (m i j : ℕ) → (i ≡ j → ⊥) → bit (bit_or m (2 ^ i)) j ≡ bit m j
set_other m i j ne = bit_of_or m (2 ^ i) j ∙ ap (bit_or (bit m j)) (bit_pow_other i j ne) ∙ or_zero_r (bit m j)

-- one number more, by whether it is 0 and whether it is one of field i
bit_more : (z s : Bool) (d : Bool) (m f i : ℕ) → eqb f i ≡ s → bit m i ≡ bit_unless d
    → bit (cond z m (bit_or m (2 ^ f))) i ≡ bit_unless ((not s || z) && d)
bit_more true true d m f i e ih = ih
bit_more true false d m f i e ih = ih
bit_more false true d m f i e ih = ap (λ (j : ℕ). bit (bit_or m (2 ^ j)) i) (eqb-true f i e) ∙ set_same m i
bit_more false false d m f i e ih = set_other m f i (eqb-false f i e) ∙ ih

pub map_bit : (i : ℕ) (ps : List Slot) (ns : List ℕ) → bit (map_of ps ns) i ≡ bit_unless (is_default i ps ns)
unfolding map_of is_default
map_bit i [] ns = bit_zero i
map_bit i (p ∷ ps) [] = bit_zero i
map_bit i (p ∷ ps) (n ∷ ns) =
    bit_more (eqb n 0) (eqb p.bit i) (is_default i ps ns) (map_of ps ns) p.bit i refl (map_bit i ps ns)

pub map_lt : (c : ℕ) (ps : List Slot) (ns : List ℕ) → all_below c (map_bits ps) ≡ true → map_of ps ns < 2 ^ c
unfolding map_of
map_lt c [] ns t = pow_pos c
map_lt c (p ∷ ps) [] t = pow_pos c
map_lt c (p ∷ ps) (n ∷ ns) t =
    let both = below_cons c p.bit (map_bits ps) t in
    either (eqb n 0) (map_lt c ps ns both.1) (or_lt c (map_of ps ns) (2 ^ p.bit) (map_lt c ps ns both.1) (pow-lt both.0))
  where
    either : (z : Bool) {x y : ℕ} → x < 2 ^ c → y < 2 ^ c → cond z x y < 2 ^ c
    either true h g = h
    either false h g = g

-- ---- one field

-- what the test says of the first number, where it belongs to field i, and of the others
default_cons : (i n : ℕ) (p : Slot) (ps : List Slot) (ns : List ℕ) → is_default i (p ∷ ps) (n ∷ ns) ≡ true
    → (p.bit ≡ i → n ≡ 0) × (is_default i ps ns ≡ true)
unfolding is_default
default_cons i n p ps ns t =
    let both = (and-eq-true_iff (not (eqb p.bit i) || eqb n 0) (is_default i ps ns)).0 t in
    (λ e. eqb-true n 0 (rw (eq-eqb p.bit i e) at both.0), both.1)

-- the test of a layout is that of its first part, and of the rest with the numbers after those
pub default_front : (i : ℕ) (ps qs : List Slot) (ns : List ℕ) → is_default i (ps ++ qs) ns ≡ true → is_default i ps ns ≡ true
unfolding is_default
default_front i [] qs ns t = refl
default_front i (p ∷ ps) qs [] t = refl
default_front i (p ∷ ps) qs (n ∷ ns) t =
    let own : Bool = not (eqb p.bit i) || eqb n 0 in
    let both = (and-eq-true_iff own (is_default i (ps ++ qs) ns)).0 t in
    (and-eq-true_iff own (is_default i ps ns)).1 (both.0, default_front i ps qs ns both.1)

pub default_append : (i : ℕ) (ps qs : List Slot) (ns : List ℕ) → is_default i ps ns ≡ true → is_default i qs (drop (length ps) ns) ≡ true → is_default i (ps ++ qs) ns ≡ true
unfolding is_default
default_append i [] qs ns s t = t
default_append i (p ∷ ps) qs [] s t = refl
default_append i (p ∷ ps) qs (n ∷ ns) s t =
    let own : Bool = not (eqb p.bit i) || eqb n 0 in
    let both = (and-eq-true_iff own (is_default i ps ns)).0 s in
    (and-eq-true_iff own (is_default i (ps ++ qs) ns)).1 (both.0, default_append i ps qs ns both.1 t)

-- every field whose bit does not stand in the map m says its default
abbrev pub Absent : ℕ → List Slot → List ℕ → Type 0
Absent m ps ns = (i : ℕ) → bit m i ≡ 0 → is_default i ps ns ≡ true

-- so it is of numbers that were read with the map
pub read_absent : (m : ℕ) (ps : List Slot) (s : List ℕ) → Absent m ps (numbers (sizes ps m) s)
unfolding is_default sizes numbers number
read_absent m [] s i e = refl
read_absent m (p ∷ ps) s i e =
    let k : ℕ = bit m p.bit * p.size in
    (and-eq-true_iff (not (eqb p.bit i) || eqb (number (take k s)) 0) (is_default i ps (numbers (sizes ps m) (drop k s)))).1
    (go (eqb p.bit i) refl, read_absent m ps (drop k s) i e)
  where
    go : (t : Bool) → eqb p.bit i ≡ t → not t || eqb (number (take (bit m p.bit * p.size) s)) 0 ≡ true
    go false q = refl
    go true q = rw (eqb-true p.bit i q, e, zero-mul p.size)

-- and of numbers with their own map
pub map_absent : (ps : List Slot) (ns : List ℕ) → Absent (map_of ps ns) ps ns
map_absent ps ns i e = go (is_default i ps ns) (sym (map_bit i ps ns) ∙ e)
  where
    go : (d : Bool) → bit_unless d ≡ 0 → d ≡ true
    go true q = refl
    go false q = absurd (omega arith)

-- then the numbers fit the byte counts that the map gives
pub fits_map : (m : ℕ) (ps : List Slot) (ns : List ℕ) → Fits (counts ps) ns → Absent m ps ns → Fits (sizes ps m) ns
unfolding sizes
fits_map m [] [] none absent = none
fits_map m [] (n ∷ ns) fits absent = elim fits [ ]
fits_map m (p ∷ ps) [] fits absent = elim fits [ ]
fits_map m (p ∷ ps) (n ∷ ns) (more h f) absent =
    more {k = bit m p.bit * p.size} {n = n}
    (bit_case m p.bit
    (λ e. rw (e, zero-mul p.size, (default_cons p.bit n p ps ns (absent p.bit e)).0 refl) (omega arith))
    (λ e. rw (e, one-mul p.size) h))
    (fits_map m ps ns f (λ i e. (default_cons i n p ps ns (absent i e)).1))

-- ---- the test for defaults

pub neither : (s t : Bool) → s || t ≡ false → (s ≡ false) × (t ≡ false)
neither true t e = absurd (true≢false e)
neither false t e = (refl, e)

last_or_below : {A : Type 0} (c i : ℕ) → i < suc c → (i < c → A) → (i ≡ c → A) → A
last_or_below {A} c i h below last = go (dec_lt i c)
  where
    go : Dec (i < c) → A
    go (yes lt) = below lt
    go (no ge) = last (omega arith)

-- where it fails, a field whose bit stands does not say its default
pub no_default : (c m : ℕ) (ps : List Slot) (ns : List ℕ) → says_default c m ps ns ≡ false → (i : ℕ) → i < c → bit m i ≡ 1 → is_default i ps ns ≡ false
unfolding says_default
no_default zero m ps ns t i h e = absurd (omega arith)
no_default (suc c) m ps ns t i h e =
    let both = neither (eqb (bit m c) 1 && is_default c ps ns) (says_default c m ps ns) t in
    last_or_below c i h (λ lt. no_default c m ps ns both.1 i lt e) (λ last. rw (← last, e) at both.0)

pub map_no_default : (c : ℕ) (ps : List Slot) (ns : List ℕ) → says_default c (map_of ps ns) ps ns ≡ false
unfolding says_default
map_no_default zero ps ns = refl
map_no_default (suc i) ps ns = rw (map_bit i ps ns, map_no_default i ps ns) (go (is_default i ps ns))
  where
    go : (d : Bool) → eqb (bit_unless d) 1 && d || false ≡ false
    go true = refl
    go false = refl

-- the test looks at no other bits
says_low : (c k m : ℕ) (ps : List Slot) (ns : List ℕ) → k ≤ c → says_default k (m % 2 ^ c) ps ns ≡ says_default k m ps ns
unfolding says_default
says_low c zero m ps ns h = refl
says_low c (suc i) m ps ns h = rw (bit_mod m i c (omega arith), says_low c i m ps ns (omega arith))

-- of numbers whose absent fields say their default, and of which none of the first c fields does otherwise, the map has these bits of m
module _ (c m : ℕ) (ps : List Slot) (ns : List ℕ) (below : all_below c (map_bits ps) ≡ true) (absent : Absent m ps ns) where
  pub map_back : says_default c m ps ns ≡ false → map_of ps ns ≡ m % 2 ^ c
  map_back t =
      by_bits c (map_lt c ps ns below) (mod-lt m (pow_pos c))
      (λ i lt. map_bit i ps ns
      ∙ bit_case m i (λ e. ap bit_unless (absent i e) ∙ sym e) (λ e. ap bit_unless (no_default c m ps ns t i lt e) ∙ sym e) ∙ sym (bit_mod m i c lt))

  -- so the test for defaults compares the two maps
  pub default_map : not (says_default c m ps ns) ≡ eqb (map_of ps ns) (m % 2 ^ c)
  default_map = go (says_default c m ps ns) refl
    where
      go : (d : Bool) → says_default c m ps ns ≡ d → not d ≡ eqb (map_of ps ns) (m % 2 ^ c)
      go false e = sym (eq-eqb (map_of ps ns) (m % 2 ^ c) (map_back e))
      go true e =
          sym (ne_eqb (map_of ps ns) (m % 2 ^ c)
          (λ q. true≢false (sym e ∙ sym (says_low c c m ps ns (omega arith)) ∙ ap (λ (k : ℕ). says_default c k ps ns) (sym q) ∙ map_no_default c ps ns)))
