-- Numbers by their byte counts: numbers that fit are written and read back, and bytes are read and written back. One turn of each loop:
-- what is left to do after a turn, with what the turn did, is what was left before it. Assumes nothing.
use mathlib.Core.Path.{◌≡◌, refl, sym, ap, ap₂, ◌∙◌}
use Prim.Native.Nat.{ℕ, zero, suc, ◌+◌, ◌^◌, ◌≤◌, ◌<◌}
use native.Mathlib.Numerals.{add-one}
use native.Mathlib.Omega.{arith}
use mathlib.Core.List.{List, [], ◌∷◌, ◌++◌, append_assoc, append-nil}
use mathlib.Core.Logic.{◌⊎◌, inl, inr}
use lib.ListN.{length, get_or, take, drop, set, length-append, length-drop}
use lib.Seq.{length-take-le, take_all, drop-nil, take_at, drop_at, take-add, take-suc-set, drop-cons, drop-drop}
use Rattle.std.specs.List.{sum}
use Rattle.std.proofs.lemmas.List.Sums.{sum_by-cons}
use Rattle.numbers.specs.Number.{Bytes, little_endian, number, put, put_within}
use Rattle.numbers.specs.Numbers.{total, number_bytes, numbers}
use Rattle.numbers.proofs.Numbers.{bytes_take, bytes_drop, length_number, number_bytes_lem, bytes_number, put_put, put_room}

-- as many numbers as byte counts, each below 256 to its byte count
pub data Fits : List ℕ → List ℕ → Type 0 where
  none : Fits [] []
  more : {k n : ℕ} {ks ns : List ℕ} → n < 256 ^ k → Fits ks ns → Fits (k ∷ ks) (n ∷ ns)

-- ---- written and read back
pub length_bytes : {ks ns : List ℕ} → Fits ks ns → length (number_bytes ks ns) ≡ total ks
unfolding number_bytes total
length_bytes none = refl
length_bytes (more {k = k} {n = n} {ks = ks} {ns = ns} h f) =
    length-append (little_endian k n) (number_bytes ks ns) ∙ ap₂ ◌+◌ (length_number k n) (length_bytes f)

pub numbers_back : {ks ns : List ℕ} → Fits ks ns → (t : List ℕ) → numbers ks (number_bytes ks ns ++ t) ≡ ns
unfolding number_bytes numbers
numbers_back none t = refl
numbers_back (more {k = k} {n = n} {ks = ks} {ns = ns} h f) t =
    let tail : List ℕ = number_bytes ks ns ++ t in
    ap (numbers (k ∷ ks)) (append_assoc (little_endian k n) (number_bytes ks ns) t)
    ∙ ap₂ (λ (x : ℕ) (xs : List ℕ). x ∷ xs)
    (ap number (take_at (little_endian k n) tail k (length_number k n)) ∙ number_bytes_lem k n h)
    (ap (numbers ks) (drop_at (little_endian k n) tail k (length_number k n)) ∙ numbers_back f t)

-- ---- read and written back
pub bytes_back : (ks s : List ℕ) → Bytes s → total ks ≤ length s → number_bytes ks (numbers ks s) ≡ take (total ks) s
unfolding number_bytes numbers total
bytes_back [] s b h = refl
bytes_back (k ∷ ks) s b h =
    let whole : length (take k s) ≡ k = length-take-le k s (omega arith) in
    ap₂ ◌++◌
    (ap (λ (j : ℕ). little_endian j (number (take k s))) (sym whole) ∙ bytes_number (take k s) (bytes_take k s b))
    (bytes_back ks (drop k s) (bytes_drop k s b) (rw length-drop (omega arith)))
    ∙ sym (take-add k (total ks) s)

-- ---- turns of the loops

-- what is left of a list from element i on, and after all its elements
pub drop_one {ℓ} : {A : Type ℓ} (l : List A) (i : ℕ) (d : A) → i < length l → drop i l ≡ get_or l i d ∷ drop (i + 1) l
drop_one l i d h = rw add-one (drop-cons l i d h)

pub drop_all {ℓ} : {A : Type ℓ} (l : List A) (i : ℕ) → length l ≤ i → drop i l ≡ []
drop_all [] i h = drop-nil i
drop_all (x ∷ l) zero h = absurd (omega arith)
drop_all (x ∷ l) (suc i) h = drop_all l i (omega arith)

-- a list whose first i elements are in place, and one more
pub place_one : (l rest : List ℕ) (i x : ℕ) → i < length l → take (i + 1) (set l i x) ++ rest ≡ take i l ++ x ∷ rest
place_one l rest i x h = rw (add-one, take-suc-set l i x h) (append_assoc (take i l) (x ∷ []) rest)

-- all of them are in place
pub placed_all : (l rest : List ℕ) (i : ℕ) → length l ≤ i → rest ≡ [] → take i l ++ rest ≡ l
placed_all l rest i h e = ap₂ ◌++◌ (take_all i l h) e ∙ append-nil l

module _ (ks : List ℕ) (i : ℕ) (h : i < length ks) where
  pub total_turn : get_or ks i 0 + total (drop (i + 1) ks) ≡ total (drop i ks)
  unfolding total
  total_turn = sym (ap total (drop_one ks i 0 h))

  pub read_turn : (s into : List ℕ) (at : ℕ) → i < length into
      → take (i + 1) (set into i (number (take (get_or ks i 0) (drop at s)))) ++ numbers (drop (i + 1) ks) (drop (at + get_or ks i 0) s)
      ≡ take i into ++ numbers (drop i ks) (drop at s)
  unfolding numbers
  read_turn s into at g =
      let k : ℕ = get_or ks i 0 in
      let x : ℕ = number (take k (drop at s)) in
      place_one into (numbers (drop (i + 1) ks) (drop (at + k) s)) i x g
      ∙ ap (λ (t : List ℕ). take i into ++ x ∷ numbers (drop (i + 1) ks) t) (sym (drop-drop k at s))
      ∙ ap (λ (js : List ℕ). take i into ++ numbers js (drop at s)) (sym (drop_one ks i 0 h))

-- the total is std's sum
pub total_sum : (ks : List ℕ) → sum ks ≡ total ks
unfolding total
total_sum [] = refl
total_sum (k ∷ ks) = sum_by-cons (λ x. x) k ks ∙ ap (λ (n : ℕ). k + n) (total_sum ks)

-- the numbers' bytes are no more than their byte counts say
bytes_le : (ks ns : List ℕ) → length (number_bytes ks ns) ≤ total ks
unfolding number_bytes total
bytes_le [] ns = omega arith
bytes_le (k ∷ ks) [] = omega arith
bytes_le (k ∷ ks) (n ∷ ns) = omega (arith, bytes_le ks ns, length-append (little_endian k n) (number_bytes ks ns), length_number k n)

-- a turn of the loop that puts: the number's bytes find room, and those of the others go after them
module _ (k n next : ℕ) (ks ns b : List ℕ) (room : next + total (k ∷ ks) ≤ length b) where
  pub put_next : put_within b next (little_endian k n) ≡ put b next (little_endian k n)
  unfolding total
  put_next = put_room b next (little_endian k n) (rw length_number (omega (arith, room)))

  pub put_turn : put (put b next (little_endian k n)) (next + k) (number_bytes ks ns) ≡ put b next (number_bytes (k ∷ ks) (n ∷ ns))
  unfolding total number_bytes
  put_turn =
      let bs : List ℕ = little_endian k n in
      let long : length bs ≡ k = length_number k n in
      ap (λ (j : ℕ). put (put b next bs) (next + j) (number_bytes ks ns)) (sym long)
      ∙ put_put b next bs (number_bytes ks ns) (omega (arith, bytes_le ks ns, long))

-- no numbers are left, so no bytes
pub no_bytes : (ks ns : List ℕ) → (ks ≡ []) ⊎ (ns ≡ []) → number_bytes ks ns ≡ []
unfolding number_bytes
no_bytes [] ns h = refl
no_bytes (k ∷ ks) [] h = refl
no_bytes (k ∷ ks) (n ∷ ns) (inl e) = absurd (cc)
no_bytes (k ∷ ks) (n ∷ ns) (inr e) = absurd (cc)
