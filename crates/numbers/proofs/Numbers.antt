-- Numbers as bytes: k bytes of a number below 256^k read back as the number, and bytes that are read write back as they were.
-- Bytes put one after the other are put together. Assumes nothing.
use mathlib.Core.Path.{◌≡◌, refl, sym, ap, ap₂, ◌∙◌}
use Prim.Native.Nat.{ℕ, zero, suc, ◌+◌, ◌*◌, ◌/◌, ◌%◌, ◌^◌, ◌-◌, ◌≤◌, ◌<◌}
use native.Mathlib.Nat.{add-zero, mod-eq_of_lt, div-eq_of_lt, mod-add-div, add-mul-mod_self_left, add-mul-div_left, pow-suc, mul_comm, div-lt_iff_lt-mul, zero-lt-suc, div-div-eq-div-mul, div-one, lt_of_lt_of_le, pow-le-pow_right, min-le_left}
use native.Mathlib.Omega.{arith}
use native.Mathlib.Numerals.{add-one}
use mathlib.Core.List.{List, [], ◌∷◌, ◌++◌, append_assoc}
use lib.ListN.{length, get_or, take, drop, set, length-append, length-take, length-drop, take-append-drop}
use lib.Seq.{length-take-le, get_or-drop, take_at, drop_at, drop-cons, take_all, take-suc-set, drop-drop}
use borrow.Rule.Slice.PartMut.{put_mid}
use mathlib.Core.Bool.{Bool, cond}
use borrow.Author.Tests.{le-leb, lt-leb}
use Rattle.numbers.specs.Number.{Bytes, little_endian, number, number_within, put, put_within}

-- ---- parts of bytes are bytes
pub bytes_drop : (n : ℕ) (s : List ℕ) → Bytes s → Bytes (drop n s)
bytes_drop n s h i = rw get_or-drop (h (n + i))

pub bytes_take : (n : ℕ) (s : List ℕ) → Bytes s → Bytes (take n s)
bytes_take zero s h i = omega arith
bytes_take (suc n) [] h i = omega arith
bytes_take (suc n) (b ∷ s) h zero = h zero
bytes_take (suc n) (b ∷ s) h (suc i) = bytes_take n s (λ j. h (suc j)) i

-- ---- the bytes of a number
pub length_number : (k x : ℕ) → length (little_endian k x) ≡ k
unfolding little_endian
length_number zero x = refl
length_number (suc k) x = ap suc (length_number k (x / 256))

digit : (x : ℕ) → x % 256 + 256 * (x / 256) ≡ x
digit x = mod-add-div x 256

pub number_bytes_lem : (k x : ℕ) → x < 256 ^ k → number (little_endian k x) ≡ x
unfolding little_endian number
number_bytes_lem zero x h = omega arith
number_bytes_lem (suc k) x h = ap (λ (u : ℕ). x % 256 + 256 * u) (number_bytes_lem k (x / 256) ((div-lt_iff_lt-mul {k = 256} {x = x} {y = 256 ^ k} (zero-lt-suc 255)).1 (rw pow-suc at h))) ∙ digit x

pub number_lt : (s : List ℕ) → Bytes s → number s < 256 ^ length s
unfolding number
number_lt [] h = omega arith
number_lt (b ∷ s) h = rw pow-suc (omega (arith, h zero, number_lt s (λ i. h (suc i))))

pub bytes_number : (s : List ℕ) → Bytes s → little_endian (length s) (number s) ≡ s
unfolding little_endian number
bytes_number [] h = refl
bytes_number (b ∷ s) h =
    let low : (b + 256 * number s) % 256 ≡ b = add-mul-mod_self_left b 256 (number s) ∙ mod-eq_of_lt (h zero) in
    let high : (b + 256 * number s) / 256 ≡ number s = add-mul-div_left b (number s) (zero-lt-suc 255) ∙ ap (λ (u : ℕ). u + number s) (div-eq_of_lt (h zero)) ∙ omega arith in
    ap₂ (λ (u : ℕ) (t : List ℕ). u ∷ t) low (ap (little_endian (length s)) high ∙ bytes_number s (λ i. h (suc i)))

-- one more byte of a number
pub number_suc : (k x : ℕ) → little_endian (suc k) x ≡ little_endian k x ++ (x / 256 ^ k % 256 ∷ [])
unfolding little_endian
number_suc zero x = rw div-one
number_suc (suc k) x = ap (λ (t : List ℕ). x % 256 ∷ t) (number_suc k (x / 256) ∙ ap (λ (u : ℕ). little_endian k (x / 256) ++ (u % 256 ∷ [])) (div-div-eq-div-mul x 256 (256 ^ k) ∙ ap (λ (u : ℕ). x / u) (mul_comm 256 (256 ^ k) ∙ sym (pow-suc 256 k))))

-- what is left of a number after one byte more
pub left_suc : (x i : ℕ) → x / 256 ^ i / 256 ≡ x / 256 ^ suc i
left_suc x i = div-div-eq-div-mul x (256 ^ i) 256 ∙ ap (λ (u : ℕ). x / u) (sym (pow-suc 256 i))

-- ---- a number in a list of bytes
pub number_take_lt : (k : ℕ) (s : List ℕ) → Bytes s → number (take k s) < 256 ^ k
number_take_lt k s b = lt_of_lt_of_le (number_lt (take k s) (bytes_take k s b)) (pow-le-pow_right {n = 256} (omega arith) {j = k} (rw length-take (min-le_left k (length s))))

-- one more byte in front
number_cons : (s : List ℕ) (p k : ℕ) → p < length s → number (take (suc k) (drop p s)) ≡ get_or s p 0 + 256 * number (take k (drop (suc p) s))
unfolding number
number_cons s p k h = rw (drop-cons s p 0 h)

-- a turn of the loop that reads: the byte before those passed is taken in
pub read_more : (s : List ℕ) (at k i n : ℕ) → 0 < i → i ≤ k → at + k ≤ length s → n ≡ number (take (k - i) (drop (at + i) s))
    → n * 256 + get_or s (at + (i - 1)) 0 ≡ number (take (k - (i - 1)) (drop (at + (i - 1)) s))
read_more s at k i n pos le fits e =
    let p : ℕ = at + (i - 1) in
    let back : suc p ≡ at + i = omega arith in
    let count : k - (i - 1) ≡ suc (k - i) = omega arith in
    let more : number (take (suc (k - i)) (drop p s)) ≡ get_or s p 0 + 256 * number (take (k - i) (drop (suc p) s)) = number_cons s p (k - i) (omega arith) in
    let rest : number (take (k - i) (drop (suc p) s)) ≡ n = ap (λ (q : ℕ). number (take (k - i) (drop q s))) back ∙ sym e in
    let same : n * 256 + get_or s p 0 ≡ get_or s p 0 + 256 * n = omega arith in
    same ∙ ap (λ (u : ℕ). get_or s p 0 + 256 * u) (sym rest) ∙ sym more ∙ ap (λ (q : ℕ). number (take q (drop p s))) (sym count)

-- before the last turn seven bytes are passed at most
pub read_small : (s : List ℕ) (at k i n : ℕ) → Bytes s → 0 < i → k ≤ 8 → n ≡ number (take (k - i) (drop (at + i) s)) → n < 256 ^ 7
read_small s at k i n b pos le e =
    rw e (lt_of_lt_of_le (number_take_lt (k - i) (drop (at + i) s) (bytes_drop (at + i) s b)) (pow-le-pow_right {n = 256} (omega arith) {j = 7} (omega arith)))

-- ---- bytes put into a buffer
pub put_none : (s : List ℕ) (at : ℕ) → put s at [] ≡ s
put_none s at = ap (λ (n : ℕ). take at s ++ drop n s) (add-zero at) ∙ take-append-drop at s

pub length_put : (s : List ℕ) (at : ℕ) (bs : List ℕ) → at + length bs ≤ length s → length (put s at bs) ≡ length s
length_put s at bs h =
    length-append (take at s) (bs ++ drop (at + length bs) s)
    ∙ ap₂ ◌+◌ (length-take-le at s (omega arith)) (length-append bs (drop (at + length bs) s) ∙ ap (λ (n : ℕ). length bs + n) (length-drop (at + length bs) s))
    ∙ omega arith

-- bytes put right after others are put together with them
pub put_put : (s : List ℕ) (at : ℕ) (bs cs : List ℕ) → at + (length bs + length cs) ≤ length s
    → put (put s at bs) (at + length bs) cs ≡ put s at (bs ++ cs)
put_put s at bs cs h =
    let n : ℕ = at + length bs in
    let head : List ℕ = take at s ++ bs in
    let tail : List ℕ = drop n s in
    let size : length head ≡ n = length-append (take at s) bs ∙ ap (λ (k : ℕ). k + length bs) (length-take-le at s (omega arith)) in
    let split : put s at bs ≡ head ++ tail = sym (append_assoc (take at s) bs tail) in
    let left : take n (put s at bs) ≡ head = ap (take n) split ∙ take_at head tail n size in
    let right : drop (n + length cs) (put s at bs) ≡ drop (n + length cs) s =
    ap (drop (n + length cs)) split ∙ sym (drop-drop (length cs) n (head ++ tail)) ∙ ap (drop (length cs)) (drop_at head tail n size) ∙ drop-drop (length cs) n s in
    let total : n + length cs ≡ at + length (bs ++ cs) = omega (arith, length-append bs cs) in
    ap₂ (λ (u v : List ℕ). u ++ (cs ++ v)) left (right ∙ ap (λ (k : ℕ). drop k s) total)
    ∙ append_assoc (take at s) bs (cs ++ drop (at + length (bs ++ cs)) s)
    ∙ ap (λ (u : List ℕ). take at s ++ u) (sym (append_assoc bs cs (drop (at + length (bs ++ cs)) s)))

-- a turn of the loop that writes: the next byte stands after those before it
pub byte_more : (s : List ℕ) (i x left : ℕ) → i < length s → left ≡ x / 256 ^ i → take i s ≡ little_endian i x
    → take (i + 1) (set s i (left % 256)) ≡ little_endian (i + 1) x
byte_more s i x left h e f = rw (add-one, take-suc-set s i (left % 256) h, number_suc, f, e)

-- after the last turn they are put
pub part_put : (s : List ℕ) (at k n x : ℕ) (bs : List ℕ) (i : ℕ) → n ≡ k → length bs ≡ k → i ≡ k → take i bs ≡ little_endian i x
    → put_mid at n s bs ≡ put s at (little_endian k x)
part_put s at k n x bs i e long same f =
    let all : bs ≡ little_endian k x = sym (take_all i bs (omega arith)) ∙ f ∙ ap (λ (j : ℕ). little_endian j x) same in
    rw (e, drop-drop k at s, all, length_number) refl

-- bytes that find room are put, and others are not
pub put_room : (s : List ℕ) (at : ℕ) (bs : List ℕ) → at + length bs ≤ length s → put_within s at bs ≡ put s at bs
unfolding put_within
put_room s at bs h = ap (λ (t : Bool). cond t (put s at bs) s) (le-leb (at + length bs) (length s) h)

pub put_full : (s : List ℕ) (at : ℕ) (bs : List ℕ) → length s < at + length bs → put_within s at bs ≡ s
unfolding put_within
put_full s at bs h = ap (λ (t : Bool). cond t (put s at bs) s) (lt-leb (at + length bs) (length s) h)

-- a number is read where its bytes stand, and is 0 elsewhere
pub within_room : (s : List ℕ) (at k : ℕ) → k ≤ 8 → at + k ≤ length s → number_within s at k ≡ number (take k (drop at s))
unfolding number_within
within_room s at k le h = rw (le-leb k 8 le, le-leb (at + k) (length s) h)

pub within_wide : (s : List ℕ) (at k : ℕ) → 8 < k → number_within s at k ≡ 0
unfolding number_within
within_wide s at k l = rw (lt-leb k 8 l)

pub within_past : (s : List ℕ) (at k : ℕ) → k ≤ 8 → length s < at + k → number_within s at k ≡ 0
unfolding number_within
within_past s at k le h = rw (le-leb k 8 le, lt-leb (at + k) (length s) h)
