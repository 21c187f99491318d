-- Laws of numbers as text, and of a line that grows. Assumes nothing.
use Rattle.std.specs.Prelude.{Option, Some, None}
use mathlib.Core.Path.{◌≡◌, refl, sym, ap, ◌∙◌, subst}
use mathlib.Core.Bool.{Bool, true, false, cond}
use Prim.Native.Nat.{ℕ, zero, suc, ◌+◌, ◌-◌, ◌*◌, ◌/◌, ◌%◌, ◌^◌, ◌≤◌, ◌<◌}
use native.Mathlib.Omega.{arith}
use native.Mathlib.Nat.{pow-suc}
use native.Mathlib.Numerals.{add-one}
use mathlib.Core.List.{List, [], ◌∷◌, ◌++◌, append_assoc, append-nil}
use lib.ListN.{length, take, set, length-append, length-set}
use lib.Seq.{take-suc-set}
use lib.Dec.{ltb}
use borrow.Author.Tests.{lt-ltb, le-ltb, ltb-true, ltb-false}
use Rattle.lines.specs.Text.{glyph, digits, places, decimal, word_digits, word, row_text, text, Empty, Room, Grown, Says}
use Rattle.format.specs.declared.Format.{Format}
use Rattle.layout.proofs.JobLayout.{by_width}
use Rattle.lines.specs.declared.text.Line.{Line}

-- ---- numbers

pub length_digits : (base k n : ℕ) → length (digits base k n) ≡ k
unfolding digits
length_digits base zero n = refl
length_digits base (suc k) n =
    length-append (digits base k (n / base)) (glyph (n % base) ∷ []) ∙ ap (λ (m : ℕ). m + 1) (length_digits base k (n / base)) ∙ add-one k

-- one digit, and more
pub places_one : (k n : ℕ) → n < 10 → places k n ≡ 1
unfolding places
places_one zero n h = refl
places_one (suc k) n h = ap (λ (t : Bool). cond t 1 (places k (n / 10) + 1)) (lt-ltb n 10 h)

pub places_more : (k n : ℕ) → 10 ≤ n → places (suc k) n ≡ places k (n / 10) + 1
unfolding places
places_more k n h = ap (λ (t : Bool). cond t 1 (places k (n / 10) + 1)) (le-ltb n 10 h)

-- the count of digits does not depend on the steps allowed, where they are enough
pub places_enough : (k l n : ℕ) → n ≤ k → n ≤ l → places k n ≡ places l n
places_enough zero l n hk hl = places_one 0 n (omega (arith, hk)) ∙ sym (places_one l n (omega (arith, hk)))
places_enough (suc k) zero n hk hl = places_one (suc k) n (omega (arith, hl)) ∙ sym (places_one 0 n (omega (arith, hl)))
places_enough (suc k) (suc l) n hk hl = go (ltb n 10) refl (λ big. places_enough k l (n / 10) (omega (arith, big, hk)) (omega (arith, big, hl)))
  where
    go : (t : Bool) → ltb n 10 ≡ t → (10 ≤ n → places k (n / 10) ≡ places l (n / 10)) → places (suc k) n ≡ places (suc l) n
    go true q same = places_one (suc k) n (ltb-true n 10 q) ∙ sym (places_one (suc l) n (ltb-true n 10 q))
    go false q same =
        let big = ltb-false n 10 q in
        places_more k n big ∙ ap (λ (m : ℕ). m + 1) (same big) ∙ sym (places_more l n big)

places_zero : (n : ℕ) → places 0 n ≡ 1
unfolding places
places_zero n = refl

tenth : (n m : ℕ) → n < m * 10 → n / 10 < m
tenth n m h = omega (arith, h)

-- a number below 10^(j+1) has at most j + 1 digits
pub places_most : (j k n : ℕ) → n < 10 ^ suc j → places k n ≤ suc j
places_most zero k n h = let one = places_one k n (let z : n < 10 ^ 1 = h in omega (arith, z)) in omega (arith, one)
places_most (suc j) zero n h = let one = places_zero n in omega (arith, one)
places_most (suc j) (suc k) n h = go (ltb n 10) refl (places_most j k (n / 10) (tenth n (10 ^ suc j) (subst (λ (m : ℕ). n < m) (pow-suc 10 (suc j)) h)))
  where
    go : (t : Bool) → ltb n 10 ≡ t → places k (n / 10) ≤ suc j → places (suc k) n ≤ suc (suc j)
    go true q most = let one = places_one (suc k) n (ltb-true n 10 q) in omega (arith, one)
    go false q most = let more = places_more k n (ltb-false n 10 q) in omega (arith, more, most)

pub decimal_most : (n : ℕ) → n < 2 ^ 64 → length (decimal n) ≤ 20
unfolding decimal
decimal_most n h =
    let wide : n < 10 ^ suc 19 = omega (arith, h) in
    let most = places_most 19 n n wide in
    omega (arith, most, length_digits 10 (places n n) n)

-- ---- a line that grows

pub grown_none : (l : Line) → length l.bytes ≡ 128 → Grown l l []
grown_none l w = record { whole = w; len = omega arith; text = sym (append-nil (text l)) }

pub grown_then : {l m r : Line} {bs cs : List ℕ} → Grown l m bs → Grown m r cs → Grown l r (bs ++ cs)
grown_then {l} {m} {r} {bs} {cs} p q =
    record {
      whole = q.whole;
      len = omega (arith, p.len, q.len, length-append bs cs);
      text = q.text ∙ ap (λ (t : List ℕ). t ++ cs) p.text ∙ append_assoc (text l) bs cs;
    }

-- one byte stored after the text
pub grown_byte : (l : Line) (b : ℕ) → Room l 1 → Grown l (record { bytes = set l.bytes l.len b; len = l.len + 1 }) (b ∷ [])
grown_byte l b h =
    let at : l.len < length l.bytes = omega (arith, h.whole, h.enough) in
    record {
      whole = length-set l.bytes l.len b ∙ h.whole;
      len = refl;
      text = ap (λ (n : ℕ). take n (set l.bytes l.len b)) (add-one l.len) ∙ take-suc-set l.bytes l.len b at;
    }

-- one digit more
pub grown_digits : (base k n b : ℕ) {l m r : Line} → 0 < k → b ≡ glyph (n % base) → Grown l m (digits base (k - 1) (n / base)) → Grown m r (b ∷ [])
    → Grown l r (digits base k n)
unfolding digits
grown_digits base zero n b h e p q = absurd (omega (arith, h))
grown_digits base (suc k) n b {l} {m} {r} h e p q =
    let less : suc k - 1 ≡ k = omega arith in
    grown_then (subst (λ (j : ℕ). Grown l m (digits base j (n / base))) less p) (subst (λ (d : ℕ). Grown m r (d ∷ [])) e q)

-- what is left of the room
pub room_left : {l r : Line} {bs : List ℕ} (k n : ℕ) → Room l n → Grown l r bs → length bs + k ≤ n → Room r k
room_left k n room g h = record { whole = g.whole; enough = omega (arith, room.enough, g.len, h) }

-- ---- lines

-- a word has 16 digits at most
pub word_digits_most : (F : Format) → word_digits F ≤ 16
unfolding word_digits
word_digits_most F = by_width (λ (k : ℕ). 2 * k ≤ 16) F (λ n. omega arith) (λ w. omega arith)

pub length_word : (k x : ℕ) → length (word k x) ≡ suc k
unfolding word
length_word k x = ap (λ (n : ℕ). suc n) (length_digits 16 k x)

pub row_most : (k : ℕ) (row : Option ℕ) → k ≤ 16 → length (row_text k row) ≤ 17
unfolding row_text
row_most k (Some x) h = omega (arith, length_word k x, h)
row_most k None h = omega arith

-- what an empty line has grown to
pub says_grown : {l r : Line} {bs : List ℕ} → Empty l → Grown l r bs → length bs ≤ 128 → Says r bs
says_grown {l} {r} {bs} e g h =
    record { most = omega (arith, g.len, g.whole, e.len, h); text = g.text ∙ ap (λ (n : ℕ). take n l.bytes ++ bs) e.len }
