-- Numbers put into a buffer one after the other, eight bytes each. Assumes nothing.
use mathlib.Core.Path.{◌≡◌, refl, sym, ap, ap₂, ◌∙◌, subst}
use Prim.Native.Nat.{ℕ, suc, ◌+◌, ◌*◌, ◌≤◌, ◌<◌}
use native.Mathlib.Nat.{zero-add}
use native.Mathlib.Omega.{arith}
use mathlib.Core.List.{List, [], ◌∷◌, ◌++◌, append_assoc, append-nil}
use lib.ListN.{length, get_or, take, drop, length-append}
use lib.Seq.{take-suc, length-take-le}
use Rattle.numbers.specs.Number.{little_endian, put, put_within}
use Rattle.numbers.proofs.Numbers.{length_number, length_put, put_put, put_room}
use borrow.Author.Tests.{le-leb, lt-leb}
use lib.Dec.{leb}
use mathlib.Core.Bool.{true, false}
use Rattle.std.specs.Prelude.{Result, Ok}
use Rattle.format.specs.declared.cause.Cause.{Cause}
use Rattle.format.specs.declared.cause.Cause.TheVariants as cause
use Rattle.format.specs.Cause.{number}
use Rattle.delivery.specs.Answer.{bytes_of, Delivered}

pub bytes_append : (ns ms : List ℕ) → bytes_of (ns ++ ms) ≡ bytes_of ns ++ bytes_of ms
unfolding bytes_of
bytes_append [] ms = refl
bytes_append (n ∷ ns) ms = ap (λ (t : List ℕ). little_endian 8 n ++ t) (bytes_append ns ms) ∙ sym (append_assoc (little_endian 8 n) (bytes_of ns) (bytes_of ms))

pub bytes_length : (ns : List ℕ) → length (bytes_of ns) ≡ 8 * length ns
unfolding bytes_of
bytes_length [] = refl
bytes_length (n ∷ ns) = length-append (little_endian 8 n) (bytes_of ns) ∙ ap₂ ◌+◌ (length_number 8 n) (bytes_length ns) ∙ omega arith

bytes_one : (n : ℕ) → bytes_of (n ∷ []) ≡ little_endian 8 n
unfolding bytes_of
bytes_one n = append-nil (little_endian 8 n)

-- the bytes of the first i numbers
module _ (ns : List ℕ) (i : ℕ) where
  pub front_length : i ≤ length ns → length (bytes_of (take i ns)) ≡ 8 * i
  front_length h = bytes_length (take i ns) ∙ ap (λ (n : ℕ). 8 * n) (length-take-le i ns h)

  front_suc : i < length ns → bytes_of (take (suc i) ns) ≡ bytes_of (take i ns) ++ little_endian 8 (get_or ns i 0)
  front_suc h = ap bytes_of (take-suc ns i 0 h) ∙ bytes_append (take i ns) (get_or ns i 0 ∷ []) ∙ ap (λ (t : List ℕ). bytes_of (take i ns) ++ t) (bytes_one (get_or ns i 0))

  -- a turn of the loop: the next number is put after those before it
  pub put_more : (s : List ℕ) → i < length ns → 8 * suc i ≤ length s
      → put_within (put s 0 (bytes_of (take i ns))) (8 * i) (little_endian 8 (get_or ns i 0)) ≡ put s 0 (bytes_of (take (suc i) ns))
  put_more s h fits =
      let bs : List ℕ = bytes_of (take i ns) in
      let more : List ℕ = little_endian 8 (get_or ns i 0) in
      let le : i ≤ length ns = omega arith in
      let long : length bs ≡ 8 * i = front_length le in
      let eight : length more ≡ 8 = length_number 8 (get_or ns i 0) in
      let same : length (put s 0 bs) ≡ length s = length_put s 0 bs (omega arith) in
      let at : 8 * i ≡ 0 + length bs = omega arith in
      put_room (put s 0 bs) (8 * i) more (omega arith)
      ∙ ap (λ (n : ℕ). put (put s 0 bs) n more) at
      ∙ put_put s 0 bs more (omega arith)
      ∙ ap (put s 0) (sym (front_suc h))

-- bytes put at the front stand before the rest of the buffer
pub put_front : (s bs : List ℕ) → put s 0 bs ≡ bs ++ drop (length bs) s
put_front s bs = ap (λ (n : ℕ). bs ++ drop n s) (zero-add (length bs))

-- numbers that find no room are not delivered, and others are
module _ (ns s : List ℕ) where
  pub delivered_none : length s < length (bytes_of ns) → Delivered (Ok ns) s s (number cause.Buffer)
  delivered_none h =
      let test : leb (length (bytes_of ns)) (length s) ≡ false = lt-leb (length (bytes_of ns)) (length s) h in
      record { number = rw test; buffer = rw test }

  pub delivered_all : length (bytes_of ns) ≤ length s → Delivered (Ok ns) s (put s 0 (bytes_of ns)) 0
  delivered_all h =
      let test : leb (length (bytes_of ns)) (length s) ≡ true = le-leb (length (bytes_of ns)) (length s) h in
      record { number = rw test; buffer = rw test (put_front s (bytes_of ns)) }

-- what is delivered as one answer is delivered as an equal one
pub delivered_as : {x y : Result (List ℕ) Cause} {s t : List ℕ} {n : ℕ} → x ≡ y → Delivered x s t n → Delivered y s t n
delivered_as {x} {y} {s} {t} {n} e h = subst (λ (z : Result (List ℕ) Cause). Delivered z s t n) e h

-- of one answer the number and the buffer are one alone
pub delivered_unique : {x : Result (List ℕ) Cause} {s t u : List ℕ} {m n : ℕ} → Delivered x s t m → Delivered x s u n → (m ≡ n) × (t ≡ u)
delivered_unique p q = (p.number ∙ sym q.number, p.buffer ∙ sym q.buffer)
