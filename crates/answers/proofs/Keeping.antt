-- The table of answers by class: what is put into it is an answer, and what it says of a pair's class it says of the pair.
-- Assumes nothing.
use mathlib.Core.List.{List}
use mathlib.Core.Logic.{inl, inr}
use mathlib.Core.Path.{◌≡◌, sym, ap, ap₂, ◌∙◌, subst}
use Prim.Native.Nat.{ℕ, zero, suc, ◌+◌, ◌-◌, ◌*◌, ◌%◌, ◌^◌, ◌≤◌, ◌<◌}
use native.Mathlib.Decide.{dec_le, dec_lt, ℕ_discrete}
use native.Mathlib.Omega.{arith}
use lib.Bits.{bit_and, bit_or, and_zero_l, or_zero_r}
use lib.ListN.{get_or, set, replicate, length-replicate, get_or-replicate, length-set, get_or-eq_default}
use lib.Pow.{pow_pos}
use lib.Seq.{get_or-set_same, get_or-set_other}
use Rattle.bits.specs.Bit.{bit}
use Rattle.bits.proofs.Laws.{power_exact, bit_above, bit_pow_other}
use Rattle.bits.proofs.Logic.{bit_of_or}
use Rattle.format.specs.declared.Format.{Format}
use Rattle.format.specs.Format.{Supported}
use Rattle.format.proofs.Room.{exponent_room}
use Rattle.mask.specs.declared.Mask.{Mask}
use Rattle.job.specs.declared.Job.{Job}
use Rattle.job.specs.Guards.{reach}
use Rattle.job.specs.Job.{Valid}
use Rattle.word.specs.declared.Biased.{Biased}
use Rattle.word.specs.Word.{unit_of, all_ones}
use Rattle.special.specs.Asked.{field_is, PairFits}
use Rattle.classes.specs.declared.Fields.{Fields}
use Rattle.classes.specs.declared.Class.{Class}
use Rattle.classes.specs.Class.{InOrder, Ordered, FiniteFields, far_gap, top_field, low_field, class_of, most_field, only_field, ClassIn, Wide, NeverPast, Classed}
use Rattle.answers.specs.Kept.{places, place_of, class_places, Never, asked_bit, bit_of, Refuses, Closed, closed_place, closed_bit, Kept, NoField, ClassEnd, NoPair}
use Rattle.classes.proofs.Aligning.{low_le}
use Rattle.classes.proofs.Classes.{class_reached, class_less}
use Rattle.answers.proofs.FieldBits.{or_apart, fields_apart, mark_apart}

-- a bit set in a word leaves the others as they are
or_other : (word i m : ℕ) → (i ≡ m → ⊥) → bit (bit_or word (2 ^ i)) m ≡ bit word m
or_other word i m ne = bit_of_or word (2 ^ i) m ∙ ap (bit_or (bit word m)) (bit_pow_other i m ne) ∙ or_zero_r (bit word m)

-- no bit of 0 is set
no_bit : (n : ℕ) → bit 0 n ≡ 1 → ⊥
no_bit n e = let z = bit_above {x = 0} n (pow_pos n) in omega arith

-- ---- the word of a class
module _ (j : Job) (k : Class) where
  -- one answer more
  pub refuse_more : (word : ℕ) (i : Biased) → i.0 ≤ most_field (reach j) → Refuses j k word → Never j k i → Refuses j k (bit_or word (bit_of (reach j) i.0))
  refuse_more word i most kept never n known = go (ℕ_discrete i.0 n.0)
    where
      go : Dec (i.0 ≡ n.0) → Never j k n
      go (yes e) = subst (λ (m : ℕ). Never j k (field_is m)) e never
      go (no ne) = let f = reach j in λ l. kept n (λ z. known (or_apart word (bit_of f i.0) (bit_of f n.0) (fields_apart f i.0 n.0 most l ne) ∙ z)) l

  -- only the mark that the class was asked about
  pub marked : Refuses j k (2 ^ asked_bit)
  marked i known = absurd (known (mark_apart (reach j) i.0))

  -- a closed class has no exponent field of c
  pub closed_never : Valid j → Wide j.setting.format (reach j) → Closed j k → (i : Biased) → Never j k i
  closed_never valid wide never i l admits = never (class_less j k i valid (omega arith) admits)

-- the mask that the code forms
pub only_is : (F : Format) (p : ℕ) (i : Biased) → Supported F → p ≡ 2 ^ F.w % 2 ^ 64 → ◌≡◌ {A = Mask} (record { care = p - 1; value = i.0 }) (only_field F i)
only_is F p i ok e = ap (λ (n : ℕ). record { care = n - 1; value = i.0 }) (e ∙ power_exact F.w (omega (arith, exponent_room F ok)))

-- ---- the places
pub place_lt : (f : ℕ) (k : Class) → ClassIn f k → place_of f k < class_places f
place_lt f k h = go k.order h.order_lt
  where
    go : (o : ℕ) → o < 2 → o * ((top_field f).0 + 1) + k.low.0 < class_places f
    go zero l = omega (arith, h.low_le)
    go (suc zero) l = omega (arith, h.low_le)
    go (suc (suc o)) l = absurd (omega arith)

place_unique : (f : ℕ) (k n : Class) → ClassIn f k → ClassIn f n → place_of f k ≡ place_of f n → k ≡ n
place_unique f k n hk hn e = ap₂ (λ (o l : ℕ). record { order = o; low = field_is l }) (go k.order n.order hk.order_lt hn.order_lt e).0 (go k.order n.order hk.order_lt hn.order_lt e).1
  where
    go : (o p : ℕ) → o < 2 → p < 2 → o * ((top_field f).0 + 1) + k.low.0 ≡ p * ((top_field f).0 + 1) + n.low.0 → (o ≡ p) × (k.low.0 ≡ n.low.0)
    go zero zero ho hp is = (omega arith, omega arith)
    go zero (suc zero) ho hp is = absurd (omega (arith, hk.low_le, hn.low_le))
    go (suc zero) zero ho hp is = absurd (omega (arith, hk.low_le, hn.low_le))
    go (suc zero) (suc zero) ho hp is = (omega arith, omega arith)
    go (suc (suc o)) p ho hp is = absurd (omega arith)
    go zero (suc (suc p)) ho hp is = absurd (omega arith)
    go (suc zero) (suc (suc p)) ho hp is = absurd (omega arith)

-- there is room for the classes, and behind them for the two orders
table_room : (f : ℕ) → f < 60 → class_places f + 2 ≤ places
table_room f short = omega arith

-- the classes of an order have a bit each
bit_unique : (f o k l : ℕ) → k ≤ (top_field f).0 → l ≤ (top_field f).0 → closed_bit f o k ≡ closed_bit f o l → k ≡ l
bit_unique f zero k l hk hl e = e
bit_unique f (suc o) k l hk hl e = omega arith

pub bit_le : (f o low : ℕ) → low ≤ (top_field f).0 → closed_bit f o low ≤ (top_field f).0
bit_le f zero low h = h
bit_le f (suc o) low h = omega arith

-- ---- the table
replicated : (k : ℕ) → ◌≡◌ {A = ℕ} (get_or (replicate places 0) k 0) 0
replicated k = go (dec_lt k places)
  where
    go : Dec (k < places) → ◌≡◌ {A = ℕ} (get_or (replicate places 0) k 0) 0
    go (yes l) = get_or-replicate places k 0 0 l
    go (no l) = get_or-eq_default (replicate places 0) 0 {n = k} (omega (arith, length-replicate {A = ℕ} places 0))

pub kept_fresh : (j : Job) → Kept j (replicate places 0)
kept_fresh j = record {
  size = length-replicate {A = ℕ} places 0;
  answers = λ k h i known. absurd (known (ap (λ (n : ℕ). bit_and n (bit_of (reach j) i.0)) (replicated (place_of (reach j) k)) ∙ and_zero_l (bit_of (reach j) i.0)));
  closed = λ k h known. absurd (no_bit (closed_bit (reach j) k.order k.low.0) (rw (replicated (closed_place (reach j) k.order)) at known));
}

module _ (j : Job) (t : List ℕ) (k : Class) (short : reach j < 60) (h : ClassIn (reach j) k) (kept : Kept j t) where
  abbrev f : ℕ
  f = reach j

  -- a class's word, put into its place
  pub kept_set : (word : ℕ) → Refuses j k word → Kept j (set t (place_of f k) word)
  kept_set word new = record {
    size = length-set t (place_of f k) word ∙ kept.size;
    answers = λ n hn. go n hn (ℕ_discrete (place_of f n) (place_of f k));
    closed = λ n hn known. kept.closed n hn (rw (get_or-set_other t (place_of f k) (closed_place f n.order) word 0 (λ e. omega (arith, place_lt f k h))) at known);
  }
    where
      go : (n : Class) → ClassIn f n → Dec (place_of f n ≡ place_of f k) → Refuses j n (get_or (set t (place_of f k) word) (place_of f n) 0)
      go n hn (yes e) =
          subst (λ (m : Class). Refuses j m (get_or (set t (place_of f k) word) (place_of f m) 0)) (sym (place_unique f n k hn h e))
          (subst (Refuses j k) (sym (get_or-set_same t (place_of f k) word 0 (omega (arith, kept.size, place_lt f k h, table_room f short)))) new)
      go n hn (no ne) = subst (Refuses j n) (sym (get_or-set_other t (place_of f k) (place_of f n) word 0 ne)) (kept.answers n hn)

  abbrev at : ℕ
  at = closed_place f k.order

  abbrev closing : ℕ
  closing = bit_or (get_or t at 0) (2 ^ closed_bit f k.order k.low.0)

  -- one closed class more
  pub kept_close : Closed j k → Kept j (set t at closing)
  kept_close never = record {
    size = length-set t at closing ∙ kept.size;
    answers = λ n hn. subst (Refuses j n) (sym (get_or-set_other t at (place_of f n) closing 0 (λ e. omega (arith, place_lt f n hn)))) (kept.answers n hn);
    closed = λ n hn. go n hn (ℕ_discrete n.order k.order);
  }
    where
      same : get_or (set t at closing) at 0 ≡ closing
      same = get_or-set_same t at closing 0 (omega (arith, kept.size, h.order_lt, table_room f short))

      there : (n : Class) → ClassIn f n → n.order ≡ k.order → bit closing (closed_bit f k.order n.low.0) ≡ 1 → Dec (closed_bit f k.order k.low.0 ≡ closed_bit f k.order n.low.0) → Closed j n
      there n hn o known (yes e) =
          subst (Closed j) (ap₂ (λ (q l : ℕ). record { order = q; low = field_is l }) (sym o) (bit_unique f k.order k.low.0 n.low.0 h.low_le hn.low_le e)) never
      there n hn o known (no ne) =
          kept.closed n hn (rw o (sym (or_other (get_or t at 0) (closed_bit f k.order k.low.0) (closed_bit f k.order n.low.0) ne) ∙ known))

      go : (n : Class) → ClassIn f n → Dec (n.order ≡ k.order) → bit (get_or (set t at closing) (closed_place f n.order) 0) (closed_bit f n.order n.low.0) ≡ 1 → Closed j n
      go n hn (yes o) known = there n hn o (rw (o, same) at known) (ℕ_discrete (closed_bit f k.order k.low.0) (closed_bit f k.order n.low.0))
      go n hn (no o) known = kept.closed n hn (rw (get_or-set_other t at (closed_place f n.order) closing 0 (λ e. o (omega arith))) at known)

-- ---- the pairs that classes answer for
pub end_short : (j : Job) (ones : ℕ) → ones ≡ all_ones j.setting.format → Wide j.setting.format (reach j) → ClassEnd j (field_is (ones - 2))
end_short j ones is wide E e l h = (record { wide = wide; normal = l; within = inl (omega arith) }, omega arith)

pub end_long : (j : Job) (ones : ℕ) → ones ≡ all_ones j.setting.format → Wide j.setting.format (reach j) → NeverPast j.setting.format j.c.mask → ClassEnd j (field_is ones)
end_long j ones is wide never E e l h = (record { wide = wide; normal = l; within = inr never }, omega arith)

-- ---- a pair
pub class_in : (f : ℕ) (p : Fields) → Ordered p → ClassIn f (class_of f p)
class_in f p h = record { order_lt = h.order_lt; low_le = low_le f ((unit_of p.larger).0 - (unit_of p.smaller).0) p.smaller.0 }

-- a class that admits nothing there has no pair that does
pub pair_never : (j : Job) (p : Fields) → FiniteFields j.setting.format p → Valid j → Classed j.setting.format (reach j) j.c.mask p.larger p.smaller
    → NoField j (class_of (reach j) p) (unit_of p.larger) → InOrder (PairFits j) p.order p.larger p.smaller → ⊥
pair_never j p fin valid classed none P =
    let r = class_reached j valid p.order p.larger p.smaller fin.finite fin.by_size.ordered P classed in
    none r.field r.least r.meets r.most r.holds

pair_closed : (j : Job) (p : Fields) → FiniteFields j.setting.format p → Valid j → Classed j.setting.format (reach j) j.c.mask p.larger p.smaller
    → Closed j (class_of (reach j) p) → InOrder (PairFits j) p.order p.larger p.smaller → ⊥
pair_closed j p fin valid classed never = pair_never j p fin valid classed (λ i least met. closed_never j (class_of (reach j) p) valid classed.wide never i)

-- what the table says of the closed classes it says of their pairs
pub partner_closed : (j : Job) (t : List ℕ) (end : Biased) (p : Fields) → Valid j → ClassEnd j end → Kept j t → Ordered p → (top_field (reach j)).0 ≤ p.larger.0 → p.larger.0 < end.0
    → bit (get_or t (closed_place (reach j) p.order) 0) (closed_bit (reach j) p.order (class_of (reach j) p).low.0) ≡ 1
    → InOrder (PairFits j) p.order p.larger p.smaller → ⊥
partner_closed j t end p valid within kept sorted top l known =
    let by = within p.larger p.smaller (inl top) l in
    pair_closed j p (record { by_size = sorted; finite = by.1 }) valid by.0 (kept.closed (class_of (reach j) p) (class_in (reach j) p sorted) known)

-- where all classes of pairs with a's field above the far gap are closed, none of them admits a case
pub pairs_closed : (j : Job) (t : List ℕ) (end : Biased) → Valid j → ClassEnd j end → Kept j t
    → ((E e : Biased) → far_gap (reach j) < E.0 → e.0 ≤ E.0 → bit (get_or t (closed_place (reach j) 0) 0) (closed_bit (reach j) 0 (low_field (reach j) E e).0) ≡ 1)
    → ((E e : Biased) → far_gap (reach j) < e.0 → e.0 < E.0 → bit (get_or t (closed_place (reach j) 1) 0) (closed_bit (reach j) 1 (low_field (reach j) E e).0) ≡ 1) → NoPair j end
pairs_closed j t end valid within kept below above d e large d-lt e-lt = go (dec_le e.0 d.0)
  where
    go : Dec (e.0 ≤ d.0) → PairFits j d e → ⊥
    go (yes q) = partner_closed j t end (record { order = 0; larger = d; smaller = e }) valid within kept (record { order_lt = omega arith; ordered = q }) (omega arith) d-lt (below d e large q)
    go (no q) = partner_closed j t end (record { order = 1; larger = e; smaller = d }) valid within kept (record { order_lt = omega arith; ordered = omega arith }) (omega arith) e-lt (above e d large (omega arith))
