-- The question for a number of so many digits: what it keeps has a quotient, and below it a fraction that meets a mask, exactly when it
-- meets one mask for both; the word follows from both; and the two quotients that are asked are all there are.
-- Assumes nothing.
use mathlib.Core.Logic.{◌↔◌, ◌⊎◌, inl, inr, ⊎_elim}
use mathlib.Core.Path.{◌≡◌, refl, sym, ap, ap₂, ◌∙◌, subst}
use mathlib.Core.Bool.{Bool, true, false, true≢false, false≢true}
use Prim.Native.Nat.{ℕ, zero, suc, ◌+◌, ◌-◌, ◌/◌, ◌%◌, ◌^◌, ◌≤◌, ◌<◌}
use native.Mathlib.Nat.{mod-lt}
use native.Mathlib.Omega.{arith}
use lib.Bits.{and_zero_r}
use lib.Ieee.{size}
use lib.Pow.{pow_pos}
use Rattle.std.specs.Prelude.{Option, None, Some, is_some}
use Rattle.format.specs.declared.Format.{Format}
use Rattle.mask.specs.declared.Mask.{Mask}
use Rattle.mask.specs.Mask.{Meets, meets, free_mask}
use Rattle.mask.proofs.Checks.{meets_true}
use Rattle.word.specs.declared.Biased.{Biased}
use Rattle.rounding.specs.declared.Direction.{Direction}
use Rattle.rounding.specs.declared.Direction.TheVariants.{TowardZero}
use Rattle.word.specs.declared.Unit as exponent
use Rattle.word.specs.Word.{field_of, signed}
use Rattle.rounding.specs.Rounding.{direction}
use Rattle.rounding.proofs.Size.{size_zero}
use Rattle.job.specs.declared.Dropped.{Dropped}
use Rattle.job.specs.Dropped.{ValidDropped}
use Rattle.making.specs.declared.Aligned as pair
use Rattle.outcome.specs.declared.Target.{Target}
use Rattle.rounding.specs.Sticky.{kept_part}
use Rattle.rounding.specs.Width.{sum_bits}
use Rattle.rounding.specs.Outcome.{rounded_unit, kept_of, bounded_held, zero_sign, outcome}
use Rattle.making.specs.Making.{Making, columns_of}
use Rattle.making.proofs.Making.{some_made, none_made, making_map, making_answer}
use Rattle.making.proofs.Made.{made_lt}
use Rattle.outcome.specs.Outcome.{Serves}
use Rattle.outcome.specs.Question.{least_quotient, NextQuotient, Sized, OnlyDigits, topped, OfDigits, word_or_overflow, SoughtBy, Seeks}
use Rattle.outcome.specs.Ways.{ways_at, InWay}
use Rattle.outcome.proofs.Topped.{topped_meets, size_none}
use Rattle.outcome.proofs.Kept.{kept_lt, quotient_low, quotient_high, least_known}
use Rattle.outcome.proofs.Fields.{held_word_lem}
use Rattle.outcome.proofs.Ways.{drops_in_way}

module _ (q f : ℕ) (d : Direction) (u : exponent.Unit) (h : ℕ) (fraction : Mask) (hc : fraction.care < 2 ^ f) (hv : fraction.value < 2 ^ f) where
  -- for one number
  kept_meets : (n count : ℕ) → 0 < count → count ≤ sum_bits q f → size n ≡ count
      → ((kept_of q f d n u / 2 ^ f ≡ h) × Meets (kept_of q f d n u % 2 ^ f) fraction) ↔ Meets (kept_part q d n u.0 (rounded_unit q f count u).0) (topped 2 f h fraction)
  kept_meets n zero some most digits = absurd (omega arith)
  kept_meets n (suc m) some most digits =
      let top = topped_meets 2 f h (kept_of q f d n u) fraction hc hv (kept_lt q f d n u m digits most) in
      let e : kept_of q f d n u ≡ kept_part q d n u.0 (rounded_unit q f (suc m) u).0 = ap (λ (k : ℕ). kept_part q d n u.0 (rounded_unit q f k u).0) digits in (
        (λ p. subst (λ (y : ℕ). Meets y (topped 2 f h fraction)) e (top.1 p)),
        λ p. top.0 (subst (λ (y : ℕ). Meets y (topped 2 f h fraction)) (sym e) p),
      )

-- for any number that meets x, which asks for so many digits
module _ (f : ℕ) (d : Direction) (u : exponent.Unit) (h : ℕ) (fraction : Mask) (hc : fraction.care < 2 ^ f) (hv : fraction.value < 2 ^ f) (A : pair.Aligned) (count : ℕ) (x : Mask)
    (only : OnlyDigits (columns_of f A) count x) where
  pub counted_asked : (k : exponent.Unit) (m : Mask) (r : Bool) → 0 < count → count ≤ sum_bits A.below f
      → k ≡ rounded_unit A.below f count u → m ≡ topped 2 f h fraction
      → ((r ≡ true) ↔ Making f A (λ (n : ℕ). Meets n x × Meets (kept_part A.below d n u.0 k.0) m))
      → (r ≡ true) ↔ Making f A (λ (n : ℕ). Meets n x × (kept_of A.below f d n u / 2 ^ f ≡ h) × Meets (kept_of A.below f d n u % 2 ^ f) fraction)
  counted_asked k m r some most ek em asks =
      making_answer f A (λ (n : ℕ). Meets n x × Meets (kept_part A.below d n u.0 k.0) m)
      (λ (n : ℕ). Meets n x × (kept_of A.below f d n u / 2 ^ f ≡ h) × Meets (kept_of A.below f d n u % 2 ^ f) fraction) r
      (λ n made. (
        (λ p.
            let t = (kept_meets A.below f d u h fraction hc hv n count some most (only n (made_lt f A n made) p.0)).1 (rw (ek, em) at p.1) in
            (p.0, t.0, t.1)),
        λ p. (p.0, rw (ek, em) ((kept_meets A.below f d u h fraction hc hv n count some most (only n (made_lt f A n made) p.0)).0 (p.1, p.2))),
      ))
      asks

-- what is sought, where there is none
pub sought_none : (F : Format) (d : Direction) (s : ℕ) (c : Mask) (e : Biased) (r : Option Mask) → is_some r ≡ false → Seeks F d s c e r → Seeks F d s c e None
sought_none F d s c e None none seeks = seeks
sought_none F d s c e (Some m) none seeks = absurd (true≢false none)

-- the word of a number of so many digits, with a quotient above the fraction
module _ (q : ℕ) (F : Format) (d : Direction) (s : ℕ) (u : exponent.Unit) (count h : ℕ) (e : Biased) (ee : e ≡ field_of (rounded_unit q F.f count u) h) where
  quotient_word : (n : ℕ) → size n ≡ count → kept_of q F.f d n u / 2 ^ F.f ≡ h
      → signed F s (bounded_held q F d n u) ≡ word_or_overflow F d s e (kept_of q F.f d n u % 2 ^ F.f)
  quotient_word n es eq =
      held_word_lem q F d s n u
      ∙ ap (λ (k : Biased). word_or_overflow F d s k (kept_of q F.f d n u % 2 ^ F.f)) (ap₂ (λ (m k : ℕ). field_of (rounded_unit q F.f m u) k) es eq ∙ sym ee)

  -- where it meets c, by its fraction
  quotient_fields : (c fraction : Mask) → SoughtBy F d s c e fraction → (n : ℕ) → size n ≡ count → kept_of q F.f d n u / 2 ^ F.f ≡ h
      → Meets (signed F s (bounded_held q F d n u)) c ↔ Meets (kept_of q F.f d n u % 2 ^ F.f) fraction
  quotient_fields c fraction seeks n es eq = rw (quotient_word n es eq) (seeks.meets (kept_of q F.f d n u % 2 ^ F.f) (mod-lt (kept_of q F.f d n u) (pow_pos F.f)))

  -- where no fraction is sought, it does not meet c
  quotient_never : (c : Mask) → Seeks F d s c e None → (n : ℕ) → size n ≡ count → kept_of q F.f d n u / 2 ^ F.f ≡ h
      → Meets (signed F s (bounded_held q F d n u)) c → ⊥
  quotient_never c seeks n es eq met =
      seeks (kept_of q F.f d n u % 2 ^ F.f) (mod-lt (kept_of q F.f d n u) (pow_pos F.f)) (rw (quotient_word n es eq) at met)

module _ (F : Format) (d : Direction) (s : ℕ) (u : exponent.Unit) (A : pair.Aligned) (c : Mask) (count h : ℕ) (P : ℕ → Type 0) (digits : (n : ℕ) → P n → size n ≡ count)
    (e : Biased) (ee : e ≡ field_of (rounded_unit A.below F.f count u) h) where
  pub quotient_asked : (fraction : Mask) (r : Bool) → SoughtBy F d s c e fraction
      → ((r ≡ true) ↔ Making F.f A (λ (n : ℕ). P n × (kept_of A.below F.f d n u / 2 ^ F.f ≡ h) × Meets (kept_of A.below F.f d n u % 2 ^ F.f) fraction))
      → (r ≡ true) ↔ Making F.f A (λ (n : ℕ). P n × (kept_of A.below F.f d n u / 2 ^ F.f ≡ h) × Meets (signed F s (bounded_held A.below F d n u)) c)
  quotient_asked fraction r seeks asks =
      making_answer F.f A
      (λ (n : ℕ). P n × (kept_of A.below F.f d n u / 2 ^ F.f ≡ h) × Meets (kept_of A.below F.f d n u % 2 ^ F.f) fraction)
      (λ (n : ℕ). P n × (kept_of A.below F.f d n u / 2 ^ F.f ≡ h) × Meets (signed F s (bounded_held A.below F d n u)) c) r
      (λ n made.
      let fields = quotient_fields A.below F d s u count h e ee c fraction seeks n in (
        (λ p. (p.0, p.1, (fields (digits n p.0) p.1).1 p.2)),
        λ p. (p.0, p.1, (fields (digits n p.0) p.1).0 p.2),
      ))
      asks

  pub quotient_refused : Seeks F d s c e None
      → (false ≡ true) ↔ Making F.f A (λ (n : ℕ). P n × (kept_of A.below F.f d n u / 2 ^ F.f ≡ h) × Meets (signed F s (bounded_held A.below F d n u)) c)
  quotient_refused seeks =
      none_made F.f A (λ (n : ℕ). P n × (kept_of A.below F.f d n u / 2 ^ F.f ≡ h) × Meets (signed F s (bounded_held A.below F d n u)) c)
      (λ m. quotient_never A.below F d s u count h e ee c seeks m.x (digits m.x m.holds.0) m.holds.1 m.holds.2)

-- a number of so many digits has one of two quotients
quotients : (q f : ℕ) (d : Direction) (u : exponent.Unit) (least n count : ℕ) → 0 < count → count ≤ sum_bits q f → size n ≡ count → least ≡ least_quotient q f count u
    → (kept_of q f d n u / 2 ^ f ≡ least) ⊎ (kept_of q f d n u / 2 ^ f ≡ least + 1)
quotients q f d u least n zero some most digits e = absurd (omega arith)
quotients q f d u least n (suc m) some most digits e =
    ⊎_elim
    (λ l. ⊎_elim (λ z. inl (omega arith)) (λ z. inr (omega arith)) (quotient_low q f d n u m digits most l.0))
    (λ l. ⊎_elim (λ z. inl (omega arith)) (λ z. inr (omega arith)) (quotient_high q f d n u m digits most l.0))
    (least_known q f (suc m) u)

-- so where neither leaves a fraction, its word does not meet c
pub no_word : (q : ℕ) (F : Format) (d : Direction) (s : ℕ) (u : exponent.Unit) (c : Mask) (count least : ℕ) → 0 < count → count ≤ sum_bits q F.f → least ≡ least_quotient q F.f count u
    → (e e' : Biased) → e ≡ field_of (rounded_unit q F.f count u) least → e' ≡ field_of (rounded_unit q F.f count u) (least + 1)
    → Seeks F d s c e None → Seeks F d s c e' None
    → (n : ℕ) → size n ≡ count → Meets (signed F s (bounded_held q F d n u)) c → ⊥
no_word q F d s u c count least some most el e e' ee ee' seeks seeks' n digits met =
    ⊎_elim
    (λ k. quotient_never q F d s u count least e ee c seeks n digits k met)
    (λ k. quotient_never q F d s u count (least + 1) e' ee' c seeks' n digits k met)
    (quotients q F.f d u least n count some most digits el)

-- the two quotients
module _ (f : ℕ) (d : Direction) (u : exponent.Unit) (least : ℕ) (A : pair.Aligned) (count : ℕ) (P : ℕ → Type 0) (digits : (n : ℕ) → P n → size n ≡ count) where
  module _ (W : ℕ → Type 0) (some : 0 < count) (most : count ≤ sum_bits A.below f) (e : least ≡ least_quotient A.below f count u) (r : Bool)
      (asks : (r ≡ true) ↔ Making f A (λ (n : ℕ). P n × (kept_of A.below f d n u / 2 ^ f ≡ least) × W n)) where
    pub first_quotient : r ≡ true → (true ≡ true) ↔ Making f A (λ (n : ℕ). P n × W n)
    first_quotient t = some_made f A (λ (n : ℕ). P n × W n) (making_map f A (λ (n : ℕ). P n × (kept_of A.below f d n u / 2 ^ f ≡ least) × W n) (λ (n : ℕ). P n × W n) (λ n p. (p.0, p.2)) (asks.0 t))

    pub second_quotient : r ≡ false → (r' : Bool) → ((r' ≡ true) ↔ Making f A (λ (n : ℕ). P n × (kept_of A.below f d n u / 2 ^ f ≡ least + 1) × W n))
        → (r' ≡ true) ↔ Making f A (λ (n : ℕ). P n × W n)
    second_quotient t r' asks' = (
      (λ z. making_map f A (λ (n : ℕ). P n × (kept_of A.below f d n u / 2 ^ f ≡ least + 1) × W n) (λ (n : ℕ). P n × W n) (λ n p. (p.0, p.2)) (asks'.0 z)),
      λ p. ⊎_elim
          (λ k. absurd (false≢true (sym t ∙ asks.1 (record { x = p.x; made = p.made; holds = (p.holds.0, k, p.holds.1) }))))
          (λ k. asks'.1 (record { x = p.x; made = p.made; holds = (p.holds.0, k, p.holds.1) }))
          (quotients A.below f d u least p.x count some most (digits p.x p.holds.0) e),
    )

    -- where none has the next quotient, that is not asked
    pub only_quotient : r ≡ false → (NextQuotient f d u A count → ⊥)
        → (false ≡ true) ↔ Making f A (λ (n : ℕ). P n × W n)
    only_quotient t never =
        second_quotient t false
        (none_made f A (λ (n : ℕ). P n × (kept_of A.below f d n u / 2 ^ f ≡ least + 1) × W n)
        (λ p. never (record {
          x = p.x;
          made = p.made;
          holds = (digits p.x p.holds.0, p.holds.1 ∙ ap (λ (k : ℕ). k + 1) e);
        })))

-- the word of 0, and of any other number
module _ (q : ℕ) (F : Format) (mode : ℕ) (like : Bool) (s : ℕ) (u : exponent.Unit) where
  pub outcome_zero : (n : ℕ) → size n ≡ 0 → outcome q F mode like s u n ≡ signed F (zero_sign mode like s) 0
  unfolding outcome
  outcome_zero n e = ap (outcome q F mode like s u) ((size_none n).0 e)

  pub outcome_some : (n : ℕ) → 0 < size n → outcome q F mode like s u n ≡ signed F s (bounded_held q F (direction mode s) n u)
  unfolding outcome
  outcome_some zero h = absurd (omega (arith, size_zero))
  outcome_some (suc n) h = refl

-- what is wanted of the result
module _ (F : Format) (mode s : ℕ) (u : exponent.Unit) (A : pair.Aligned) (T : Target) where
  -- 0 has no dropped bits
  pub zero_asked : (word : ℕ) (x : Mask) (r : Bool) → T.dropped.mask.care ≡ 0 → word ≡ signed F (zero_sign mode A.like s) 0 → meets word T.c ≡ true
      → OfDigits (columns_of F.f A) 0 x → ((r ≡ true) ↔ Making F.f A (λ (n : ℕ). Meets n x × Meets (kept_part A.below TowardZero n 0 0) free_mask))
      → (r ≡ true) ↔ Making F.f A (λ (n : ℕ). (size n ≡ 0) × Serves F mode s u A T n)
  zero_asked word x r free ew met digits asks =
      making_answer F.f A (λ (n : ℕ). Meets n x × Meets (kept_part A.below TowardZero n 0 0) free_mask) (λ (n : ℕ). (size n ≡ 0) × Serves F mode s u A T n) r
      (λ n made.
      let g = digits n (made_lt F.f A n made) in (
        (λ p.
            let e = g.0 p.0 in
            (e, record { word = rw (outcome_zero A.below F mode A.like s u n e ∙ sym ew) ((meets_true word T.c).0 met); drops = inl free })),
        λ p. (g.1 p.0, and_zero_r (kept_part A.below TowardZero n 0 0)),
      ))
      asks

  pub zero_refused : (word : ℕ) → word ≡ signed F (zero_sign mode A.like s) 0 → meets word T.c ≡ false
      → (false ≡ true) ↔ Making F.f A (λ (n : ℕ). (size n ≡ 0) × Serves F mode s u A T n)
  zero_refused word ew never =
      none_made F.f A (λ (n : ℕ). (size n ≡ 0) × Serves F mode s u A T n)
      (λ p. false≢true (sym never ∙ (meets_true word T.c).1 (rw (outcome_zero A.below F mode A.like s u p.x p.holds.0 ∙ sym ew) at p.holds.1.word)))

  pub zero_fixed : (T.dropped.mask.care ≡ 0 → ⊥) → (false ≡ true) ↔ Making F.f A (λ (n : ℕ). (size n ≡ 0) × Serves F mode s u A T n)
  zero_fixed fixed =
      none_made F.f A (λ (n : ℕ). (size n ≡ 0) × Serves F mode s u A T n)
      (λ p. ⊎_elim fixed (λ r. omega (arith, r.0.some, (size_none p.x).0 p.holds.0)) p.holds.1.drops)

  -- where no word of so many digits meets c, none of these numbers serves
  pub none_left : (count : ℕ) → 0 < count → (d : Direction) → d ≡ direction mode s → ((n : ℕ) → size n ≡ count → Meets (signed F s (bounded_held A.below F d n u)) T.c → ⊥)
      → (false ≡ true) ↔ Making F.f A (λ (n : ℕ). (size n ≡ count) × Serves F mode s u A T n)
  none_left count some d ed none =
      none_made F.f A (λ (n : ℕ). (size n ≡ count) × Serves F mode s u A T n)
      (λ p. none p.x p.holds.0 (subst (λ (w : ℕ). Meets w T.c) (outcome_some A.below F mode A.like s u p.x (omega (arith, p.holds.0)) ∙ ap (λ (k : Direction). signed F s (bounded_held A.below F k p.x u)) (sym ed)) p.holds.1.word))

  -- a number of so many digits, not 0, serves where its word meets c and its dropped bits are as they are wanted
  pub sized_serves : (count : ℕ) → 0 < count → (d : Direction) → d ≡ direction mode s
      → (r : Bool) → ((r ≡ true) ↔ Making F.f A (λ (n : ℕ). Sized F A.below u T.dropped count n × Meets (signed F s (bounded_held A.below F d n u)) T.c))
      → (r ≡ true) ↔ Making F.f A (λ (n : ℕ). (size n ≡ count) × Serves F mode s u A T n)
  sized_serves count some d ed r asks =
      making_answer F.f A (λ (n : ℕ). Sized F A.below u T.dropped count n × Meets (signed F s (bounded_held A.below F d n u)) T.c) (λ (n : ℕ). (size n ≡ count) × Serves F mode s u A T n) r
      (λ n made. (
        (λ p. (p.0.0, record { word = rw (word_is n p.0.0) p.1; drops = p.0.1 })),
        λ p. ((p.0, p.1.drops), rw (word_is n p.0) at p.1.word),
      ))
      asks
    where
      word_is : (n : ℕ) → size n ≡ count → outcome A.below F mode A.like s u n ≡ signed F s (bounded_held A.below F d n u)
      word_is n e = outcome_some A.below F mode A.like s u n (omega arith) ∙ ap (λ (k : Direction). signed F s (bounded_held A.below F k n u)) (sym ed)

-- a number of so many digits, not 0, has dropped bits as they are wanted exactly in one of the ways that are left
module _ (F : Format) (q : ℕ) (u : exponent.Unit) (D : Dropped) (valid : ValidDropped D) (count : ℕ) (some : 0 < count) (Q : ℕ → Type 0) where
  -- it is in one way, and has the property Q
  pub record InOne (t n : ℕ) : Type 0 where
    pub digits : size n ≡ count
    pub in_way : InWay D (count - (F.f + 1)) t n
    pub holds : Q n

  positive : (n : ℕ) → size n ≡ count → 0 < n
  positive zero e = absurd (omega (arith, e, size_zero))
  positive (suc n) e = omega arith

  pub in_one_sized : (t n : ℕ) → t < ways_at q F.f u D count → InOne t n → Sized F q u D count n × Q n
  in_one_sized t n lt p = ((p.digits, (drops_in_way F q u D count valid n (positive n p.digits) p.digits).1 (t, lt, p.in_way)), p.holds)

  pub sized_in_one : (n : ℕ) → Sized F q u D count n → Q n → (t : ℕ) × (t < ways_at q F.f u D count) × InOne t n
  sized_in_one n p h =
      let w = (drops_in_way F q u D count valid n (positive n p.0) p.0).0 p.1 in
      (w.0, w.1, record { digits = p.0; in_way = w.2; holds = h })
