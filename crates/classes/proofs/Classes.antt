-- Pairs of one class have one answer: what a pair admits, the pair that stands for its class admits too, with c's exponent field moved by
-- as much as the unit. And pairs with a far gap and the same larger exponent field have one answer. Assumes nothing.
use Rattle.std.proofs.Common.{◌≡◌, ℕ, zero, suc, ◌+◌, ◌^◌, ◌<◌, ◌≤◌, Bool, cond, eqb, leb, ◌⊎◌, sym, refl, ap, ◌∙◌, subst, subst₂, inl, inr, ⊎_elim, arith, pow_pos, le-leb}
use native.Mathlib.Decide.{dec_le, ℕ_discrete}
use borrow.Author.Tests.{lt-leb}
use lib.Ieee.{size}
use Rattle.format.specs.declared.Format.{Format}
use Rattle.format.specs.Format.{precision}
use Rattle.mask.specs.declared.Mask.{Mask}
use Rattle.mask.specs.Mask.{Meets, WellFormed, free_mask}
use Rattle.job.specs.declared.Job.{Job}
use Rattle.job.specs.Job.{Valid}
use Rattle.job.specs.Guards.{guards_of, reach}
use Rattle.job.proofs.GuardLaws.{guards_pos, reach_valid}
use Rattle.word.specs.declared.Biased.{Biased}
use Rattle.word.specs.declared.Unit as exponent
use Rattle.word.specs.Word.{unit_of, all_ones, signed}
use Rattle.word.specs.Masks.{sign_mask, exponent_mask, fraction_mask}
use Rattle.rounding.specs.Rounding.{direction, overflow_word}
use Rattle.rounding.specs.Outcome.{outcome, NormalAt}
use Rattle.rounding.specs.Width.{aligned_bits}
use Rattle.significand.specs.Tail.{tail_mask}
use Rattle.significand.proofs.Tail.{Room}
use Rattle.making.specs.declared.Aligned as pair
use Rattle.making.specs.Making.{Made}
use Rattle.outcome.specs.Outcome.{Admits}
use Rattle.outcome.proofs.Topped.{size_none}
use Rattle.outcome.proofs.Range.{made_most}
use Rattle.special.specs.Asked.{field_is, PairFits}
use Rattle.pair.specs.declared.Side.{Side}
use Rattle.pair.specs.Pair.{FiniteSide, significands_of, gap_of, bits_below, aligned_of, target_of, Larger, Sums, side_a, side_b, SomeSigns}
use Rattle.pair.proofs.Below.{below_room}
use Rattle.pair.proofs.Rows.{forward_row}
use Rattle.pair.proofs.Finites.{pair_finite}
use Rattle.classes.specs.declared.Class.{Class}
use Rattle.classes.specs.Class.{InOrder, far_gap, class_unit, top_field, low_field, field_at, most_field, least_field, at_field, with_exponent, asking, only_field, ClassAdmits, NeverPast, Classed, smaller_mask}
use Rattle.classes.proofs.Order.{Sides, signs_of, sides_of}
use Rattle.classes.proofs.ClassMasks.{past_never, asking_meets, own_meets, asking_less}
use Rattle.classes.proofs.Moved.{Moved, moved}
use Rattle.classes.proofs.Aligning.{Spans, spans_of, low_le, low_two, low_same, gap_two, head_same, far, aligned_same, made_long}

pub only_formed : (F : Format) (i : Biased) → i.0 ≤ all_ones F → WellFormed F.w (only_field F i)
only_formed F i h = record { below = omega (arith, pow_pos F.w); inside = lib.Bits.and_mask i.0 F.w ∙ native.Mathlib.Nat.mod-eq_of_lt (omega (arith, pow_pos F.w)) }

-- what a class has where E is the larger exponent field, and low the smaller one of the pair that stands for it: c's exponent field is one
-- that its mask lets through, and so is the fraction of a zero sum, which has no dropped bits
pub record FieldReached (j : Job) (E low : Biased) (P : Mask → Type 0) : Type 0 where
  pub field : Biased
  pub most : field.0 ≤ most_field (reach j)
  pub least : low.0 + 2 ≤ (top_field (reach j)).0 → far_gap (reach j) ≤ field.0
  pub within : (field_at (reach j) (unit_of E) field).0 < 2 ^ j.setting.format.w
  pub meets : Meets (field_at (reach j) (unit_of E) field).0 (exponent_mask j.setting.format j.c.mask)
  pub zero : field.0 ≡ 0 → Meets 0 (fraction_mask j.setting.format j.c.mask) × (j.dropped.mask.care ≡ 0)
  pub holds : P (only_field j.setting.format field)

reached_map : (j : Job) (E low : Biased) (P Q : Mask → Type 0) → ((i : Mask) → P i → Q i) → FieldReached j E low P → FieldReached j E low Q
reached_map j E low P Q h p = record { field = p.field; most = p.most; least = p.least; within = p.within; meets = p.meets; zero = p.zero; holds = h (only_field j.setting.format p.field) p.holds }

-- ---- two sides, of which x has the larger exponent field
module _ (j : Job) (valid : Valid j) (x y : Side) (fx : FiniteSide j.setting.format x) (fy : FiniteSide j.setting.format y)
    (classed : Classed j.setting.format (reach j) j.c.mask x.exponent y.exponent) (under : y.exponent.0 ≤ x.exponent.0) where
  abbrev f : ℕ
  f = j.setting.format.f

  abbrev G : ℕ
  G = guards_of j.dropped

  abbrev r : ℕ
  r = reach j

  abbrev q : ℕ
  q = bits_below (guards_of j.dropped) (eqb x.sign y.sign)

  abbrev low : Biased
  low = low_field r x.exponent y.exponent

  spans : Spans f q r
  spans = rw (reach_valid j valid) (spans_of f G (eqb x.sign y.sign) (guards_pos j.dropped))

  room : Room q (precision j.setting.format)
  room = below_room j.setting.format valid.setting.format j.dropped valid.dropped (eqb x.sign y.sign)

  -- those of the pair that stands for the class
  abbrev x' : Side
  x' = at_field x (top_field r)

  abbrev y' : Side
  y' = at_field y low

  some : 1 ≤ x.exponent.0
  some = ⊎_elim (λ h. omega arith) (λ h. omega arith) classed.normal

  class_aligned : aligned_of j.setting.format G j.carries x y ≡ aligned_of j.setting.format G j.carries x' y'
  class_aligned = aligned_same j.setting.format G r j.carries x y spans room fx.formed fy.formed some (⊎_elim inl (λ h. inr h.0) classed.normal) under

  module _ (n : ℕ) (made : Made f (aligned_of j.setting.format G j.carries x' y') n) where
    long : low.0 + 2 ≤ (top_field r).0 → far_gap r ≤ size n
    long l = rw (reach_valid j valid) (made_long j.setting.format G (guards_pos j.dropped) j.carries x' y' n room fx.formed fy.formed (omega arith) (gap_two r (gap_of x y) y.exponent.0 l) made)

    reaches : Dec (n ≡ 0) → (n ≡ 0) ⊎ (aligned_bits q f ≤ size n + (unit_of x.exponent).0)
    reaches (yes z) = inl z
    reaches (no z) = inr (digits (size n) refl)
      where
        digits : (d : ℕ) → size n ≡ d → aligned_bits q f ≤ size n + (unit_of x.exponent).0
        digits zero z' = absurd (z ((size_none n).0 z'))
        digits (suc d) z' =
            ⊎_elim (λ h. omega (arith, spans.least)) (λ h. let l = long (low_two r (gap_of x y) y.exponent.0 h.0 (omega arith)) in omega (arith, spans.least)) classed.normal

    -- the word of a sum moves with the unit
    sum_moved : ((unit_of x.exponent).0 + 4 ≤ all_ones j.setting.format) ⊎ (outcome q j.setting.format j.setting.mode (eqb x.sign y.sign) x.sign (unit_of x.exponent) n ≡ signed j.setting.format x.sign (overflow_word j.setting.format (direction j.setting.mode x.sign)) → ⊥)
        → Moved j.setting.format q r j.setting.mode (eqb x.sign y.sign) x.sign (unit_of x.exponent) n
    sum_moved within =
        moved j.setting.format q r spans j.setting.mode (eqb x.sign y.sign) x.sign (unit_of x.exponent) fx.sign_lt classed.wide n
        (made_most f (aligned_of j.setting.format G j.carries x' y') n made) (reaches (ℕ_discrete n 0)) within

  -- with the class's unit every number but 0 is normal
  normal_moved : (n : ℕ) → NormalAt q f (unit_of x.exponent) n → NormalAt q f (unit_of (top_field r)) n
  normal_moved n a = record { some = a.some; reaches = go (size n) refl }
    where
      go : (d : ℕ) → size n ≡ d → aligned_bits q f ≤ size n + (unit_of (top_field r)).0
      go zero z = absurd (omega (arith, a.some, (size_none n).0 z))
      go (suc d) z = omega (arith, spans.least)

  larger_moved : Larger j x y → FieldReached j x.exponent low (λ (i : Mask). Larger (asking j i) x' y')
  larger_moved (order, a) = record {
    field = w.field;
    most = w.most;
    least = λ l. w.least (long k.x k.made l);
    within = w.within;
    meets = own.1;
    zero = λ z. (subst (λ (t : ℕ). Meets t (fraction_mask F c)) (w.zero_fraction z) own.2, unfixed (w.zero_only z));
    holds = (
      omega (arith, low_le r (gap_of x y) y.exponent.0),
      record {
        x = k.x;
        made = k.made;
        holds = record {
          word = subst (λ (v : ℕ). Meets v (with_exponent F c (only_field F w.field))) (sym w.there ∙ ap (λ (u : exponent.Unit). outcome q F mode like s u k.x) up)
              ((asking_meets F c (only_field F w.field) valid.c.mask formed w.sign w.field.0 w.fraction small w.fraction_lt).1 (own.0, formed.inside, own.2));
          drops = ⊎_elim inl (λ p. inr (normal_moved k.x p.0, p.1)) k.holds.drops;
        };
      },
    );
  }
    where
      F : Format
      F = j.setting.format

      mode : ℕ
      mode = j.setting.mode

      c : Mask
      c = j.c.mask

      s : ℕ
      s = x.sign

      like : Bool
      like = eqb x.sign y.sign

      u : exponent.Unit
      u = unit_of x.exponent

      k : Admits F mode s u (aligned_of F G j.carries x' y') (target_of j)
      k = subst (λ (A : pair.Aligned). Admits F mode s u A (target_of j)) class_aligned a

      w : Moved F q r mode like s u k.x
      w =
          sum_moved k.x k.made
          (⊎_elim (λ l. inl (omega (arith, some))) (λ never. inr (λ is. past_never F c never (direction mode s) s (omega (arith, classed.wide)) (subst (λ (v : ℕ). Meets v c) is k.holds.word))) classed.within)

      formed : WellFormed F.w (only_field F w.field)
      formed = only_formed F w.field (omega (arith, w.most, classed.wide))

      own : Meets w.sign (sign_mask F c) × Meets (field_at r u w.field).0 (exponent_mask F c) × Meets w.fraction (fraction_mask F c)
      own =
          (own_meets F c (only_field F w.field) valid.c.mask formed w.sign (field_at r u w.field).0 w.fraction w.sign_lt w.within w.fraction_lt).0
          (subst (λ (v : ℕ). Meets v c) w.here k.holds.word)

      small : w.field.0 < 2 ^ F.w
      small = omega (arith, w.most, classed.wide)

      unfixed : k.x ≡ 0 → j.dropped.mask.care ≡ 0
      unfixed none = ⊎_elim (λ z. z) (λ p. absurd (omega (arith, none, p.0.some))) k.holds.drops

      up : class_unit r ≡ unit_of (top_field r)
      up = ap unit (omega arith)
        where
          unit : ℕ → exponent.Unit
          unit n = record { 0 = n }

-- the one or the other side is the larger operand: the one with the smaller field only where the fields are equal
sums_moved : (j : Job) → Valid j → (x y : Side) → FiniteSide j.setting.format x → FiniteSide j.setting.format y → Classed j.setting.format (reach j) j.c.mask x.exponent y.exponent
    → y.exponent.0 ≤ x.exponent.0 → Sums j x y
    → FieldReached j x.exponent (low_field (reach j) x.exponent y.exponent)
    (λ (i : Mask). Sums (asking j i) (at_field x (top_field (reach j))) (at_field y (low_field (reach j) x.exponent y.exponent)))
sums_moved j valid x y fx fy classed under (inl l) =
    reached_map j x.exponent low (λ (i : Mask). Larger (asking j i) (at_field x top) (at_field y low)) (λ (i : Mask). Sums (asking j i) (at_field x top) (at_field y low))
    (λ i p. inl p) (larger_moved j valid x y fx fy classed under l)
  where
    top : Biased
    top = top_field (reach j)

    low : Biased
    low = low_field (reach j) x.exponent y.exponent
sums_moved j valid x y fx fy classed under (inr l) = ⊎_elim both (λ h. absurd (omega (arith, l.0))) classed.normal
  where
    f : ℕ
    f = reach j

    both : (top_field f).0 ≤ x.exponent.0
        → FieldReached j x.exponent (low_field f x.exponent y.exponent) (λ (i : Mask). Sums (asking j i) (at_field x (top_field f)) (at_field y (low_field f x.exponent y.exponent)))
    both h =
        let same : y.exponent ≡ x.exponent = ap field_is (omega (arith, l.0)) in
        let r = larger_moved j valid y x fy fx (record { wide = classed.wide; normal = inl (omega (arith, ap (λ (e : Biased). e.0) same)); within = subst (λ (e : Biased). (e.0 + 3 ≤ all_ones j.setting.format) ⊎ NeverPast j.setting.format j.c.mask) (sym same) classed.within }) (omega (arith, ap (λ (e : Biased). e.0) same)) l in
        let top = low_same_field f x.exponent (omega arith) in
        let x_low : low_field f y.exponent x.exponent ≡ top_field f = ap (λ (e : Biased). low_field f e x.exponent) same ∙ top in
        let y_low : top_field f ≡ low_field f x.exponent y.exponent = sym top ∙ ap (low_field f x.exponent) (sym same) in
        record {
          field = r.field;
          most = r.most;
          least = λ q. absurd (omega (arith, ap (λ (e : Biased). e.0) y_low));
          within = subst (λ (e : Biased). (field_at f (unit_of e) r.field).0 < 2 ^ j.setting.format.w) same r.within;
          meets = subst (λ (e : Biased). Meets (field_at f (unit_of e) r.field).0 (exponent_mask j.setting.format j.c.mask)) same r.meets;
          zero = r.zero;
          holds = inr (subst₂ (λ (u v : Biased). Larger (asking j (only_field j.setting.format r.field)) (at_field y u) (at_field x v)) y_low x_low r.holds);
        }
      where
        low_same_field : (g : ℕ) (e : Biased) → 1 ≤ e.0 → low_field g e e ≡ top_field g
        low_same_field g e some = ap (λ (gap : ℕ). Rattle.classes.specs.Class.lower_field g gap e.0) (omega arith) ∙ low_same g e.0 some

-- what is reached of a class
pub record ClassFieldReached (j : Job) (E : Biased) (k : Class) : Type 0 where
  pub field : Biased
  pub most : field.0 ≤ most_field (reach j)
  pub least : (least_field (reach j) k).0 ≤ field.0
  pub within : (field_at (reach j) (unit_of E) field).0 < 2 ^ j.setting.format.w
  pub meets : Meets (field_at (reach j) (unit_of E) field).0 (exponent_mask j.setting.format j.c.mask)
  pub zero : field.0 ≡ 0 → Meets 0 (fraction_mask j.setting.format j.c.mask) × (j.dropped.mask.care ≡ 0)
  pub holds : ClassAdmits j k (only_field j.setting.format field)

-- ---- a pair that admits a case, E being the larger exponent field and e the other, in either order
module _ (j : Job) (valid : Valid j) (o : ℕ) (E e : Biased) (finite : E.0 < all_ones j.setting.format) (under : e.0 ≤ E.0) where
  -- signs that pose it
  own_signs : (n : ℕ) → InOrder (PairFits j) n E e → InOrder (SomeSigns j) n E e
  own_signs zero P = ((pair_finite j valid E e (record { supported = valid.setting.format; a_finite = finite; b_finite = omega arith })).0 P).2
  own_signs (suc n) P = ((pair_finite j valid e E (record { supported = valid.setting.format; a_finite = omega arith; b_finite = finite })).0 P).2

  pub class_reached : InOrder (PairFits j) o E e → Classed j.setting.format (reach j) j.c.mask E e
      → ClassFieldReached j E (record { order = o; low = low_field (reach j) E e })
  unfolding least_field
  class_reached P classed = record {
    field = r.field;
    most = r.most;
    least = go (dec_le (low.0 + 2) (top_field f).0);
    within = r.within;
    meets = r.meets;
    zero = r.zero;
    holds = S.back (asking j (only_field j.setting.format r.field)).c (top_field f) low r.holds;
  }
    where
      f : ℕ
      f = reach j

      low : Biased
      low = low_field f E e

      S : Sides j o E e
      S = sides_of j valid E e finite (omega arith) o (own_signs o P)

      r : FieldReached j E low (λ (i : Mask). Sums (asking j i) (at_field S.x (top_field f)) (at_field S.y low))
      r =
          sums_moved j valid (at_field S.x E) (at_field S.y e) (record { sign_lt = S.x_lt; finite = finite; formed = S.x_formed })
          (record { sign_lt = S.y_lt; finite = omega arith; formed = S.y_formed }) classed under S.sums

      go : Dec (low.0 + 2 ≤ (top_field f).0) → (cond (leb (low.0 + 2) (top_field f).0) (field_is (far_gap f)) (field_is 0)).0 ≤ r.field.0
      go (yes l) = rw (le-leb (low.0 + 2) (top_field f).0 l) (r.least l)
      go (no l) = rw (lt-leb (low.0 + 2) (top_field f).0 (omega arith)) (omega arith)

-- ---- a class that admits nothing at all has no exponent field of c
module _ (j : Job) (k : Class) (i : Biased) (valid : Valid j) (l : i.0 ≤ all_ones j.setting.format) where
  larger_less : (x y : Side) → Larger (asking j (only_field j.setting.format i)) x y → Larger (asking j free_mask) x y
  larger_less x y (order, a) = (
    order,
    record {
      x = a.x;
      made = a.made;
      holds = record {
        word = asking_less j.setting.format j.c.mask (only_field j.setting.format i) valid.c.mask (only_formed j.setting.format i l)
            (outcome (bits_below (guards_of j.dropped) (eqb x.sign y.sign)) j.setting.format j.setting.mode (eqb x.sign y.sign) x.sign (unit_of x.exponent) a.x) a.holds.word;
        drops = a.holds.drops;
      };
    },
  )

  signs_less : (ea eb : Biased) → SomeSigns (asking j (only_field j.setting.format i)) ea eb → SomeSigns (asking j free_mask) ea eb
  signs_less ea eb S =
      let a = side_a j S.sa ea in
      let b = side_b j S.sb eb in
      signs_of (asking j (only_field j.setting.format i)) (asking j free_mask).c ea eb ea eb S (⊎_elim (λ p. inl (larger_less a b p)) (λ p. inr (larger_less b a p)) S.posed.sums)

  pub class_less : ClassAdmits j k (only_field j.setting.format i) → ClassAdmits j k free_mask
  class_less = go k.order
    where
      top : Biased
      top = top_field (reach j)

      go : (o : ℕ) → InOrder (SomeSigns (asking j (only_field j.setting.format i))) o top k.low → InOrder (SomeSigns (asking j free_mask)) o top k.low
      go zero S = signs_less top k.low S
      go (suc o) S = signs_less k.low top S

-- ---- two pairs with a far gap and the same larger exponent field have one answer
module _ (j : Job) (valid : Valid j) (x y : Side) (formed : WellFormed j.setting.format.f y.fraction) (g : Biased) (some : 1 ≤ g.0) (far-g : g.0 + far_gap (reach j) ≤ x.exponent.0)
    (other : 1 ≤ y.exponent.0) (far-y : y.exponent.0 + far_gap (reach j) ≤ x.exponent.0) where
  far_sums : Sums j x y → Sums j x (at_field y g)
  far_sums (inr l) = absurd (omega (arith, l.0))
  far_sums (inl (order, a)) =
      inl
      (omega arith, subst₂ (λ (b : Bool) (t : Mask). Admits F j.setting.mode x.sign (unit_of x.exponent) (record { like = eqb x.sign y.sign; reversed = b; below = q; head = tail_mask q (precision F) (significands_of F x) 0; tail = t; carries = j.carries }) (target_of j)) (forward_row x y (λ e. omega (arith, e)) ∙ sym (forward_row x (at_field y g) (λ e. omega (arith, e)))) same a)
    where
      F : Format
      F = j.setting.format

      q : ℕ
      q = bits_below (guards_of j.dropped) (eqb x.sign y.sign)

      same : tail_mask q (precision F) (significands_of F y) (gap_of x y) ≡ tail_mask q (precision F) (significands_of F (at_field y g)) (gap_of x (at_field y g))
      same =
          far F q (reach j) (rw (reach_valid j valid) (spans_of F.f (guards_of j.dropped) (eqb x.sign y.sign) (guards_pos j.dropped)))
          (below_room F valid.setting.format j.dropped valid.dropped (eqb x.sign y.sign)) y.fraction formed y.exponent (gap_of x y) (gap_of x (at_field y g)) (omega arith) (omega arith)
          ∙ ap (λ (k : Mask). tail_mask q (precision F) k (gap_of x (at_field y g))) (head_same F.f y.fraction y.exponent g other some)

-- E is the larger field, e and g are others
module _ (j : Job) (valid : Valid j) (E e g : Biased) (finite : E.0 < all_ones j.setting.format) (some : 1 ≤ e.0) (other : 1 ≤ g.0)
    (far-e : e.0 + far_gap (reach j) ≤ E.0) (far-g : g.0 + far_gap (reach j) ≤ E.0) where
  far_signs : (o : ℕ) → InOrder (SomeSigns j) o E e → InOrder (SomeSigns j) o E g
  far_signs o P =
      let S = sides_of j valid E e finite (omega arith) o P in
      S.back j.c E g (far_sums j valid (at_field S.x E) (at_field S.y e) S.y_formed g other far-g some far-e S.sums)

  pub far_pair : (o : ℕ) → Meets g.0 (smaller_mask j o) → InOrder (PairFits j) o E e → InOrder (PairFits j) o E g
  far_pair zero met P =
      let p = (pair_finite j valid E e (record { supported = valid.setting.format; a_finite = finite; b_finite = omega arith })).0 P in
      (pair_finite j valid E g (record { supported = valid.setting.format; a_finite = finite; b_finite = omega arith })).1 (p.0, met, far_signs 0 p.2)
  far_pair (suc o) met P =
      let p = (pair_finite j valid e E (record { supported = valid.setting.format; a_finite = omega arith; b_finite = finite })).0 P in
      (pair_finite j valid g E (record { supported = valid.setting.format; a_finite = omega arith; b_finite = finite })).1 (met, p.1, far_signs (suc o) p.2)
