-- Which pairs of exponent fields need no question: those of which an earlier field of a or of b has the answer, and those whose sums have
-- exponent fields that c's mask does not let through. Assumes nothing.
use mathlib.Core.Logic.{inl, inr, ⊎_elim}
use mathlib.Core.Path.{◌≡◌, refl, subst}
use Prim.Native.Nat.{ℕ, ◌+◌, ◌-◌, ◌^◌, ◌≤◌, ◌<◌}
use native.Mathlib.Decide.{dec_le, dec_lt}
use native.Mathlib.Omega.{arith}
use Rattle.format.specs.declared.Format.{Format}
use Rattle.format.specs.Format.{Supported, word_bits}
use Rattle.format.proofs.Room.{exponent_room}
use Rattle.mask.specs.declared.Mask.{Mask}
use Rattle.mask.specs.Mask.{WellFormed, Meets}
use Rattle.mask.specs.Next.{MetFrom}
use Rattle.job.specs.declared.Job.{Job}
use Rattle.job.specs.Job.{Valid}
use Rattle.job.specs.Guards.{reach}
use Rattle.word.specs.declared.Biased.{Biased}
use Rattle.word.specs.Word.{all_ones}
use Rattle.word.specs.Masks.{exponent_mask}
use Rattle.special.specs.Asked.{field_is, PairFits}
use Rattle.classes.specs.Class.{far_gap, InOrder}
use Rattle.classes.specs.Far.{FarBelow, LetsNear, LetsZero}
use Rattle.classes.proofs.Far.{far_alike, near_or_zero, near_sum}
use Rattle.answers.specs.Kept.{ClassEnd, NoPartner}
use Rattle.pass.specs.declared.span.Span.{Span}
use Rattle.pass.specs.First.{NoneBefore}
use Rattle.pass.specs.Steps.{NoneBelow, NoneNear, OnlyFar, SpanOf}
use Rattle.pass.proofs.Fields.{field_formed, pair_range, pair_asked}

-- ---- fields that do not meet their masks

-- the next field of the format that meets the mask on it
pub met_field : (F : Format) (m p : Mask) (n r : ℕ) → Supported F → WellFormed (word_bits F) m → p ≡ exponent_mask F m → (F.w < 64 → WellFormed F.w p → MetFrom F.w p n r)
    → MetFrom F.w (exponent_mask F m) n r
met_field F m p n r supported formed is met = subst (λ (q : Mask). WellFormed F.w q → MetFrom F.w q n r) is (met (omega (arith, exponent_room F supported))) (field_formed F m formed)

-- two stretches of a's fields as one
none_join : (j : Job) (n r : Biased) → NoneBelow j n → ((d e : Biased) → n.0 ≤ d.0 → d.0 < r.0 → PairFits j d e → ⊥) → NoneBelow j r
none_join j n r one two d e l = go (dec_lt d.0 n.0)
  where
    go : Dec (d.0 < n.0) → PairFits j d e → ⊥
    go (yes h) = one d e h
    go (no h) = two d e (omega arith) l

module _ (j : Job) (valid : Valid j) (n r : ℕ) where
  pub none_met : MetFrom j.setting.format.w (exponent_mask j.setting.format j.a.mask) n r → NoneBelow j (field_is n) → NoneBelow j (field_is r)
  none_met met none = none_join j (field_is n) (field_is r) none (λ d e from to P. met.none d.0 from to (pair_range j d e valid P).a_lt (pair_asked j d e valid P).a_exponent)

  pub partners_met : MetFrom j.setting.format.w (exponent_mask j.setting.format j.b.mask) n r → (ea : Biased) → NoPartner j ea (field_is n) (field_is r)
  partners_met met ea d from to P = met.none d.0 from to (pair_range j ea d valid P).b_lt (pair_asked j ea d valid P).b_exponent

-- two stretches of b's fields as one
pub partners_join : (j : Job) (ea n m r : Biased) → NoPartner j ea n m → NoPartner j ea m r → NoPartner j ea n r
partners_join j ea n m r one two d from to = go (dec_lt d.0 m.0)
  where
    go : Dec (d.0 < m.0) → PairFits j ea d → ⊥
    go (yes l) = one d from l
    go (no l) = two d (omega arith) to

-- ---- fields of which another one has the answer
module _ (j : Job) (valid : Valid j) where
  abbrev gap : ℕ
  gap = far_gap (reach j)

  abbrev ones : ℕ
  ones = all_ones j.setting.format

  -- a field of a is far below one of b, where that is no finite one nearer to it
  pub only_far : (d e : Biased) → d.0 < ones → (e.0 < ones → (1 ≤ d.0) × (e.0 < d.0 + gap → ⊥)) → PairFits j d e → FarBelow j.setting.format (reach j) e d
  only_far d e finite far P = go (dec_lt e.0 ones) (dec_lt e.0 (d.0 + gap))
    where
      go : Dec (e.0 < ones) → Dec (e.0 < d.0 + gap) → FarBelow j.setting.format (reach j) e d
      go (yes l) (yes near) = absurd ((far l).1 near)
      go (yes l) (no near) = inl ((far l).0, omega arith, l)
      go (no l) near = inr (omega (arith, (pair_range j d e valid P).b_lt), finite)

  far_lower : (E e g : Biased) → FarBelow j.setting.format (reach j) E e → 1 ≤ g.0 → g.0 ≤ e.0 → FarBelow j.setting.format (reach j) E g
  far_lower E e g (inl h) some le = inl (some, omega (arith, h.1), h.2)
  far_lower E e g (inr h) some le = inr (h.0, omega (arith, h.1))

  -- an earlier field of a that meets its mask has the answer
  pub earlier_answered : (first d e : Biased) → (PairFits j first e → ⊥) → 1 ≤ first.0 → first.0 ≤ d.0 → Meets first.0 (exponent_mask j.setting.format j.a.mask)
      → FarBelow j.setting.format (reach j) e d → PairFits j d e → ⊥
  earlier_answered first d e none some le met far P = none (far_alike j valid 1 e d first far (far_lower e d first far some le) met P)

  -- so has it for all that admit a case only from far below
  pub none_far : (first n r : Biased) → 1 ≤ first.0 → first.0 < n.0 → (first.0 < 2 ^ j.setting.format.w → Meets first.0 (exponent_mask j.setting.format j.a.mask)) → NoneBelow j n → OnlyFar j n r → NoneBelow j r
  none_far first n r some below met none far =
      none_join j n r none (λ d e from to P. earlier_answered first d e (none first e below) some (omega arith) (met (omega (arith, (pair_range j d e valid P).a_lt))) (far d e from to P) P)

  -- a field far below a's that was refused has the answer
  pub field_answered : (ea eb d : Biased) → FarBelow j.setting.format (reach j) ea eb → FarBelow j.setting.format (reach j) ea d → Meets eb.0 (exponent_mask j.setting.format j.b.mask)
      → (PairFits j ea eb → ⊥) → PairFits j ea d → ⊥
  field_answered ea eb d far-eb far-d met none P = none (far_alike j valid 0 ea d eb far-d far-eb met P)

  -- ---- fields below r, none of which has near it one from n on that c's mask lets through; classes answer for them
  module _ (end : Biased) (within : ClassEnd j end) (n r : Biased) (inside : r.0 ≤ end.0) (none : NoneNear j n r) where
    not_near : (below : ℕ) (E : Biased) → n.0 + below ≤ E.0 → E.0 < r.0 → LetsNear j below E → ⊥
    not_near below E low high near = none E.0 near.field high (omega (arith, near.least)) near.most near.within near.meets

    -- no sum of fields 2 or more apart is left
    pub no_sum : (o : ℕ) (E e : Biased) → gap < E.0 → n.0 + 1 ≤ E.0 → E.0 < r.0 → e.0 + 2 ≤ E.0 → InOrder (PairFits j) o E e → ⊥
    no_sum o E e large low high apart P =
        let by = within E e (inl (omega arith)) (omega arith) in
        not_near 1 E low high (near_sum j valid o E e by.1 (omega arith) P by.0 apart)

    -- only a zero sum is left, if b's field is nearer than the far gap
    pub only_zero : (d e : Biased) → gap < d.0 → n.0 + gap ≤ d.0 → d.0 + gap ≤ r.0 → e.0 < d.0 + gap → PairFits j d e → LetsZero j
    only_zero d e large low high l P = go (dec_le e.0 d.0)
      where
        go : Dec (e.0 ≤ d.0) → LetsZero j
        go (yes q) =
            let by = within d e (inl (omega arith)) (omega arith) in
            ⊎_elim (λ near. absurd (not_near gap d low (omega arith) near)) (λ z. z) (near_or_zero j valid 0 d e by.1 q P by.0)
        go (no q) =
            let by = within e d (inl (omega arith)) (omega arith) in
            ⊎_elim (λ near. absurd (not_near gap e (omega arith) (omega arith) near)) (λ z. z) (near_or_zero j valid 1 e d by.1 (omega arith) P by.0)

-- ---- the fields of b with one of a, from eb on: the questions begin at `from`
module _ (j : Job) (ea eb : Biased) (span : Span) (none : NoneBefore j (record { a = ea; b = eb })) (is : SpanOf j ea span) (from n r : Biased) (start : from.0 ≡ eb.0 + (span.from.0 - eb.0))
    (skipped : NoPartner j ea from n) (asked : NoPartner j ea n r) where
  span_before : (d : Biased) → d.0 < r.0 → PairFits j ea d → ⊥
  span_before d l = go (dec_lt d.0 eb.0) (dec_lt d.0 span.from.0) (dec_lt d.0 n.0)
    where
      go : Dec (d.0 < eb.0) → Dec (d.0 < span.from.0) → Dec (d.0 < n.0) → PairFits j ea d → ⊥
      go (yes h) p q = none ea d (inr (refl, h))
      go (no h) (yes p) q = is.low d (omega arith) p
      go (no h) (no p) (yes q) = skipped d (omega arith) q
      go (no h) (no p) (no q) = asked d (omega arith) l

  pub none_before : NoneBefore j (record { a = ea; b = r })
  none_before d e (inl l) P = none d e (inl l) P
  none_before d e (inr (same, l)) P = span_before e l (subst (λ (k : ℕ). PairFits j (field_is k) e) same P)

  -- at its end, no pair with a's field is left
  pub none_over : span.end.0 ≤ r.0 → NoneBelow j (field_is (ea.0 + 1))
  none_over over d e l = go (dec_lt d.0 ea.0) (dec_lt e.0 r.0)
    where
      same : PairFits j d e → d.0 ≡ ea.0 → PairFits j ea e
      same P is = subst (λ (k : ℕ). PairFits j (field_is k) e) is P

      go : Dec (d.0 < ea.0) → Dec (e.0 < r.0) → PairFits j d e → ⊥
      go (yes p) q P = none d e (inl p) P
      go (no p) (yes q) P = span_before e q (same P (omega arith))
      go (no p) (no q) P = is.high e (omega arith) (same P (omega arith))

-- and a's fields go on at one below which none has a case
pub none_next : (j : Job) (n : Biased) → NoneBelow j n → NoneBefore j (record { a = n; b = field_is 0 })
none_next j n none d e (inl l) P = none d e l P
none_next j n none d e (inr (same, l)) P = absurd (omega arith)
