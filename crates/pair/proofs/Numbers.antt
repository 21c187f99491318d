-- Two finite numbers with the signs and the exponent fields of two sides, whose fractions meet the sides' masks, have a sum, a row and
-- dropped bits that meet the job's masks exactly when aligned significands make such, with the one or the other side as the larger. Assumes nothing.
use Rattle.std.specs.Prelude.{Option}
use mathlib.Core.Path.{◌≡◌, refl, sym, ap, ap₂, ◌∙◌, subst}
use mathlib.Core.Bool.{Bool, true, false, not, cond, false≢true}
use mathlib.Core.Logic.{◌↔◌, inl, inr, ⊎_elim}
use Prim.Native.Nat.{ℕ, ◌+◌, ◌^◌, ◌≤◌, ◌<◌}
use native.Mathlib.Nat.{le_of_lt, lt_of_lt_of_le}
use native.Mathlib.Decide.{dec_lt}
use native.Mathlib.Omega.{arith}
use lib.Dec.{eqb}
use lib.Pow.{pow_mono}
use Rattle.bits.specs.Bit.{bit}
use Rattle.format.specs.declared.Format.{Format}
use Rattle.format.specs.Format.{Supported, precision}
use Rattle.format.proofs.Room.{significand_room}
use Rattle.mask.specs.declared.Mask.{Mask}
use Rattle.mask.specs.Mask.{Meets, WellFormed}
use Rattle.mask.proofs.ByBits.{value_below}
use Rattle.job.specs.declared.Job.{Job}
use Rattle.job.specs.Job.{Valid}
use Rattle.job.specs.Guards.{guards_of}
use Rattle.job.proofs.GuardLaws.{guards_pos}
use Rattle.columns.specs.Column.{allows}
use Rattle.columns.proofs.Agree.{met_bits, met_whole}
use Rattle.word.specs.Word.{unit_of}
use Rattle.word.specs.Operand.{magnitude, Canonical}
use Rattle.rounding.specs.Sticky.{head_at, tail_at}
use Rattle.rounding.specs.Width.{aligned_bits, mask_bits}
use Rattle.rounding.proofs.Align.{tail_none}
use Rattle.rounding.proofs.Held.{Guards}
use Rattle.rounding.proofs.Widths.{aligned_width}
use Rattle.adder.specs.Result.{finite_sum}
use Rattle.adder.specs.Row.{finite_row}
use Rattle.adder.specs.Below.{finite_below}
use Rattle.fit.specs.Fit.{PartMeets}
use Rattle.word.proofs.Canonical.{significand_bounds, exponent_le}
use Rattle.significand.proofs.Significand.{significand_formed, significand_meets}
use Rattle.significand.proofs.Tail.{Room, tail_sound, tail_complete}
use Rattle.columns.specs.Carry.{combined}
use Rattle.rounding.specs.Outcome.{outcome}
use Rattle.pair.specs.declared.Side.{Side}
use Rattle.pair.specs.Pair.{FiniteSide, significands_of, gap_of, reversed_of, bits_below, aligned_of, Larger, Sums}
use Rattle.making.specs.Making.{row_carry}
use Rattle.outcome.specs.Outcome.{DropsAs}
use Rattle.adder.proofs.Aligned.{sum_exchanged, below_exchanged, tail_ordered, tail_below, sum_outcome}
use Rattle.pair.proofs.Below.{guards_of_lem, below_pos, below_more, below_room, drops_of, drops_back}
use Rattle.pair.proofs.Rows.{number, row_from, reversed_parts, row_from_lt, made_row}

-- a number of n bits meets a mask of n bits exactly when each of its bits is allowed
meets_allowed : (n x : ℕ) (m : Mask) → WellFormed n m → x < 2 ^ n → Meets x m ↔ ((i : ℕ) → i < n → allows m.care m.value i (bit x i) ≡ true)
meets_allowed n x m formed below = (
  λ h. (met_bits m.care m.value x n).0 ((met_whole m.care m.value x n (value_below n m formed) below).1 h),
  λ h. (met_whole m.care m.value x n (value_below n m formed) below).0 ((met_bits m.care m.value x n).1 h),
)

-- fractions that meet their masks, of numbers whose sum and row meet the job's
pub record Numbers (j : Job) (x y : Side) : Type 0 where
  pub p : ℕ
  pub q : ℕ
  pub p_lt : p < 2 ^ j.setting.format.f
  pub q_lt : q < 2 ^ j.setting.format.f
  pub p_meets : Meets p x.fraction
  pub q_meets : Meets q y.fraction
  pub row_meets_lem : Meets (row_from j.setting.format y (number j.setting.format x p) (number j.setting.format y q)) j.carries
  pub below_meets_lem : PartMeets (finite_below j.setting.format j.dropped.g (number j.setting.format x p) (number j.setting.format y q)) j.dropped.mask
  pub sum_meets : Meets (finite_sum j.setting.format j.setting.mode (number j.setting.format x p) (number j.setting.format y q)) j.c.mask

pub number_canonical : (F : Format) (x : Side) → FiniteSide F x → (t : ℕ) → t < 2 ^ F.f → Canonical F (number F x t)
number_canonical F x fx t ht =
    let b = significand_bounds F.f x.exponent.0 t ht in
    record { sign_lt = fx.sign_lt; exponent_lt = fx.finite; significand_lt = b.0; subnormal = b.1; normal = b.2 }

-- a comes first in either order of the sides
first_same : (s t : Bool) → s ≡ not t → (m n : ℕ) → cond t n m ≡ cond s m n
first_same s true e m n = ap (λ (b : Bool). cond b m n) (sym e)
first_same s false e m n = ap (λ (b : Bool). cond b m n) (sym e)

-- the same numbers in the other order: the sum stays, and the row is still that of a and b
exchange : (j : Job) (x y : Side) → x.lhs ≡ not y.lhs → Numbers j x y → Numbers j y x
exchange j x y other N =
    let F = j.setting.format in
    let X = number F x N.p in
    let Y = number F y N.q in
    record {
      p = N.q;
      q = N.p;
      p_lt = N.q_lt;
      q_lt = N.p_lt;
      p_meets = N.q_meets;
      q_meets = N.p_meets;
      row_meets_lem = subst (λ (n : ℕ). Meets n j.carries) (first_same x.lhs y.lhs other (finite_row F X Y) (finite_row F Y X)) N.row_meets_lem;
      below_meets_lem = subst (λ (b : Option ℕ). PartMeets b j.dropped.mask) (below_exchanged F j.dropped.g X Y) N.below_meets_lem;
      sum_meets = subst (λ (n : ℕ). Meets n j.c.mask) (sum_exchanged F j.setting.mode X Y) N.sum_meets;
    }

module _ (j : Job) (valid : Valid j) (x y : Side) (fx : FiniteSide j.setting.format x) (fy : FiniteSide j.setting.format y) where
  F : Format
  F = j.setting.format

  ok : Supported j.setting.format
  ok = valid.setting.format

  -- the bits below, and room for them
  G : ℕ
  G = guards_of j.dropped

  like : Bool
  like = eqb x.sign y.sign

  q : ℕ
  q = bits_below (guards_of j.dropped) (eqb x.sign y.sign)

  guards : Guards (bits_below (guards_of j.dropped) (eqb x.sign y.sign)) (guards_of j.dropped)
  guards = guards_of_lem (guards_of j.dropped) (guards_pos j.dropped) (eqb x.sign y.sign)

  more : eqb x.sign y.sign ≡ false → guards_of j.dropped + 1 < bits_below (guards_of j.dropped) (eqb x.sign y.sign)
  more = below_more (guards_of j.dropped) (guards_pos j.dropped) (eqb x.sign y.sign)

  some : 0 < bits_below (guards_of j.dropped) (eqb x.sign y.sign)
  some = below_pos (guards_of j.dropped) (guards_pos j.dropped) (eqb x.sign y.sign)

  room : Room (bits_below (guards_of j.dropped) (eqb x.sign y.sign)) (precision j.setting.format)
  room = below_room j.setting.format valid.setting.format j.dropped valid.dropped (eqb x.sign y.sign)

  f_most : j.setting.format.f < 64
  f_most = omega (arith, significand_room j.setting.format valid.setting.format)

  gap : ℕ
  gap = gap_of x y

  -- numbers of which y's is not the larger, and the smaller where the row is reversed
  larger_of : (N : Numbers j x y) → magnitude (number j.setting.format y N.q) ≤ magnitude (number j.setting.format x N.p)
      → (reversed_of x y ≡ true → magnitude (number j.setting.format y N.q) < magnitude (number j.setting.format x N.p)) → Larger j x y
  unfolding F ok gap G like q
  larger_of N le less =
      let X = number F x N.p in
      let Y = number F y N.q in
      let cx = number_canonical F x fx N.p N.p_lt in
      let cy = number_canonical F y fy N.q N.q_lt in
      let order : y.exponent.0 ≤ x.exponent.0 = exponent_le F X Y cx cy le in
      let units : (unit_of y.exponent).0 ≤ (unit_of x.exponent).0 = omega (arith, order) in
      let hm = (significand_meets F.f x.fraction f_most fx.formed x.exponent X.significand).1 (N.p, N.p_lt, N.p_meets, refl) in
      let tm = (significand_meets F.f y.fraction f_most fy.formed y.exponent Y.significand).1 (N.q, N.q_lt, N.q_meets, refl) in
      let hs = tail_sound q (precision F) (significands_of F x) 0 room (significand_formed F.f x.fraction f_most fx.formed x.exponent) X.significand hm.1 hm.0 in
      let ts = tail_sound q (precision F) (significands_of F y) gap room (significand_formed F.f y.fraction f_most fy.formed y.exponent) Y.significand tm.1 tm.0 in
      let zero = tail_none q some X.significand in
      let row = (meets_allowed (precision F) (row_from F y X Y) j.carries valid.carries (row_from_lt F y X Y)).0 N.row_meets_lem in (
        order,
        record {
          x = combined (not (eqb x.sign y.sign)) (head_at q X.significand) (tail_at q Y.significand gap);
          made = record {
            H = head_at q X.significand;
            T = tail_at q Y.significand gap;
            head_lt = subst (λ (n : ℕ). head_at q X.significand < 2 ^ n) (aligned_width q F) (rw zero at hs.1);
            tail_lt = subst (λ (n : ℕ). tail_at q Y.significand gap < 2 ^ n) (aligned_width q F) ts.1;
            head_meets = rw zero at hs.0;
            tail_meets = ts.0;
            ordered = λ u. (tail_ordered F X Y units q some).1 le;
            less = λ r. tail_below F X Y units q some (less r);
            carries_allow = λ i h.
                subst (λ (b : ℕ). allows j.carries.care j.carries.value i b ≡ true) (made_row F G j.carries q some x y N.p N.q order i h) (row i h);
            makes = refl;
          };
          holds = record {
            word = subst (λ (w : ℕ). Meets w j.c.mask) (sum_outcome F X Y units ok cx cy q G guards more j.setting.mode (λ u. le)) N.sum_meets;
            drops = drops_of F X Y units ok cx cy j.dropped valid.dropped (λ u. le) N.below_meets_lem;
          };
        },
      )

  pub larger_numbers : Larger j x y → Numbers j x y
  unfolding F ok gap G like q
  larger_numbers (order, admitted) =
      let A = admitted.made in
      let units : (unit_of y.exponent).0 ≤ (unit_of x.exponent).0 = omega (arith, order) in
      let wide : (v : ℕ) → v < 2 ^ aligned_bits q F.f → v < 2 ^ mask_bits = λ v h. lt_of_lt_of_le h (pow_mono {i = aligned_bits q F.f} {j = mask_bits} (omega (arith, room.few, room.short))) in
      let hc = tail_complete q (precision F) (significands_of F x) 0 room (significand_formed F.f x.fraction f_most fx.formed x.exponent) A.H (wide A.H A.head_lt) A.head_meets in
      let tc = tail_complete q (precision F) (significands_of F y) gap room (significand_formed F.f y.fraction f_most fy.formed y.exponent) A.T (wide A.T A.tail_lt) A.tail_meets in
      let hm = (significand_meets F.f x.fraction f_most fx.formed x.exponent hc.0).0 (hc.2, hc.1) in
      let tm = (significand_meets F.f y.fraction f_most fy.formed y.exponent tc.0).0 (tc.2, tc.1) in
      let X = number F x hm.0 in
      let Y = number F y tm.0 in
      let cx = number_canonical F x fx hm.0 hm.1 in
      let cy = number_canonical F y fy tm.0 tm.1 in
      let H : head_at q X.significand ≡ A.H = sym (tail_none q some X.significand) ∙ ap (λ (r : ℕ). tail_at q r 0) hm.3 ∙ hc.3 in
      let T : tail_at q Y.significand gap ≡ A.T = ap (λ (r : ℕ). tail_at q r gap) tm.3 ∙ tc.3 in
      let makes_is : combined (not (eqb x.sign y.sign)) (head_at q X.significand) (tail_at q Y.significand gap) ≡ admitted.x = ap₂ (combined (not (eqb x.sign y.sign))) H T ∙ A.makes in
      let ordered : (eqb x.sign y.sign ≡ false → magnitude Y ≤ magnitude X) = λ u. (tail_ordered F X Y units q some).0 (rw (H, T) (A.ordered u)) in
      record {
        p = hm.0;
        q = tm.0;
        p_lt = hm.1;
        q_lt = tm.1;
        p_meets = hm.2;
        q_meets = tm.2;
        row_meets_lem = (meets_allowed (precision F) (row_from F y X Y) j.carries valid.carries (row_from_lt F y X Y)).1
            (λ i h.
            subst (λ (b : ℕ). allows j.carries.care j.carries.value i b ≡ true)
            (sym (made_row F G j.carries q some x y hm.0 tm.0 order i h ∙ ap₂ (λ (a b : ℕ). row_carry (aligned_of F G j.carries x y) a b (i + (1 + q))) H T)) (A.carries_allow i h));
        sum_meets = subst (λ (w : ℕ). Meets w j.c.mask)
            (sym
            (sum_outcome F X Y units ok cx cy q G guards more j.setting.mode ordered
            ∙ ap (outcome q F j.setting.mode like x.sign (unit_of x.exponent)) makes_is))
            admitted.holds.word;
        below_meets_lem = drops_back F X Y units ok cx cy j.dropped valid.dropped ordered
            (subst (DropsAs F q (unit_of x.exponent) j.dropped) (sym makes_is) admitted.holds.drops);
      }

-- whichever is the larger; x is a's side, and y is b's
pub sums_numbers : (j : Job) → Valid j → (x y : Side) → FiniteSide j.setting.format x → FiniteSide j.setting.format y → x.lhs ≡ true → y.lhs ≡ false
    → Sums j x y ↔ Numbers j x y
unfolding exchange
sums_numbers j valid x y fx fy is-a is_b = (
  ⊎_elim (larger_numbers j valid x y fx fy) (λ l. exchange j y x (is_b ∙ ap not (sym is-a)) (larger_numbers j valid y x fy fx l)),
  λ N.
      let X = number j.setting.format x N.p in
      let Y = number j.setting.format y N.q in
      go N (dec_lt (magnitude X) (magnitude Y)),
)
  where
    go : (N : Numbers j x y) → Dec (magnitude (number j.setting.format x N.p) < magnitude (number j.setting.format y N.q)) → Sums j x y
    go N (yes l) = inr (larger_of j valid y x fy fx (exchange j x y (is-a ∙ ap not (sym is_b)) N) (le_of_lt l) (λ r. l))
    go N (no l) = inl (larger_of j valid x y fx fy N (omega arith) (λ r. absurd (false≢true (sym is_b ∙ (reversed_parts x y r).0))))
