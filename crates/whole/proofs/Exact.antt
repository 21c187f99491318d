-- The walk over the columns is exact: the machine of `step` is alive after i columns exactly where every mask is met in them, and its state
-- is then the carry. Assumes nothing.
use mathlib.Core.Path.{◌≡◌, refl, sym, ap, ◌∙◌, subst}
use mathlib.Core.Bool.{Bool, true, false, ◌&&◌, cond, and-eq-true_iff}
use mathlib.Core.Logic.{◌↔◌, ⊎_elim}
use Prim.Native.Nat.{ℕ, zero, suc, ◌+◌, ◌*◌, ◌/◌, ◌%◌, ◌^◌, ◌≤◌, ◌<◌, zero-le}
use native.Mathlib.Nat.{mod-lt, mod-mod, le_trans, le-suc, le_refl, le_of_suc-le-suc, eq-or-lt_of_le, lt_irrefl, add-mul-mod_self_left}
use native.Mathlib.Numerals.{add-one}
use native.Mathlib.Omega.{arith}
use borrow.Author.Tests.{ltb-true, lt-ltb}
use lib.Arith.{le-zero}
use lib.Bits.{bit_xor}
use lib.Dec.{ltb}
use lib.Pow.{pow_pos}
use Rattle.bits.specs.Bit.{bit}
use Rattle.bits.proofs.Laws.{bit_lt}
use Rattle.mask.specs.declared.Mask.{Mask}
use Rattle.mask.specs.Mask.{Meets}
use Rattle.mask.proofs.ByBits.{value_below}
use Rattle.columns.specs.Carry.{carry}
use Rattle.columns.specs.Machine.{some, run, sets, Reached}
use Rattle.columns.proofs.Agree.{MetLow, met_zero, met_column, met_bits, met_agree, met_whole}
use Rattle.columns.proofs.Carry.{carry_zero, carry_suc, carry_lt, sum_bit, sum_total, carries_bit, carries_lt}
use Rattle.columns.proofs.Some.{some_sound, some_complete}
use Rattle.columns.proofs.Reach.{reach_sound, reach_complete}
use Rattle.whole.specs.declared.Masks.{Masks}
use Rattle.whole.specs.declared.Case.{Case}
use Rattle.whole.specs.Job.{Formed}
use Rattle.whole.specs.Fits.{Fits, Left}
use Rattle.whole.specs.Column.{at, column, step}

-- ---- a mask on the low bits of a number

abbrev Low : Mask → ℕ → ℕ → Type 0
Low m x i = MetLow m.care m.value x i

-- ---- one column

alive : (b : Bool) (v : ℕ) → cond b v 2 < 2 → b ≡ true
alive true v h = refl
alive false v h = absurd (lt_irrefl 2 h)

-- every mask is met in column i
pub record Column (s : Masks) (i c l r : ℕ) : Type 0 where
  pub at_x : at s.x i l ≡ true
  pub at_y : at s.y i r ≡ true
  pub at_z : at s.z i ((l + r + c) % 2) ≡ true
  pub at_carries : at s.carries (suc i) ((l + r + c) / 2) ≡ true

module _ (s : Masks) where
  column_told : (i c l r : ℕ) → column s i c l r ≡ true → Column s i c l r
  unfolding column
  column_told i c l r e =
      let x = at s.x i l in
      let y = at s.y i r in
      let z = at s.z i ((l + r + c) % 2) in
      let k = at s.carries (i + 1) ((l + r + c) / 2) in
      let e0 = (and-eq-true_iff (x && y) (z && k)).0 e in
      let e1 = (and-eq-true_iff x y).0 e0.0 in
      let e2 = (and-eq-true_iff z k).0 e0.1 in
      record { at_x = e1.0; at_y = e1.1; at_z = e2.0; at_carries = rw add-one at e2.1 }

  told_column : (i c l r : ℕ) → Column s i c l r → column s i c l r ≡ true
  unfolding column
  told_column i c l r h = rw (add-one, h.at_x, h.at_y, h.at_z, h.at_carries)

  pub step_live : (i c l r : ℕ) → step s i c l r < 2 → (c < 2) × Column s i c l r
  unfolding step
  step_live i c l r h =
      let both = (and-eq-true_iff (ltb c 2) (column s i c l r)).0 (alive (ltb c 2 && column s i c l r) ((l + r + c) / 2) h) in
      (ltb-true c 2 both.0, column_told i c l r both.1)

  pub step_next : (i c l r : ℕ) → c < 2 → Column s i c l r → step s i c l r ≡ (l + r + c) / 2
  unfolding step
  step_next i c l r hc h = rw (lt-ltb c 2 hc, told_column i c l r h)

  -- ---- the low i columns of x + y + c

  module _ (x y c : ℕ) where
    record Good (i : ℕ) : Type 0 where
      good_x : Low s.x x i
      good_y : Low s.y y i
      good_z : Low s.z (x + y + c) i
      good_carries : (j : ℕ) → j ≤ i → at s.carries j (carry x y c j) ≡ true

    live_good : at s.carries 0 c ≡ true → (i : ℕ) → run (step s) c i x y < 2 → (run (step s) c i x y ≡ carry x y c i) × Good i
    unfolding run
    live_good e zero h = (
      sym (carry_zero x y c),
      record {
        good_x = met_zero s.x.care s.x.value x;
        good_y = met_zero s.y.care s.y.value y;
        good_z = met_zero s.z.care s.z.value (x + y + c);
        good_carries = λ j l. rw (le-zero l, carry_zero x y c) e;
      },
    )
    live_good e (suc i) h =
        let t = run (step s) c i x y in
        let now = step_live i t (bit x i) (bit y i) h in
        let old = live_good e i now.0 in
        let col = rw old.0 at now.1 in
        let g = old.1 in (
          rw old.0 (step_next i (carry x y c i) (bit x i) (bit y i) (rw old.0 at now.0) col ∙ sym (carry_suc x y c i)),
          record {
            good_x = (met_column s.x.care s.x.value x i).1 (g.good_x, col.at_x);
            good_y = (met_column s.y.care s.y.value y i).1 (g.good_y, col.at_y);
            good_z = (met_column s.z.care s.z.value (x + y + c) i).1 (g.good_z, rw (sum_bit x y c i) col.at_z);
            good_carries = λ j l. ⊎_elim (λ (q : j ≡ suc i). rw (q, carry_suc x y c i) col.at_carries) (λ m. g.good_carries j (le_of_suc-le-suc m)) (eq-or-lt_of_le l);
          },
        )

    good_live : c < 2 → (i : ℕ) → Good i → run (step s) c i x y ≡ carry x y c i
    unfolding run
    good_live hc zero g = sym (carry_zero x y c)
    good_live hc (suc i) g =
        let px = (met_column s.x.care s.x.value x i).0 g.good_x in
        let py = (met_column s.y.care s.y.value y i).0 g.good_y in
        let pz = (met_column s.z.care s.z.value (x + y + c) i).0 g.good_z in
        let old : Good i = record {
          good_x = px.0;
          good_y = py.0;
          good_z = pz.0;
          good_carries = λ j l. g.good_carries j (le_trans l (le-suc i));
        } in
        let col : Column s i (carry x y c i) (bit x i) (bit y i) = record {
          at_x = px.1;
          at_y = py.1;
          at_z = rw (sum_bit x y c i) at pz.1;
          at_carries = rw (carry_suc x y c i) at (g.good_carries (suc i) (le_refl (suc i)));
        } in
        rw (good_live hc i old) (step_next i (carry x y c i) (bit x i) (bit y i) (carry_lt x y c hc i) col ∙ sym (carry_suc x y c i))

  -- ---- the whole walk

  module _ (n : ℕ) (formed : Formed n s) where
    -- the word of the carries meets its mask exactly where each carry is allowed
    carries_met : (w : ℕ) → w < 2 ^ (n + 1) → Meets w s.carries ↔ ((j : ℕ) → j < n + 1 → at s.carries j (bit w j) ≡ true)
    carries_met w h =
        let m = s.carries in
        let whole = met_whole m.care m.value w (n + 1) (value_below (n + 1) m formed.carries) h in
        let bits = met_bits m.care m.value w (n + 1) in
        (λ e. bits.0 (whole.1 e), λ all. whole.0 (bits.1 all))

    found : (c x y : ℕ) → c < 2 → x < 2 ^ n → y < 2 ^ n → Good x y c n → Left n s
    found c x y hc hx hy g =
        let sum = x + y + c in
        let w = bit_xor (bit_xor x y) sum in
        let z_lt = mod-lt sum (pow_pos n) in
        let w_lt : w < 2 ^ (n + 1) = rw add-one (carries_lt x y c hc n hx hy) in
        let first : bit w 0 ≡ c = carries_bit x y c hc 0 ∙ carry_zero x y c in
        record {
          case = record { x = x; y = y; z = sum % 2 ^ n; carries = w };
          fits = record {
            adds = record {
              x_lt = hx;
              y_lt = hy;
              z_lt = z_lt;
              carries_lt = w_lt;
              row = λ i l. carries_bit x y c hc i ∙ ap (λ (u : ℕ). carry x y u i) (sym first);
              total = ap (λ (u : ℕ). x + y + u) first ∙ sum_total x y c n hx hy ∙ ap (λ (u : ℕ). sum % 2 ^ n + 2 ^ n * u) (sym (carries_bit x y c hc n));
            };
            x_meets = (met_whole s.x.care s.x.value x n (value_below n s.x formed.x) hx).0 g.good_x;
            y_meets = (met_whole s.y.care s.y.value y n (value_below n s.y formed.y) hy).0 g.good_y;
            z_meets =
                (met_whole s.z.care s.z.value (sum % 2 ^ n) n (value_below n s.z formed.z) z_lt).0
                (met_agree s.z.care s.z.value sum (sum % 2 ^ n) n (sym (mod-mod sum (2 ^ n))) g.good_z);
            carries_meets = (carries_met w w_lt).1 (λ j l. rw (carries_bit x y c hc j) (g.good_carries j (omega arith)));
          };
        }

    good : (d : Case) → Fits n s d → Good d.x d.y (bit d.carries 0) n
    good d f =
        let a = f.adds in
        let c = bit d.carries 0 in
        let sum = d.x + d.y + c in
        let low : d.z % 2 ^ n ≡ sum % 2 ^ n = sym (ap (λ (u : ℕ). u % 2 ^ n) a.total ∙ add-mul-mod_self_left d.z (2 ^ n) (bit d.carries n)) in
        record {
          good_x = (met_whole s.x.care s.x.value d.x n (value_below n s.x formed.x) a.x_lt).1 f.x_meets;
          good_y = (met_whole s.y.care s.y.value d.y n (value_below n s.y formed.y) a.y_lt).1 f.y_meets;
          good_z =
              met_agree s.z.care s.z.value d.z sum n low
              ((met_whole s.z.care s.z.value d.z n (value_below n s.z formed.z) a.z_lt).1 f.z_meets);
          good_carries = λ j l. rw (← (a.row j l)) ((carries_met d.carries a.carries_lt).0 f.carries_meets j (omega arith));
        }

    -- after n columns some carry can stand there exactly where a case is left
    pub left_exact : (some 2 (sets (step s) 2 (at s.carries 0) n) ≡ true) ↔ Left n s
    left_exact = (there, back)
      where
        there : some 2 (sets (step s) 2 (at s.carries 0) n) ≡ true → Left n s
        there e =
            let w = some_sound 2 (sets (step s) 2 (at s.carries 0) n) e in
            let u = reach_sound (step s) 2 (at s.carries 0) n w.0 w.1 w.2 in
            let live : run (step s) u.from n u.L u.R < 2 = subst (λ (t : ℕ). t < 2) (sym u.ends) w.1 in
            found u.from u.L u.R u.from_lt u.L-lt u.R-lt (live_good u.L u.R u.from u.from_in n live).1

        back : Left n s → some 2 (sets (step s) 2 (at s.carries 0) n) ≡ true
        back p =
            let d = p.case in
            let a = p.fits.adds in
            let c = bit d.carries 0 in
            let hc = bit_lt d.carries 0 in
            let g = good d p.fits in
            let t = carry d.x d.y c n in
            let ht = carry_lt d.x d.y c hc n in
            let u : Reached (step s) 2 (at s.carries 0) n t = record {
              from = c;
              L = d.x;
              R = d.y;
              from_lt = hc;
              from_in = rw (carry_zero d.x d.y c) at (g.good_carries 0 zero-le);
              L-lt = a.x_lt;
              R-lt = a.y_lt;
              ends = good_live d.x d.y c hc n g;
            } in
            some_complete 2 (sets (step s) 2 (at s.carries 0) n) t ht
            (reach_complete (step s) 2 (at s.carries 0) (λ i c l r h. (step_live i c l r h).0) n t ht u)
