-- The machine ends in the state 0 exactly where l and t answer the question: with no carry out of either adder the numbers stay below 2^n,
-- and then a mask is met where its low n bits are. Assumes nothing.
use mathlib.Core.Path.{◌≡◌, refl, sym, ap, ◌∙◌, subst}
use mathlib.Core.Bool.{Bool, true, false, cond, false≢true}
use mathlib.Core.Logic.{◌↔◌}
use Prim.Native.Nat.{ℕ, ◌+◌, ◌-◌, ◌*◌, ◌/◌, ◌%◌, ◌^◌, ◌≤◌, ◌<◌, zero-le}
use native.Mathlib.Nat.{mod-lt, div-eq_of_lt, lt_of_le_of_lt}
use native.Mathlib.Omega.{arith}
use package.borrow.Author.Tests.{ltb-true, lt-ltb, eqb-true, eq-eqb}
use lib.Bits.{and_le_l}
use lib.Dec.{eqb}
use lib.Pow.{pow_pos}
use Rattle.columns.specs.Carry.{carry, combined, carry_of}
use Rattle.columns.specs.Column.{allows}
use Rattle.columns.specs.Machine.{run, Reached}
use Rattle.columns.proofs.Agree.{met_whole}
use Rattle.columns.proofs.Borrow.{borrow_carry}
use Rattle.columns.proofs.Carry.{carry_zero, sum_high, sum_total}
use Rattle.mask.specs.declared.Mask.{Mask}
use Rattle.mask.specs.Mask.{Meets}
use Rattle.chain.specs.declared.Wires.{Wires}
use Rattle.chain.specs.Chain.{Solved, Answered}
use Rattle.chain.specs.Ways.{mem}
use Rattle.chain.specs.Walk.{served_of, step}
use Rattle.chain.proofs.Words.{mem_pow}
use Rattle.chain.proofs.Column.{both, and_both}
use Rattle.chain.proofs.Run.{wire_l, wire_x, wire_z, state, state_lt, state_parts, state_zero, Good, alive_good, good_alive}

-- numbers of n bits: nothing is carried out of the top exactly where the sum has n bits
pub carry_top : (x y c n : ℕ) → x < 2 ^ n → y < 2 ^ n → (carry x y c n ≡ 0) ↔ (x + y + c < 2 ^ n)
carry_top x y c n hx hy = (
  λ e. omega (arith, sum_total x y c n hx hy ∙ ap (λ (k : ℕ). (x + y + c) % 2 ^ n + 2 ^ n * k) e, mod-lt (x + y + c) (pow_pos n)),
  λ h. omega (arith, sum_high x y c n, div-eq_of_lt h, div-eq_of_lt hx, div-eq_of_lt hy),
)

-- ---- the wires of p + t, as `Solved` names them

module _ (t : ℕ) where
  l_of : Bool → ℕ → ℕ
  l_of s p = cond s (p + t) p

  x_is : (s : Bool) (p : ℕ) → combined s (l_of s p) t ≡ cond s p (p + t)
  unfolding l_of
  x_is true p = omega arith
  x_is false p = refl

  carry_is : (s : Bool) (p i : ℕ) → carry_of s (l_of s p) t i ≡ carry p t 0 i
  unfolding l_of
  carry_is true p i =
      let e : p + t - (t + 0) ≡ p = omega arith in
      borrow_carry (p + t) t 0 (omega arith) (omega arith) i ∙ ap (λ (u : ℕ). carry u t 0 i) e
  carry_is false p i = refl

  ordered_of : (s : Bool) (p : ℕ) → s ≡ true → t ≤ l_of s p
  unfolding l_of
  ordered_of true p e = omega arith
  ordered_of false p e = absurd (false≢true e)

  -- every l is read so, where no difference is below 0
  p_of : Bool → ℕ → ℕ
  p_of s l = cond s (l - t) l

  l_is : (s : Bool) (l : ℕ) → (s ≡ true → t ≤ l) → l ≡ l_of s (p_of s l)
  unfolding l_of p_of
  l_is true l h = omega (arith, h refl)
  l_is false l h = refl

  -- l, x and p are at most p + t
  parts_le : (s : Bool) (p : ℕ) → (cond s (p + t) p ≤ p + t) × (cond s p (p + t) ≤ p + t)
  parts_le true p = (omega arith, omega arith)
  parts_le false p = (omega arith, omega arith)

  sum_lt : (s : Bool) (p m : ℕ) → cond s (p + t) p < m → cond s p (p + t) < m → p + t < m
  sum_lt true p m hl hx = hl
  sum_lt false p m hl hx = hx

-- ---- what is served

pub record Served (w : Wires) (n : ℕ) : Type 0 where
  pub l_value : w.l.value < 2 ^ n
  pub t_value : w.t.value < 2 ^ n
  pub x_value : w.x.value < 2 ^ n
  pub z_value : w.z.value < 2 ^ n
  pub constant_lt : w.constant < 2 ^ n
  pub carry_bit : w.carry < 2

module _ (w : Wires) (n : ℕ) where
  pub served_sound : served_of w n ≡ true → Served w n
  served_sound e =
      let e5 = both e in
      let e4 = both e5.0 in
      let e3 = both e4.0 in
      let e2 = both e3.0 in
      let e1 = both e2.0 in
      record {
        l_value = ltb-true _ _ e1.0;
        t_value = ltb-true _ _ e1.1;
        x_value = ltb-true _ _ e2.1;
        z_value = ltb-true _ _ e3.1;
        constant_lt = ltb-true _ _ e4.1;
        carry_bit = ltb-true _ _ e5.1;
      }

  pub served_complete : Served w n → served_of w n ≡ true
  served_complete v =
      and_both (and_both (and_both (and_both (and_both (lt-ltb _ _ v.l_value) (lt-ltb _ _ v.t_value)) (lt-ltb _ _ v.x_value)) (lt-ltb _ _ v.z_value)) (lt-ltb _ _ v.constant_lt))
      (lt-ltb _ _ v.carry_bit)

  value_lt : (m : Mask) (x : ℕ) → x < 2 ^ n → Meets x m → m.value < 2 ^ n
  value_lt m x h e = subst (λ (v : ℕ). v < 2 ^ n) e (lt_of_le_of_lt (and_le_l x m.care) h)

  -- a question with an answer is served
  pub solved_served : w.carry < 2 → (l t : ℕ) → Solved w n l t → Served w n
  solved_served hc l t v = record {
    l_value = value_lt w.l l v.l_lt v.l_meets;
    t_value = value_lt w.t t v.t_lt v.t_meets;
    x_value = value_lt w.x (combined w.subtract l t) v.x_lt v.x_meets;
    z_value = value_lt w.z (combined w.subtract l t + w.constant + w.carry) v.z_lt v.z_meets;
    constant_lt = omega (arith, v.z_lt);
    carry_bit = hc;
  }

  -- ---- the answer

  -- before the first column the second adder has its carry, and the first has none
  abbrev pub start : ℕ → Bool
  start = mem (2 ^ (2 * w.carry))

  module _ (p t : ℕ) (hc : w.carry < 2) where
    starts : (s : ℕ) → start s ≡ eqb s (state w p t hc 0)
    starts s =
        let e : 2 * w.carry ≡ state w p t hc 0 = omega (arith, state_zero w p t hc) in
        mem_pow (2 * w.carry) s ∙ ap (λ (k : ℕ). eqb s k) e

    -- no carry is left exactly where the numbers have n bits
    ends_fit : p < 2 ^ n → t < 2 ^ n → w.constant < 2 ^ n → (state w p t hc n ≡ 0) ↔ ((p + t < 2 ^ n) × (wire_z w p t < 2 ^ n))
    ends_fit hp ht hk = (
      λ e.
          let s = state_parts w p t hc n in
          let q : p + t < 2 ^ n = omega (arith, (carry_top p t 0 n hp ht).0 (sym s.0 ∙ ap (λ (k : ℕ). k % 2) e)) in
          (q, (carry_top (wire_x w p t) w.constant w.carry n (lt_of_le_of_lt (parts_le t w.subtract p).1 q) hk).0 (sym s.1 ∙ ap (λ (k : ℕ). k / 2) e)),
      λ h.
          let s = state_parts w p t hc n in
          let one = (carry_top p t 0 n hp ht).1 (omega (arith, h.0)) in
          let two = (carry_top (wire_x w p t) w.constant w.carry n (lt_of_le_of_lt (parts_le t w.subtract p).1 h.0) hk).1 h.1 in
          omega (arith, s.0 ∙ one, s.1 ∙ two),
    )

    solved : Served w n → t < 2 ^ n → p + t < 2 ^ n → wire_z w p t < 2 ^ n → Good w p t hc n → Solved w n (l_of t w.subtract p) t
    unfolding l_of
    solved v ht hq hz g =
        let s = w.subtract in
        let hl : wire_l w p t < 2 ^ n = lt_of_le_of_lt (parts_le t s p).0 hq in
        let hx : wire_x w p t < 2 ^ n = lt_of_le_of_lt (parts_le t s p).1 hq in
        let x = sym (x_is t s p) in
        record {
          l_lt = hl;
          t_lt = ht;
          ordered = ordered_of t s p;
          x_lt = subst (λ (x : ℕ). x < 2 ^ n) x hx;
          z_lt = subst (λ (x : ℕ). x + w.constant + w.carry < 2 ^ n) x hz;
          l_meets = (met_whole w.l.care w.l.value (wire_l w p t) n v.l_value hl).0 g.good_l;
          t_meets = (met_whole w.t.care w.t.value t n v.t_value ht).0 g.good_t;
          x_meets = subst (λ (x : ℕ). Meets x w.x) x ((met_whole w.x.care w.x.value (wire_x w p t) n v.x_value hx).0 g.good_x);
          z_meets = subst (λ (x : ℕ). Meets (x + w.constant + w.carry) w.z) x ((met_whole w.z.care w.z.value (wire_z w p t) n v.z_value hz).0 g.good_z);
          carries_allow = λ i h. ap (allows w.carries.care w.carries.value i) (carry_is t s p i) ∙ g.good_carries i h;
        }

    good : Served w n → Solved w n (l_of t w.subtract p) t → (p + t < 2 ^ n) × (wire_z w p t < 2 ^ n) × Good w p t hc n
    unfolding l_of
    good v a =
        let s = w.subtract in
        let x = x_is t s p in
        let hx : wire_x w p t < 2 ^ n = subst (λ (x : ℕ). x < 2 ^ n) x a.x_lt in
        let hz : wire_z w p t < 2 ^ n = subst (λ (x : ℕ). x + w.constant + w.carry < 2 ^ n) x a.z_lt in (
          sum_lt t s p (2 ^ n) a.l_lt hx,
          hz,
          record {
            good_l = (met_whole w.l.care w.l.value (wire_l w p t) n v.l_value a.l_lt).1 a.l_meets;
            good_t = (met_whole w.t.care w.t.value t n v.t_value a.t_lt).1 a.t_meets;
            good_x = (met_whole w.x.care w.x.value (wire_x w p t) n v.x_value hx).1 (subst (λ (x : ℕ). Meets x w.x) x a.x_meets);
            good_z = (met_whole w.z.care w.z.value (wire_z w p t) n v.z_value hz).1 (subst (λ (x : ℕ). Meets (x + w.constant + w.carry) w.z) x a.z_meets);
            good_carries = λ i h. sym (ap (allows w.carries.care w.carries.value i) (carry_is t s p i)) ∙ a.carries_allow i h;
          },
        )

  pub sound : Served w n → allows w.carries.care w.carries.value 0 0 ≡ true → Reached (step w) 4 start n 0 → n < 64 → Answered w n
  sound v h u few =
      let p = u.L in
      let t = u.R in
      let hc = v.carry_bit in
      let from : u.from ≡ state w p t hc 0 = eqb-true u.from (state w p t hc 0) (sym (starts p t hc u.from) ∙ u.from_in) in
      let ends : run (step w) (state w p t hc 0) n p t ≡ 0 = ap (λ (s : ℕ). run (step w) s n p t) (sym from) ∙ u.ends in
      let g = alive_good w p t hc h n (subst (λ (s : ℕ). s < 4) (sym ends) (omega arith)) in
      let fit = (ends_fit p t hc u.L-lt u.R-lt v.constant_lt).0 (sym g.0 ∙ ends) in
      record { columns_lt = few; carry_lt = hc; l = l_of t w.subtract p; t = t; solved = solved p t hc v u.R-lt fit.0 fit.1 g.1 }

  pub complete : w.carry < 2 → (l t : ℕ) → Solved w n l t → Reached (step w) 4 start n 0
  complete hc l t a =
      let p = p_of t w.subtract l in
      let v = solved_served hc l t a in
      let g = good p t hc v (subst (λ (l : ℕ). Solved w n l t) (l_is t w.subtract l a.ordered) a) in
      let hp : p < 2 ^ n = omega (arith, g.0) in
      let s = state w p t hc 0 in
      record {
        from = s;
        L = p;
        R = t;
        from_lt = state_lt w p t hc 0;
        from_in = starts p t hc s ∙ eq-eqb s s refl;
        L-lt = hp;
        R-lt = a.t_lt;
        ends = good_alive w p t hc n g.2 ∙ (ends_fit p t hc hp a.t_lt v.constant_lt).1 (g.0, g.1);
      }

  -- the carries' mask lets position 0 have no carry
  pub solved_start : (l t : ℕ) → Solved w n l t → allows w.carries.care w.carries.value 0 0 ≡ true
  solved_start l t a =
      let p = p_of t w.subtract l in
      let none : carry_of w.subtract l t 0 ≡ 0 =
      ap (λ (l : ℕ). carry_of w.subtract l t 0) (l_is t w.subtract l a.ordered) ∙ carry_is t w.subtract p 0 ∙ carry_zero p t 0 in
      ap (allows w.carries.care w.carries.value 0) (sym none) ∙ a.carries_allow 0 zero-le
