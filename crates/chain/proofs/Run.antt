-- What a run means. The machine reads p and t: the first adder makes p + t, which is x and p is l for a sum, and which is l and p is x for a
-- difference. After i columns the state is the two carries into position i, if every wire agrees with its mask so far, and is dead otherwise.
-- By induction on the columns. Assumes nothing.
use mathlib.Core.Path.{◌≡◌, refl, sym, ap, ap₂, ◌∙◌, subst}
use mathlib.Core.Bool.{Bool, true, false, cond}
use mathlib.Core.Logic.{⊎_elim}
use Prim.Native.Nat.{ℕ, zero, suc, ◌+◌, ◌*◌, ◌/◌, ◌%◌, ◌≤◌, ◌<◌}
use native.Mathlib.Nat.{le_trans, le-suc, le_refl, le_of_suc-le-suc, eq-or-lt_of_le, add-zero}
use native.Mathlib.Omega.{arith}
use lib.Arith.{le-zero}
use Rattle.bits.specs.Bit.{bit}
use Rattle.columns.specs.Carry.{carry}
use Rattle.columns.specs.Column.{allows}
use Rattle.columns.specs.Machine.{run}
use Rattle.columns.proofs.Agree.{MetLow, met_zero, met_column}
use Rattle.columns.proofs.Carry.{carry_zero, carry_suc, carry_lt, sum_bit, chain_bit, chain_suc}
use Rattle.mask.specs.declared.Mask.{Mask}
use Rattle.chain.specs.declared.Wires.{Wires}
use Rattle.chain.specs.Walk.{first_sum, l_bit, x_bit, second_sum, step}
use Rattle.chain.proofs.Step.{Fine, next_state, step_is, step_live, step_fine}

bit_cond : (s : Bool) (a b i : ℕ) → bit (cond s a b) i ≡ cond s (bit a i) (bit b i)
bit_cond true a b i = refl
bit_cond false a b i = refl

-- the mask m is met by x in its low i bits
abbrev pub Met : Mask → ℕ → ℕ → Type 0
Met m x i = MetLow m.care m.value x i

-- the numbers on the wires, and the carries of the two adders
module _ (w : Wires) (p t : ℕ) where
  abbrev pub wire_l : ℕ
  wire_l = cond w.subtract (p + t) p

  abbrev pub wire_x : ℕ
  wire_x = cond w.subtract p (p + t)

  abbrev pub wire_z : ℕ
  wire_z = wire_x + w.constant + w.carry

  abbrev carry1 : ℕ → ℕ
  carry1 i = carry p t 0 i

  abbrev carry2 : ℕ → ℕ
  carry2 i = carry wire_x w.constant w.carry i

module _ (w : Wires) (p t : ℕ) (hc : w.carry < 2) where
  abbrev L : ℕ
  L = wire_l w p t

  abbrev X : ℕ
  X = wire_x w p t

  abbrev Z : ℕ
  Z = wire_z w p t

  abbrev one : ℕ → ℕ
  one = carry1 w p t

  abbrev two : ℕ → ℕ
  two = carry2 w p t

  pub state : ℕ → ℕ
  state i = two i * 2 + one i

  pub state_lt : (i : ℕ) → state i < 4
  unfolding state
  state_lt i = omega (arith, carry_lt p t 0 (omega arith) i, carry_lt X w.constant w.carry hc i)

  pub state_parts : (i : ℕ) → (state i % 2 ≡ one i) × (state i / 2 ≡ two i)
  unfolding state
  state_parts i =
      let h = carry_lt p t 0 (omega arith) i in
      (omega arith, omega arith)

  pub state_zero : state 0 ≡ w.carry * 2
  unfolding state
  state_zero = omega (arith, carry_zero p t 0, carry_zero X w.constant w.carry)

  -- ---- one column

  module _ (i : ℕ) where
    abbrev s : ℕ
    s = state i

    first_is : first_sum s (bit p i) (bit t i) ≡ bit p i + bit t i + one i
    first_is = ap (λ (u : ℕ). bit p i + bit t i + u) (state_parts i).0

    sum_is : bit (p + t) i ≡ first_sum s (bit p i) (bit t i) % 2
    sum_is = ap (λ (u : ℕ). bit u i) (sym (add-zero (p + t))) ∙ sum_bit p t 0 i ∙ ap (λ (u : ℕ). u % 2) (sym first_is)

    one_suc : one (suc i) ≡ first_sum s (bit p i) (bit t i) / 2
    one_suc = carry_suc p t 0 i ∙ ap (λ (u : ℕ). u / 2) (sym first_is)

    bit_l : bit L i ≡ l_bit w.subtract s (bit p i) (bit t i)
    bit_l = bit_cond w.subtract (p + t) p i ∙ ap (λ (u : ℕ). cond w.subtract u (bit p i)) sum_is

    bit_x : bit X i ≡ x_bit w.subtract s (bit p i) (bit t i)
    bit_x = bit_cond w.subtract p (p + t) i ∙ ap (λ (u : ℕ). cond w.subtract (bit p i) u) sum_is

    second_is : second_sum w i s (bit p i) (bit t i) ≡ x_bit w.subtract s (bit p i) (bit t i) + bit w.constant i + two i
    second_is = ap (λ (u : ℕ). x_bit w.subtract s (bit p i) (bit t i) + bit w.constant i + u) (state_parts i).1

    bit_z : bit Z i ≡ second_sum w i s (bit p i) (bit t i) % 2
    bit_z = chain_bit X w.constant w.carry i (x_bit w.subtract s (bit p i) (bit t i)) bit_x ∙ ap (λ (u : ℕ). u % 2) (sym second_is)

    two_suc : two (suc i) ≡ second_sum w i s (bit p i) (bit t i) / 2
    two_suc = chain_suc X w.constant w.carry i (x_bit w.subtract s (bit p i) (bit t i)) bit_x ∙ ap (λ (u : ℕ). u / 2) (sym second_is)

    state_suc : next_state w i s (bit p i) (bit t i) ≡ state (suc i)
    unfolding state
    state_suc = ap₂ (λ (u v : ℕ). u * 2 + v) (sym two_suc) (sym one_suc)

  -- ---- every column so far

  pub record Good (i : ℕ) : Type 0 where
    pub good_l : Met w.l L i
    pub good_t : Met w.t t i
    pub good_x : Met w.x X i
    pub good_z : Met w.z Z i
    pub good_carries : (j : ℕ) → j ≤ i → allows w.carries.care w.carries.value j (one j) ≡ true

  good_zero : allows w.carries.care w.carries.value 0 0 ≡ true → Good 0
  good_zero h = record {
    good_l = met_zero w.l.care w.l.value L;
    good_t = met_zero w.t.care w.t.value t;
    good_x = met_zero w.x.care w.x.value X;
    good_z = met_zero w.z.care w.z.value Z;
    good_carries = λ j l. rw (le-zero l, carry_zero p t 0) h;
  }

  -- one column more is good exactly where it is fine
  good_more : (i : ℕ) → Good i → Fine w i (state i) (bit p i) (bit t i) → Good (suc i)
  good_more i g f = record {
    good_l = (met_column w.l.care w.l.value L i).1 (g.good_l, rw (bit_l i) f.at_l);
    good_t = (met_column w.t.care w.t.value t i).1 (g.good_t, f.at_t);
    good_x = (met_column w.x.care w.x.value X i).1 (g.good_x, rw (bit_x i) f.at_x);
    good_z = (met_column w.z.care w.z.value Z i).1 (g.good_z, rw (bit_z i) f.at_z);
    good_carries = λ j l. ⊎_elim (λ (q : j ≡ suc i). rw (q, one_suc i) f.at_carries) (λ h. g.good_carries j (le_of_suc-le-suc h)) (eq-or-lt_of_le l);
  }

  good_less : (i : ℕ) → Good (suc i) → Good i × Fine w i (state i) (bit p i) (bit t i)
  good_less i g =
      let ml = (met_column w.l.care w.l.value L i).0 g.good_l in
      let mt = (met_column w.t.care w.t.value t i).0 g.good_t in
      let mx = (met_column w.x.care w.x.value X i).0 g.good_x in
      let mz = (met_column w.z.care w.z.value Z i).0 g.good_z in (
        record { good_l = ml.0; good_t = mt.0; good_x = mx.0; good_z = mz.0; good_carries = λ j l. g.good_carries j (le_trans l (le-suc i)) },
        record {
          at_l = rw (← bit_l i) ml.1;
          at_t = mt.1;
          at_x = rw (← bit_x i) mx.1;
          at_carries = rw (← one_suc i) (g.good_carries (suc i) (le_refl (suc i)));
          at_z = rw (← bit_z i) mz.1;
        },
      )

  pub alive_good : allows w.carries.care w.carries.value 0 0 ≡ true → (i : ℕ) → run (step w) (state 0) i p t < 4
      → (run (step w) (state 0) i p t ≡ state i) × Good i
  unfolding run
  alive_good h zero l = (refl, good_zero h)
  alive_good h (suc i) l =
      let s = run (step w) (state 0) i p t in
      let old = alive_good h i (step_live w i s (bit p i) (bit t i) l) in
      let f : Fine w i (state i) (bit p i) (bit t i) = subst (λ (s : ℕ). Fine w i s (bit p i) (bit t i)) old.0 (step_fine w i s (bit p i) (bit t i) l) in
      (ap (λ (s : ℕ). step w i s (bit p i) (bit t i)) old.0 ∙ step_is w i (state i) (bit p i) (bit t i) (state_lt i) f ∙ state_suc i, good_more i old.1 f)

  pub good_alive : (i : ℕ) → Good i → run (step w) (state 0) i p t ≡ state i
  unfolding run
  good_alive zero g = refl
  good_alive (suc i) g =
      let old = good_less i g in
      ap (λ (s : ℕ). step w i s (bit p i) (bit t i)) (good_alive i old.0)
      ∙ step_is w i (state i) (bit p i) (bit t i) (state_lt i) old.1
      ∙ state_suc i
