-- One step of the machine: it goes on exactly where every mask is met in the column. Assumes nothing.
use mathlib.Core.Path.{◌≡◌, refl}
use mathlib.Core.Bool.{Bool, true, false, ◌&&◌, cond}
use Prim.Native.Nat.{ℕ, suc, ◌+◌, ◌*◌, ◌/◌, ◌%◌, ◌<◌}
use native.Mathlib.Nat.{lt_irrefl}
use borrow.Author.Tests.{ltb-true, lt-ltb}
use lib.Dec.{ltb}
use Rattle.columns.specs.Column.{allows}
use Rattle.chain.specs.declared.Wires.{Wires}
use Rattle.chain.specs.Walk.{first_sum, l_bit, x_bit, second_sum, fine, step}
use Rattle.chain.proofs.Column.{both, and_both}

module _ (w : Wires) (i s p r : ℕ) where
  abbrev pub next_state : ℕ
  next_state = second_sum w i s p r / 2 * 2 + first_sum s p r / 2

  pub record Fine : Type 0 where
    pub at_l : allows w.l.care w.l.value i (l_bit w.subtract s p r) ≡ true
    pub at_t : allows w.t.care w.t.value i r ≡ true
    pub at_x : allows w.x.care w.x.value i (x_bit w.subtract s p r) ≡ true
    pub at_carries : allows w.carries.care w.carries.value (suc i) (first_sum s p r / 2) ≡ true
    pub at_z : allows w.z.care w.z.value i (second_sum w i s p r % 2) ≡ true

  is_fine : fine w i s p r ≡ true → Fine
  unfolding fine
  is_fine e =
      let e4 = both e in
      let e3 = both e4.0 in
      let e2 = both e3.0 in
      let e1 = both e2.0 in
      record { at_l = e1.0; at_t = e1.1; at_x = e2.1; at_carries = e3.1; at_z = e4.1 }

  fine_is : Fine → fine w i s p r ≡ true
  unfolding fine
  fine_is h = and_both (and_both (and_both (and_both h.at_l h.at_t) h.at_x) h.at_carries) h.at_z

  pub step_is : s < 4 → Fine → step w i s p r ≡ next_state
  unfolding step
  step_is h f = rw (lt-ltb s 4 h, fine_is f)

  tests : step w i s p r < 4 → (ltb s 4 && fine w i s p r) ≡ true
  unfolding step
  tests h = alive (ltb s 4 && fine w i s p r) next_state h
    where
      alive : (b : Bool) (v : ℕ) → cond b v 4 < 4 → b ≡ true
      alive true v h = refl
      alive false v h = absurd (lt_irrefl 4 h)

  pub step_live : step w i s p r < 4 → s < 4
  step_live h = ltb-true s 4 (both {a = ltb s 4} {b = fine w i s p r} (tests h)).0

  pub step_fine : step w i s p r < 4 → Fine
  step_fine h = is_fine (both {a = ltb s 4} {b = fine w i s p r} (tests h)).1
