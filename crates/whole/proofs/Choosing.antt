-- Three walks, one for each number, end at the chosen case: the first fixes x, the second y among the cases with that x, the third z
-- among those with that x and y. The numbers of a case tell its carries, so two cases differ in a number. Assumes nothing.
use mathlib.Core.Path.{◌≡◌, refl, sym, ap, ap₂, ◌∙◌, subst}
use mathlib.Core.Logic.{◌⊎◌}
use Prim.Native.Nat.{ℕ, zero, suc, ◌+◌, ◌*◌, ◌%◌, ◌^◌, ◌≤◌, ◌<◌}
use native.Mathlib.Nat.{pow-suc, mul_right_comm}
use native.Mathlib.Numerals.{add-one}
use native.Mathlib.Omega.{arith}
use lib.Bits.{bit_xor}
use Rattle.bits.specs.Bit.{bit}
use Rattle.bits.proofs.Laws.{by_bits, bit_lt}
use Rattle.columns.specs.Carry.{carry}
use Rattle.choice.specs.Choice.{Closest, Farther}
use Rattle.columns.proofs.Carry.{carries_bit, carries_lt}
use Rattle.choice.proofs.Closest.{farther}
use Rattle.choice.specs.Walk.{Has}
use Rattle.whole.specs.declared.Masks.{Masks}
use Rattle.whole.specs.declared.Case.{Case}
use Rattle.whole.specs.declared.Role.{Role}
use Rattle.whole.specs.declared.Role.TheVariants.{X, Y, Z}
use Rattle.whole.specs.Role.{number}
use Rattle.whole.specs.Fits.{Adds, Fits}
use Rattle.whole.specs.Choice.{Chosen}
use Rattle.whole.specs.Walk.{WalkEnd, case_of}

-- ---- the numbers of a case tell the rest

module _ (n : ℕ) (c : Case) (a : Adds n c) (least : 1 ≤ n) where
  -- the carry in makes the lowest bits right
  carry_in : bit c.carries 0 ≡ (c.x + c.y + c.z) % 2
  carry_in = go n least a.total
    where
      go : (m : ℕ) → 1 ≤ m → c.x + c.y + bit c.carries 0 ≡ c.z + 2 ^ m * bit c.carries n → bit c.carries 0 ≡ (c.x + c.y + c.z) % 2
      go zero h e = absurd (omega arith)
      go (suc m) h e =
          let b = bit c.carries n in
          let even : 2 ^ suc m * b ≡ 2 ^ m * b * 2 = ap (λ (u : ℕ). u * b) (pow-suc 2 m) ∙ mul_right_comm (2 ^ m) 2 b in
          omega (arith, bit_lt c.carries 0)

  pub adds_case : c ≡ case_of c.x c.y c.z
  adds_case =
      let c0 = (c.x + c.y + c.z) % 2 in
      let h : c0 < 2 = omega arith in
      let w = bit_xor (bit_xor c.x c.y) (c.x + c.y + c0) in
      let w_lt : w < 2 ^ (n + 1) = rw add-one (carries_lt c.x c.y c0 h n a.x_lt a.y_lt) in
      let same : c.carries ≡ w =
      by_bits (n + 1) a.carries_lt w_lt
      (λ i l. a.row i (omega arith) ∙ ap (λ (u : ℕ). carry c.x c.y u i) carry_in ∙ sym (carries_bit c.x c.y c0 h i))
      in
      ap (λ (u : ℕ). record { x = c.x; y = c.y; z = c.z; carries = u }) same

-- two cases with the same numbers are the same
pub same_case : (n : ℕ) (c d : Case) → 1 ≤ n → Adds n c → Adds n d → d.x ≡ c.x → d.y ≡ c.y → d.z ≡ c.z → d ≡ c
same_case n c d least added-c added-d ex ey ez =
    adds_case n d added-d least
    ∙ ap₂ (λ (x y : ℕ). case_of x y d.z) ex ey
    ∙ ap (λ (z : ℕ). case_of c.x c.y z) ez
    ∙ sym (adds_case n c added-c least)

-- ---- three walks

-- the closest number of a role, of a fitting case
nearest : (n : ℕ) (s : Masks) (role : Role) (word v : ℕ) → Closest (Has Case (number role) (Fits n s)) word v → (d : Case) → Fits n s d
    → (number role d ≡ v) ⊎ (bit_xor v word < bit_xor (number role d) word)
nearest n s role word v q d f = q.least (number role d) (record { case = d; fits = f; is = refl })

module _ (n : ℕ) (s : Masks) {rx ry rz : ℕ} (least : 1 ≤ n) (sx sy sz : Masks) (qx : WalkEnd n s X rx sx) (qy : WalkEnd n sx Y ry sy)
    (qz : WalkEnd n sy Z rz sz) where
  -- what the walks have fixed
  abbrev pub chosen : Case
  chosen = case_of sx.x.value sy.y.value sz.z.value

  -- the case that is left at the end
  last : Case
  last = qz.ready.left.case

  last_z : Fits n sy last × (last.z ≡ sz.z.value)
  unfolding last
  last_z = (qz.ends.same last).0 qz.ready.left.fits

  last_y : Fits n sx last × (last.y ≡ sy.y.value)
  last_y = (qy.ends.same last).0 last_z.0

  last_x : Fits n s last × (last.x ≡ sx.x.value)
  last_x = (qx.ends.same last).0 last_y.0

  is_last : chosen ≡ last
  is_last =
      sym (adds_case n last last_x.0.adds least ∙ ap₂ (λ (x y : ℕ). case_of x y last.z) last_x.1 last_y.1 ∙ ap (λ (z : ℕ). case_of sx.x.value sy.y.value z) last_z.1)

  chosen_fits : Fits n s chosen
  chosen_fits = subst (Fits n s) (sym is_last) last_x.0

  -- each of its numbers is of n bits
  pub chosen_lt : (sx.x.value < 2 ^ n) × (sy.y.value < 2 ^ n) × (sz.z.value < 2 ^ n)
  chosen_lt = (chosen_fits.adds.x_lt, chosen_fits.adds.y_lt, chosen_fits.adds.z_lt)

  pub walks_choose : Chosen n s (record { x = rx; y = ry; z = rz }) chosen
  walks_choose = record { fits = chosen_fits; least = later }
    where
      later : (d : Case) → Fits n s d
          → Farther rx sx.x.value d.x (Farther ry sy.y.value d.y (Farther rz sz.z.value d.z (d ≡ chosen)))
      later d f =
          farther rx sx.x.value d.x (nearest n s X rx sx.x.value qx.ends.closest d f)
          (λ ex.
          let g = (qx.ends.same d).1 (f, ex) in
          farther ry sy.y.value d.y (nearest n sx Y ry sy.y.value qy.ends.closest d g)
          (λ ey.
          let h = (qy.ends.same d).1 (g, ey) in
          farther rz sz.z.value d.z (nearest n sy Z rz sz.z.value qz.ends.closest d h)
          (λ ez. same_case n chosen d least chosen_fits.adds f.adds ex ey ez)))
