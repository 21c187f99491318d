-- One step of the bit walk, whatever the members are: Q keeps those members of P whose bit k has one value, and this is the value asked for
-- or the only one that there was. So a choice in Q is the choice in P, and where the value asked for leaves nothing every member has the
-- other. Assumes nothing.
use mathlib.Core.Path.{◌≡◌, sym, ◌∙◌}
use mathlib.Core.Logic.{◌⊎◌, inl, inr, ◌↔◌}
use Prim.Native.Nat.{ℕ, suc, ◌-◌, ◌<◌}
use native.Mathlib.Decide.{ℕ_discrete}
use native.Mathlib.Omega.{arith}
use Rattle.bits.specs.Bit.{bit}
use Rattle.bits.proofs.Laws.{bit_lt}
use Rattle.choice.specs.Choice.{Closest, AgreeFrom}
use Rattle.choice.proofs.Closest.{closest_cong, closest_step}

pub record Narrowed (P Q : ℕ → Type 0) (k v : ℕ) : Type 0 where
  pub is : ℕ
  pub same : (y : ℕ) → Q y ↔ (P y × (bit y k ≡ is))
  pub why : (is ≡ v) ⊎ ((y : ℕ) → P y → bit y k ≡ is)

module _ (P Q : ℕ → Type 0) (k v : ℕ) (h : Narrowed P Q k v) where
  -- where every member has the bit, none is lost
  pub narrowed_all : ((y : ℕ) → P y → bit y k ≡ v) → (y : ℕ) → P y → Q y
  narrowed_all all y m = (h.same y).1 (m, go h.why)
    where
      go : (h.is ≡ v) ⊎ ((z : ℕ) → P z → bit z k ≡ h.is) → bit y k ≡ h.is
      go (inl e) = all y m ∙ sym e
      go (inr only) = only y m

  -- where nothing is left, every member has the other bit
  pub narrowed_none : v < 2 → ((y : ℕ) → Q y → ⊥) → (y : ℕ) → P y → bit y k ≡ 1 - v
  narrowed_none hv none y m = go h.why (ℕ_discrete (bit y k) h.is)
    where
      go : (h.is ≡ v) ⊎ ((z : ℕ) → P z → bit z k ≡ h.is) → Dec (bit y k ≡ h.is) → bit y k ≡ 1 - v
      go w (yes e) = absurd (none y ((h.same y).1 (m, e)))
      go (inl e) (no ne) = omega (arith, bit_lt y k)
      go (inr only) (no ne) = absurd (ne (only y m))

  -- the bit of r, or the only one that a member has
  pub narrowed_closest : AgreeFrom P (suc k) → (r x : ℕ) → ((v ≡ bit r k) ⊎ ((y : ℕ) → P y → bit y k ≡ v)) → Closest Q r x → Closest P r x
  narrowed_closest agree r x asked c =
      closest_step P k h.is agree r x
      (closest_cong Q (λ y. P y × (bit y k ≡ h.is)) (λ y. (h.same y).0) (λ y. (h.same y).1) r x c)
      (go h.why asked)
    where
      go : (h.is ≡ v) ⊎ ((y : ℕ) → P y → bit y k ≡ h.is)
          → (v ≡ bit r k) ⊎ ((y : ℕ) → P y → bit y k ≡ v)
          → (h.is ≡ bit r k) ⊎ ((y : ℕ) → P y → bit y k ≡ h.is)
      go (inr only) a = inr only
      go (inl e) (inl f) = inl (e ∙ f)
      go (inl e) (inr all) = inr (λ y m. all y m ∙ sym e)
