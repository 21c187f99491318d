-- The bits of the closed classes go up with b's exponent field, so a run of ones among them is a run of closed classes. Assumes nothing.
use mathlib.Core.Logic.{◌⊎◌, inl, ⊎_elim}
use mathlib.Core.Path.{◌≡◌, refl, ap, ◌∙◌, subst}
use Prim.Native.Nat.{ℕ, zero, suc, ◌+◌, ◌-◌, ◌≤◌, ◌<◌}
use native.Mathlib.Decide.{dec_le}
use native.Mathlib.Omega.{arith}
use Rattle.bits.specs.Bit.{bit}
use Rattle.classes.specs.Class.{far_gap, lower_field}
use Rattle.answers.specs.Kept.{closed_bit}

-- below a's field E, which is above the far gap: those with a far gap share the bit 1, and after them each has the next bit
bit_below : (f E e : ℕ) → far_gap f ≤ E → 1 ≤ e → e ≤ E → (E ≤ e + far_gap f → closed_bit f 0 (lower_field f (E - 1 - (e - 1)) e).0 ≡ e + far_gap f + 1 - E) × (e + far_gap f ≤ E → closed_bit f 0 (lower_field f (E - 1 - (e - 1)) e).0 ≡ 1)
bit_below f E zero h some le = absurd (omega arith)
bit_below f E (suc e) h some le = (λ l. omega arith, λ l. omega arith)

-- above a's field e: each has its gap as its bit, and those with a far gap share that one
bit_over : (f E e : ℕ) → 1 ≤ e → e < E → (E ≤ e + far_gap f → closed_bit f 1 (lower_field f (E - 1 - (e - 1)) e).0 ≡ E - e) × (e + far_gap f ≤ E → closed_bit f 1 (lower_field f (E - 1 - (e - 1)) e).0 ≡ far_gap f)
bit_over f E zero some lt = absurd (omega arith)
bit_over f E (suc e) some lt = (λ l. omega arith, λ l. omega arith)

-- the field 0 is the smaller one of its class
pub low_zero : (f gap e : ℕ) → e ≡ 0 → (lower_field f gap e).0 ≡ 0
low_zero f gap zero z = refl
low_zero f gap (suc e) z = absurd (omega arith)

-- ---- a run of ones is a run of closed classes
module _ (f closed : ℕ) where
  -- from b's field e on, below a's field E; the last field with a far gap is E - farGap
  pub run_below : (E e d run : ℕ) → far_gap f ≤ E → 1 ≤ e → e ≤ d → d ≤ E → 0 < run → d < e + (E - far_gap f - e) + run
      → ((k : ℕ) → k < run → bit closed (e + (E - far_gap f - e) - (E - far_gap f) + 1 + k) ≡ 1) → bit closed (closed_bit f 0 (lower_field f (E - 1 - (d - 1)) d).0) ≡ 1
  run_below E e d run h some from to pos l ones = go (dec_le (d + far_gap f) E)
    where
      go : Dec (d + far_gap f ≤ E) → bit closed (closed_bit f 0 (lower_field f (E - 1 - (d - 1)) d).0) ≡ 1
      go (yes q) = ap (bit closed) ((bit_below f E d h (omega arith) to).1 q ∙ omega arith) ∙ ones 0 pos
      go (no q) =
          ap (bit closed) ((bit_below f E d h (omega arith) to).0 (omega arith) ∙ omega arith)
          ∙ ones (d - (e + (E - far_gap f - e))) (omega arith)

  -- from b's field n on, above a's field e
  pub run_over : (e n d gap run : ℕ) → 1 ≤ e → e < n → n ≤ d → gap ≡ far_gap f - (far_gap f - (n - e)) → (far_gap f < gap + run) ⊎ (d < n + run)
      → ((k : ℕ) → k < run → bit closed (gap + k) ≡ 1) → bit closed (closed_bit f 1 (lower_field f (d - 1 - (e - 1)) e).0) ≡ 1
  run_over e n d gap run some lt from is reach ones = go (dec_le d (e + far_gap f))
    where
      near : d ≤ e + far_gap f → d - e - gap < run
      near q = ⊎_elim (λ h. omega arith) (λ h. omega arith) reach

      past : e + far_gap f < d → far_gap f - gap < run
      past q = ⊎_elim (λ h. omega arith) (λ h. omega arith) reach

      go : Dec (d ≤ e + far_gap f) → bit closed (closed_bit f 1 (lower_field f (d - 1 - (e - 1)) e).0) ≡ 1
      go (yes q) = ap (bit closed) ((bit_over f d e some (omega arith)).0 q ∙ omega arith) ∙ ones (d - e - gap) (near q)
      go (no q) = ap (bit closed) ((bit_over f d e some (omega arith)).1 (omega arith) ∙ omega arith) ∙ ones (far_gap f - gap) (past (omega arith))

  -- all of b's fields up to a's, and all above it
  pub all_below : (E e run : ℕ) → far_gap f < E → e ≤ E → bit closed 0 ≡ 1 → far_gap f < run → ((k : ℕ) → k < run → bit closed (1 + k) ≡ 1) → bit closed (closed_bit f 0 (lower_field f (E - 1 - (e - 1)) e).0) ≡ 1
  all_below E zero run large le first long ones = first
  all_below E (suc e) run large le first long ones =
      run_below E 1 (suc e) run (omega arith) (omega arith) (omega arith) le (omega arith) (omega arith)
      (λ k l. subst (λ (i : ℕ). bit closed (i + k) ≡ 1) (omega arith) (ones k l))

  pub all_over : (e E run : ℕ) → 1 ≤ e → e < E → far_gap f ≤ run → ((k : ℕ) → k < run → bit closed (1 + k) ≡ 1) → bit closed (closed_bit f 1 (lower_field f (E - 1 - (e - 1)) e).0) ≡ 1
  all_over e E run some lt long ones = run_over e (e + 1) E 1 run some (omega arith) (omega arith) (omega arith) (inl (omega arith)) ones
