-- Bounded existence as a test: `some n f` holds exactly where f holds at a number below n. Assumes nothing.
use mathlib.Core.Path.{◌≡◌, refl, ap₂, subst}
use mathlib.Core.Bool.{Bool, true, false, ◌||◌, false≢true}
use mathlib.Core.Logic.{◌⊎◌, inl, inr, ⊎_elim}
use Prim.Native.Nat.{ℕ, zero, suc, ◌<◌}
use native.Mathlib.Nat.{eq-or-lt_of_le, le_of_suc-le-suc, not-suc-le-zero, le_refl, le_trans, le-suc}
use Rattle.columns.specs.Machine.{some}

pub or_cases : (a b : Bool) → (a || b) ≡ true → (a ≡ true) ⊎ (b ≡ true)
or_cases true b e = inl refl
or_cases false b e = inr e

pub or_left : (a b : Bool) → a ≡ true → (a || b) ≡ true
or_left true b e = refl
or_left false b e = absurd (false≢true e)

pub or_right : (a b : Bool) → b ≡ true → (a || b) ≡ true
or_right true b e = refl
or_right false b e = e

pub some_sound : (n : ℕ) (f : ℕ → Bool) → some n f ≡ true → (k : ℕ) × (k < n) × (f k ≡ true)
some_sound zero f e = absurd (false≢true e)
some_sound (suc n) f e =
    ⊎_elim (λ h. let w = some_sound n f h in (w.0, le_trans w.1 (le-suc n), w.2)) (λ h. (n, le_refl (suc n), h))
    (or_cases (some n f) (f n) e)

pub some_complete : (n : ℕ) (f : ℕ → Bool) (k : ℕ) → k < n → f k ≡ true → some n f ≡ true
some_complete zero f k h e = absurd (not-suc-le-zero h)
some_complete (suc n) f k h e =
    ⊎_elim (λ q. or_right (some n f) (f n) (subst (λ (j : ℕ). f j ≡ true) q e))
    (λ l. or_left (some n f) (f n) (some_complete n f k l e))
    (eq-or-lt_of_le (le_of_suc-le-suc h))

-- tests that agree below n
pub some_cong : (n : ℕ) (f g : ℕ → Bool) → ((k : ℕ) → k < n → f k ≡ g k) → some n f ≡ some n g
some_cong zero f g same = refl
some_cong (suc n) f g same =
    ap₂ (λ (a b : Bool). a || b) (some_cong n f g (λ k h. same k (le_trans h (le-suc n)))) (same n (le_refl (suc n)))
