-- The last kept bit as a mask of one bit, joined to another mask: a number meets the joined mask exactly when it meets the other and has
-- that bit, and where the two clash no number does both. Assumes nothing.
use Rattle.format.specs.declared.cause.Cause.{Cause}
use Rattle.std.specs.Prelude.{Ok, Err}
use mathlib.Core.Logic.{◌↔◌}
use mathlib.Core.Path.{◌≡◌, ap, ap₂, subst}
use Prim.Native.Nat.{ℕ, ◌*◌, ◌%◌, ◌^◌, ◌<◌}
use native.Mathlib.Nat.{zero-div}
use lib.Bits.{and_zero_r, or_zero_l}
use Rattle.bits.specs.Bit.{bit}
use Rattle.mask.specs.declared.Mask.{Mask}
use Rattle.mask.specs.Mask.{Meets, fixed, free_mask}
use Rattle.mask.specs.Join.{join}
use Rattle.mask.proofs.Fixing.{fixed_meets}
use Rattle.mask.proofs.Replies.{join_meets, join_refused}
use Rattle.making.specs.Question.{one_bit}

module _ (j b : ℕ) (h : b < 2) where
  none : bit 0 j ≡ 0
  none = ap (λ (n : ℕ). n % 2) (zero-div (2 ^ j))

  same : fixed free_mask j b ≡ one_bit j b
  same = ap₂ (λ (s t : ℕ). record { care = s; value = t }) (or_zero_l (2 ^ j)) (or_zero_l (b * 2 ^ j))

  pub one_meets : (n : ℕ) → Meets n (one_bit j b) ↔ (bit n j ≡ b)
  one_meets n =
      let f = subst (λ (m : Mask). Meets n m ↔ (Meets n free_mask × (bit n j ≡ b))) same (fixed_meets free_mask j b (and_zero_r 0) none h n) in
      ((λ met. (f.0 met).1), λ e. f.1 (and_zero_r n, e))

  -- the reply of joining
  pub last_joined : (x m : Mask) → join x (one_bit j b) ≡ Ok m → (n : ℕ) → Meets n m ↔ (Meets n x × (bit n j ≡ b))
  last_joined x m e n =
      let p = join_meets x (one_bit j b) m n e in (
        (λ met. let q = p.0 met in (q.0, (one_meets n).0 q.1)),
        λ q. p.1 (q.0, (one_meets n).1 q.1),
      )

  pub last_refused : (x : Mask) (k : Cause) → join x (one_bit j b) ≡ Err k → (n : ℕ) → Meets n x → bit n j ≡ b → ⊥
  last_refused x k e n met last = join_refused x (one_bit j b) n k e met ((one_meets n).1 last)
