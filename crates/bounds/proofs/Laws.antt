-- The tests and the statements about bounds say the same. Assumes nothing.
use Rattle.bounds.specs.declared.Ends.{Ends}
use Rattle.std.specs.Prelude.{Option, Some, None}
use mathlib.Core.Path.{◌≡◌, refl, sym}
use mathlib.Core.Bool.{Bool, true, false, not, ◌&&◌, and-eq-true_iff}
use mathlib.Core.Logic.{◌↔◌}
use Prim.Native.Nat.{ℕ}
use borrow.Author.Tests.{leb-true, le-leb}
use lib.Dec.{leb}
use Rattle.format.specs.declared.Format.{Format}
use Rattle.format.specs.declared.cause.Cause.TheVariants as cause
use Rattle.format.specs.Cause.{clear}
use Rattle.format.specs.Format.{word_bits, word_cause}
use Rattle.format.proofs.Laws.{first_none, unless_none, word_none}
use Rattle.bounds.specs.Bounds.{is_nan, rank, Within, within, ordered_ends, ends_cause, bounds_cause, ValidBounds}

-- a test that fails is false
not-false : (t : Bool) → (not t ≡ true) ↔ (t ≡ false)
not-false true = (λ e. sym e, λ e. sym e)
not-false false = (λ e. refl, λ e. refl)

pub within_true : (F : Format) (x : ℕ) (B : Option Ends) → (within F x B ≡ true) ↔ Within F x B
within_true F x None = (λ e. tt, λ h. refl)
within_true F x (Some e) =
    let n = is_nan F x in
    let l = leb (rank F e.low) (rank F x) in
    let h = leb (rank F x) (rank F e.high) in (
      (λ t.
          let p = (and-eq-true_iff (not n) (l && h)).0 t in
          let q = (and-eq-true_iff l h).0 p.1 in
          record { number = (not-false n).0 p.0; above = leb-true (rank F e.low) (rank F x) q.0; below = leb-true (rank F x) (rank F e.high) q.1 }),
      λ w.
          (and-eq-true_iff (not n) (l && h)).1
          ((not-false n).1 w.number, (and-eq-true_iff l h).1 (le-leb (rank F e.low) (rank F x) w.above, le-leb (rank F x) (rank F e.high) w.below)),
    )

-- neither 6 nor 18 stands against bounds exactly where they are valid
pub bounds_none : (F : Format) (B : Option Ends) → ((ends_cause F B ≡ clear) × (bounds_cause F B ≡ clear)) ↔ ValidBounds F B
unfolding ends_cause bounds_cause
bounds_none F None = (λ h. tt, λ v. (refl, refl))
bounds_none F (Some e) =
    let n = is_nan F e.low in
    let m = is_nan F e.high in
    let o = leb (rank F e.low) (rank F e.high) in
    let wide = first_none (word_cause (word_bits F) e.low) (word_cause (word_bits F) e.high) in
    let valid = unless_none (ordered_ends F e) cause.Bounds in (
      (λ h.
          let w = wide.0 h.0 in
          let p = (and-eq-true_iff (not n) (not m && o)).0 (valid.0 h.1) in
          let q = (and-eq-true_iff (not m) o).0 p.1 in
          record {
            low_word = (word_none (word_bits F) e.low).0 w.0;
            high_word = (word_none (word_bits F) e.high).0 w.1;
            low_number = (not-false n).0 p.0;
            high_number = (not-false m).0 q.0;
            ordered = leb-true (rank F e.low) (rank F e.high) q.1;
          }),
      λ v. (
        wide.1 ((word_none (word_bits F) e.low).1 v.low_word, (word_none (word_bits F) e.high).1 v.high_word),
        valid.1
            ((and-eq-true_iff (not n) (not m && o)).1
            ((not-false n).1 v.low_number, (and-eq-true_iff (not m) o).1 ((not-false m).1 v.high_number, le-leb (rank F e.low) (rank F e.high) v.ordered))),
      ),
    )
