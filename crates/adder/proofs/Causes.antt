-- What it means that no cause stands against a result or a row, and what the replies are then. Assumes nothing.
use Rattle.std.specs.Prelude.{Ok}
use mathlib.Core.Path.{◌≡◌, ap}
use mathlib.Core.Logic.{◌↔◌}
use Prim.Native.Nat.{ℕ, ◌^◌, ◌≤◌, ◌<◌}
use Rattle.format.specs.declared.Format.{Format}
use Rattle.format.specs.Cause.{Check, clear, first}
use Rattle.format.specs.Limits.{most_operation, most_mode}
use Rattle.format.specs.Format.{Supported, word_bits}
use Rattle.format.proofs.Laws.{both_none, format_none, operation_none, mode_none, word_none}
use Rattle.adder.specs.Result.{result_of, result_cause, result_reply}
use Rattle.adder.specs.Row.{row_of, row_cause, row_reply}

-- a format, an operation and two words with no cause against them
pub record Fit (F : Format) (operation a b : ℕ) : Type 0 where
  pub supported : Supported F
  pub operation_fits : operation ≤ most_operation
  pub a_fits : a < 2 ^ word_bits F
  pub b_fits : b < 2 ^ word_bits F

pub row_none : (F : Format) (operation a b : ℕ) → row_cause F operation a b ≡ clear ↔ Fit F operation a b
unfolding row_cause
row_none F operation a b =
    let words = both_none _ _ (word_none (word_bits F) a) (word_none (word_bits F) b) in
    let law = both_none _ _ (both_none _ _ (format_none F) (operation_none operation)) words in (
      (λ e.
          let p = law.0 e in
          record { supported = p.0.0; operation_fits = p.0.1; a_fits = p.1.0; b_fits = p.1.1 }),
      λ h. law.1 ((h.supported, h.operation_fits), (h.a_fits, h.b_fits)),
    )

pub result_none : (F : Format) (operation mode a b : ℕ) → result_cause F operation mode a b ≡ clear ↔ (Fit F operation a b × (mode ≤ most_mode))
unfolding result_cause
result_none F operation mode a b =
    let words = both_none _ _ (word_none (word_bits F) a) (word_none (word_bits F) b) in
    let law = both_none _ _ (both_none _ _ (both_none _ _ (format_none F) (operation_none operation)) (mode_none mode)) words in (
      (λ e.
          let p = law.0 e in
          let q = p.0.0 in
          (record { supported = q.0; operation_fits = q.1; a_fits = p.1.0; b_fits = p.1.1 }, p.0.1)),
      λ h. law.1 (((h.0.supported, h.0.operation_fits), h.1), (h.0.a_fits, h.0.b_fits)),
    )

-- ---- the replies where nothing is wrong

pub result_word : (F : Format) (operation mode a b : ℕ) → Fit F operation a b → mode ≤ most_mode → result_reply F operation mode a b ≡ Ok (result_of F operation mode a b)
result_word F operation mode a b fit m = ap (λ (n : Check). first n (Ok (result_of F operation mode a b))) ((result_none F operation mode a b).1 (fit, m))

pub row_row : (F : Format) (operation a b : ℕ) → Fit F operation a b → row_reply F operation a b ≡ Ok (row_of F operation a b)
row_row F operation a b fit = ap (λ (n : Check). first n (Ok (row_of F operation a b))) ((row_none F operation a b).1 fit)
