-- A magnitude and the number that holds it have one rounded word: what is held needs no more bits than that. Assumes nothing.
use mathlib.Core.Path.{◌≡◌, refl, sym, ap, ap₂, ◌∙◌}
use mathlib.Core.Bool.{Bool, true, false, cond}
use mathlib.Core.Logic.{◌⊎◌}
use Prim.Native.Nat.{ℕ, zero, suc, ◌+◌, ◌*◌, ◌^◌, ◌<◌}
use native.Mathlib.Nat.{suc-ne-zero}
use native.Mathlib.Omega.{arith}
use lib.Dec.{ltb}
use lib.Ieee.{size}
use Rattle.format.specs.declared.Format.{Format}
use Rattle.format.specs.Format.{Supported}
use Rattle.word.specs.declared.Unit as exponent
use Rattle.word.specs.Word.{signed, infinity_word}
use Rattle.rounding.specs.declared.Direction.{Direction}
use Rattle.rounding.specs.Rounding.{direction, dropped, round_off, magnitude_word, overflow_word, bounded_word, rounded}
use Rattle.rounding.specs.Sticky.{Held, kept_part}
use Rattle.rounding.specs.Width.{sum_bits}
use Rattle.rounding.specs.Outcome.{rounded_unit, held_word, bounded_held, outcome}
use Rattle.rounding.proofs.Held.{Guards, held_size, held_part, held_zero, held_pos}
use Rattle.rounding.proofs.Rounded.{rounded_zero}

-- a magnitude and the number that holds it round to the same word
bounded_held_lem : (F : Format) (q G : ℕ) → Guards q G → (d : Direction) (X x : ℕ) (u : exponent.Unit) → 0 < X → Held F q G X x u.0 → x < 2 ^ sum_bits q F.f
    → bounded_word F d X ≡ bounded_held q F d x u
unfolding bounded_word bounded_held magnitude_word
bounded_held_lem F q G guards d X x u pos held below = ap (λ (n : ℕ). cond (ltb n (infinity_word F)) n (overflow_word F d)) word
  where
    drop : dropped F X ≡ (rounded_unit q F.f (size x) u).0
    drop = omega (arith, held_size F q G X x u.0 guards pos held)

    word : dropped F X * 2 ^ F.f + round_off d X (dropped F X) ≡ held_word q F d x u
    word = ap₂ ◌+◌ (ap (λ (n : ℕ). n * 2 ^ F.f) drop) (sym (held_part F q G X x u.0 guards pos held d below) ∙ ap (kept_part q d x u.0) drop)

-- and to the outcome that x holds
pub outcome_held : (F : Format) → Supported F → (q G : ℕ) → Guards q G → (mode s X x : ℕ) (u : exponent.Unit) (like : Bool) → Held F q G X x u.0
    → x < 2 ^ sum_bits q F.f → (like ≡ true) ⊎ (x ≡ 0 → ⊥) → rounded F mode s X ≡ outcome q F mode like s u x
unfolding outcome
outcome_held F ok q G guards mode s X zero u true held below t =
    ap (rounded F mode s) (held_zero F q G X u.0 held) ∙ rounded_zero F ok mode s
outcome_held F ok q G guards mode s X zero u false held below t = absurd (mathlib.Core.Logic.⊎_elim (λ e. mathlib.Core.Bool.false≢true e) (λ ne. ne refl) t)
outcome_held F ok q G guards mode s X (suc x) u like held below t =
    ap (signed F s) (bounded_held_lem F q G guards (direction mode s) X (suc x) u (held_pos F q G X (suc x) u.0 held (suc-ne-zero x)) held below)
