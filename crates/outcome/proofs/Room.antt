-- What a supported format leaves room for: no exponent is near the end of a word. Assumes nothing.
use mathlib.Core.Path.{◌≡◌, ap, ◌∙◌}
use Prim.Native.Nat.{ℕ, ◌+◌, ◌%◌, ◌^◌, ◌≤◌, ◌<◌}
use native.Mathlib.Nat.{mod-eq_of_lt}
use native.Mathlib.Omega.{arith}
use lib.Pow.{pow_mono}
use Rattle.format.specs.declared.Format.{Format}
use Rattle.format.specs.Format.{Supported}
use Rattle.format.proofs.Room.{exponent_room}
use Rattle.word.specs.declared.Biased.{Biased}
use Rattle.word.specs.declared.Unit as exponent
use Rattle.word.specs.Word.{field_of}
use Rattle.rounding.specs.Outcome.{rounded_unit}
use Rattle.outcome.specs.Outcome.{InFormat}

pub exponents_lt : (F : Format) → Supported F → 2 ^ F.w ≤ 2 ^ 16
exponents_lt F ok = pow_mono (exponent_room F ok)

module _ (F : Format) (s : ℕ) (u : exponent.Unit) (given : InFormat F s u) where
  pub unit_short : u.0 < 2 ^ 63
  unit_short = omega (arith, given.unit_lt, exponents_lt F given.supported)

  -- the exponent field that the code forms: its sum does not pass the word
  pub field_formed : (q count h : ℕ) → count < 64 → h < 4 → (k : exponent.Unit) (e : Biased) → k ≡ rounded_unit q F.f count u → e.0 ≡ (field_of k h).0 % 2 ^ 64
      → e ≡ field_of (rounded_unit q F.f count u) h
  field_formed q count h most hh k e ek ee =
      ap of (ee ∙ ap (λ (n : exponent.Unit). (n.0 + h) % 2 ^ 64) ek ∙ mod-eq_of_lt (omega (arith, unit_short)))
    where
      of : ℕ → Biased
      of n = record { 0 = n }
