-- The next number that meets a mask: the first from a number on. No definition of the promise cites this file. Assumes nothing.
use Rattle.std.specs.Prelude.{◌≡◌, ℕ, ◌+◌, ◌/◌, ◌^◌, ◌≤◌, ◌<◌}
use Rattle.mask.specs.declared.Mask.{Mask}
use Rattle.mask.specs.Mask.{Meets, high}

-- r is the first number from n on that meets m, of those of so many bits; past them where there is none
pub record MetFrom (width : ℕ) (m : Mask) (n r : ℕ) : Type 0 where
  pub from : n ≤ r
  pub meets : r < 2 ^ width → Meets r m
  pub none : (d : ℕ) → n ≤ d → d < r → d < 2 ^ width → Meets d m → ⊥

-- n goes on at position g: one more than n has from g on meets m there, and no number from n on with n's bits from g on meets m
pub record StepAt (m : Mask) (n g : ℕ) : Type 0 where
  pub meets : Meets (n / 2 ^ g + 1) (high g m)
  pub none : (d : ℕ) → n ≤ d → d / 2 ^ g ≡ n / 2 ^ g → Meets d m → ⊥
