-- A significand R aligned to L's with q bits below that one's last bit, for any q: above these bits stands R's whole part in L's unit, and
-- they are sticky for what R has below it. Assumes nothing.
use mathlib.Core.Path.{◌≡◌, ap, ap₂, ◌∙◌}
use mathlib.Core.Bool.{Bool, cond}
use Prim.Native.Nat.{ℕ, ◌+◌, ◌-◌, ◌*◌, ◌/◌, ◌%◌, ◌^◌, ◌<◌}
use native.Mathlib.Nat.{mod-lt, div-add-mod', div-lt_iff_lt-mul, zero-mul, mul_comm, mul-one, mul-lt-mul_of_pos_right}
use native.Mathlib.Omega.{arith}
use lib.Arith.{digits_div, digits_mod}
use lib.Dec.{eqb}
use lib.Pow.{pow_pos}
use Rattle.rounding.specs.Dropped.{sticky, with_sticky}
use Rattle.rounding.specs.Sticky.{guarded_at, tail_at}
use Rattle.rounding.proofs.Sticky.{sticky_scale, with_sticky_add, with_sticky_bounds}
use Rattle.rounding.proofs.Align.{with_sticky_equal, head_double}

module _ (q : ℕ) (some : 0 < q) (R d : ℕ) where
  -- what is left of R below L's unit, aligned
  whole : tail_at q R d ≡ R / 2 ^ d * 2 ^ q + tail_at q (R % 2 ^ d) d
  whole =
      let w = ap (guarded_at q) (div-add-mod' R (2 ^ d)) in
      let e : guarded_at q R ≡ guarded_at q (R / 2 ^ d) * 2 ^ d + guarded_at q (R % 2 ^ d) = omega arith in
      ap (λ (n : ℕ). with_sticky n d) e ∙ with_sticky_add (guarded_at q (R / 2 ^ d)) (guarded_at q (R % 2 ^ d)) d
      ∙ omega (arith, head_double q some (R / 2 ^ d))

  rest_lt : tail_at q (R % 2 ^ d) d < 2 ^ q
  rest_lt =
      let b = with_sticky_bounds (guarded_at q (R % 2 ^ d)) d in
      let m = mul-lt-mul_of_pos_right (mod-lt R (pow_pos d)) (pow_pos (q - 1)) in
      let l = (div-lt_iff_lt-mul {k = 2 ^ d} {x = guarded_at q (R % 2 ^ d)} {y = 2 ^ (q - 1)} (pow_pos d)).1 (omega arith) in
      omega (arith, head_double q some 1, mul-one (2 ^ q), mul-one (2 ^ (q - 1)))

  pub tail_whole : tail_at q R d / 2 ^ q ≡ R / 2 ^ d
  tail_whole = ap (λ (n : ℕ). n / 2 ^ q) whole ∙ digits_div (R / 2 ^ d) rest_lt

  tail_rest : tail_at q R d % 2 ^ q ≡ tail_at q (R % 2 ^ d) d
  tail_rest = ap (λ (n : ℕ). n % 2 ^ q) whole ∙ digits_mod (R / 2 ^ d) rest_lt

  pub tail_sticky : sticky (tail_at q R d % 2 ^ q) ≡ sticky (R % 2 ^ d)
  tail_sticky =
      ap sticky tail_rest
      ∙ ap (λ (t : Bool). cond t 0 1)
      (with_sticky_equal 0 (guarded_at q (R % 2 ^ d)) d ∙ ap₂ eqb (mul_comm (2 ^ (q - 1)) (R % 2 ^ d)) (zero-mul (2 ^ d)))
      ∙ sticky_scale (R % 2 ^ d) (2 ^ (q - 1)) (pow_pos (q - 1))
