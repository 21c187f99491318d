-- `adder::below_last::dropped_word` meets its contract: moving x up to the top of a word keeps its dropped bits. Assumes nothing.
use mathlib.Core.Path.{◌≡◌, sym, ap, ap₂, ◌∙◌}
use Prim.Native.Nat.{ℕ, suc, ◌+◌, ◌-◌, ◌*◌, ◌/◌, ◌%◌, ◌^◌, ◌≤◌, ◌<◌}
use native.Mathlib.Nat.{mod-lt, mul_comm, mul-le-mul_left, div-lt_iff_lt-mul}
use native.Mathlib.Omega.{arith}
use lib.Count.{count_leading_zeros, leading_le, leading_top}
use lib.Ieee.{size}
use lib.Pow.{pow_pos, pow_mono, shl_exact}
use Rattle.format.specs.declared.Format.{Format}
use Rattle.format.specs.Limits.{most_dropped}
use Rattle.format.specs.Format.{Supported}
use Rattle.rounding.specs.Rounding.{dropped}
use Rattle.rounding.specs.Dropped.{sticky, with_sticky, dropped_word}
use Rattle.rounding.proofs.Size.{size_between, size_scale}
use Rattle.rounding.proofs.Sticky.{sticky_lt, with_sticky_scale}
use Rattle.rounding.proofs.Dropped.{dropped_scale}
use Rattle.adder.proofs.below_last.dropped_word.Goals as goal

-- x with its leading zeros moved below it
module _ (x : ℕ) (pos : 0 < x) (fits : x < 2 ^ 64) where
  abbrev top : ℕ
  top = x * 2 ^ count_leading_zeros 64 x

  top_exact : top % 2 ^ 64 ≡ top
  top_exact = let t = leading_top 64 x pos fits in shl_exact (suc t.0) (count_leading_zeros 64 x) 64 t.3 (omega (arith, t.1))

  top_size : size top ≡ 64
  top_size =
      let t = leading_top 64 x pos fits in
      size_scale x (count_leading_zeros 64 x) pos ∙ omega (arith, size_between x t.0 t.2 t.3, t.1)

  module _ (F : Format) (g : ℕ) (ok : Supported F) (few : g ≤ most_dropped) where
    top_dropped : with_sticky top (63 - F.f - g) % 2 ^ (g + 1) ≡ dropped_word F g x
    unfolding dropped_word
    top_dropped =
        let split : dropped F top ≡ 63 - F.f - g + g = omega (arith, top_size, ok.f_most) in
        ap (λ (n : ℕ). n % 2 ^ (g + 1)) (sym (ap₂ with_sticky (mul_comm (2 ^ g) top) split ∙ with_sticky_scale top (63 - F.f - g) g))
        ∙ dropped_scale F g x (count_leading_zeros 64 x) pos

-- what is left of a word without two bits or more has room for another below it
room : (y k : ℕ) → y < 2 ^ 64 → 2 ≤ k → y / 2 ^ k * 2 + 2 ≤ 2 ^ 64
room y k lt le =
    let m : 2 ^ 62 * 2 ^ 2 ≤ 2 ^ 62 * 2 ^ k = mul-le-mul_left (2 ^ 62) (pow_mono {i = 2} {j = k} le) in
    let h = (div-lt_iff_lt-mul {k = 2 ^ k} {x = y} {y = 2 ^ 62} (pow_pos k)).1 (omega arith) in
    omega arith

pub overflow_cast-top : goal.overflow_cast-top
overflow_cast-top c = record { fits = omega (arith, leading_le 64 c.args.x) }

pub overflow_shl-top : goal.overflow_shl-top
overflow_shl-top c = omega (arith, (leading_top 64 c.args.x c.requires.2 c.ranges.x.fits).1)

pub overflow_mul-high : goal.overflow_mul-high
overflow_mul-high c =
    let k = 63 - c.args.format.f - c.args.g in
    record { fits = omega (arith, c.high.ensures, room (top c.args.x c.requires.2 c.ranges.x.fits % 2 ^ 64) k (mod-lt _ (pow_pos 64)) (omega (arith, c.requires.0.f_most, c.requires.1))) }

pub overflow_add-high : goal.overflow_add-high
overflow_add-high c =
    let k = 63 - c.args.format.f - c.args.g in
    record {
      fits = omega (
        arith,
        c.high.ensures,
        c.sticky.ensures,
        sticky_lt c.low.result,
        room (top c.args.x c.requires.2 c.ranges.x.fits % 2 ^ 64) k (mod-lt _ (pow_pos 64)) (omega (arith, c.requires.0.f_most, c.requires.1)),
      );
    }

pub returns : goal.returns
unfolding with_sticky
returns c =
    let a = c.args in
    let k = 63 - a.format.f - a.g in
    let exact = top_exact a.x c.requires.2 c.ranges.x.fits in
    c.low-2.ensures
    ∙ ap (λ (n : ℕ). n % 2 ^ (a.g + 1))
    (ap₂ (λ (n b : ℕ). n * 2 + b) (c.high.ensures ∙ ap (λ (n : ℕ). n / 2 ^ k) exact)
    (c.sticky.ensures ∙ ap sticky (c.low.ensures ∙ ap (λ (n : ℕ). n % 2 ^ k) exact)))
    ∙ top_dropped a.x c.requires.2 c.ranges.x.fits a.format a.g c.requires.0 c.requires.1
