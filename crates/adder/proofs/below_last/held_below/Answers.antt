-- `adder::below_last::held_below` meets its contract: what holds a magnitude has its dropped bits and as many digits more. Assumes nothing.
use Rattle.std.specs.Prelude.{Some, None}
use mathlib.Core.Path.{◌≡◌, sym, ap, ◌∙◌, subst}
use Prim.Native.Nat.{ℕ, ◌+◌, ◌^◌, ◌≤◌, ◌<◌}
use native.Mathlib.Nat.{lt_of_lt_of_le}
use native.Mathlib.Decide.{dec_lt}
use native.Mathlib.Omega.{arith}
use lib.Count.{count_leading_zeros, leading_le, leading_top}
use lib.Ieee.{size}
use lib.Pow.{pow_pos, pow_mono}
use Rattle.format.specs.declared.Format.{Format}
use Rattle.format.specs.Limits.{most_dropped}
use Rattle.format.specs.Format.{Supported}
use Rattle.rounding.specs.Dropped.{dropped_word}
use Rattle.rounding.specs.Sticky.{Held}
use Rattle.rounding.proofs.Size.{size_between}
use Rattle.rounding.proofs.Held.{Guards, held_zero, held_pos}
use Rattle.rounding.proofs.Dropped.{dropped_held, normal_held}
use Rattle.adder.specs.Below.{magnitude_below}
use Rattle.adder.proofs.BelowLaws.{normal_below, small_below}
use Rattle.adder.proofs.below_last.held_below.Goals as goal

guards : Guards (most_dropped + 2) most_dropped
guards = record { least = omega arith; few = omega arith; most = omega arith }

-- a unit's exponent has few bits, so a sum with it fits
unit_fits : (F : Format) (u : ℕ) → Supported F → u < 2 ^ F.w → u < 2 ^ 11
unit_fits F u ok lt = lt_of_lt_of_le lt (pow_mono {i = F.w} {j = 11} ok.w_most)

-- the digits of a word and the zeros above them
zeros : (x : ℕ) → (x ≡ 0 → ⊥) → x < 2 ^ 64 → count_leading_zeros 64 x + size x ≡ 64
zeros x ne fits = let t = leading_top 64 x (omega (arith, ne)) fits in omega (arith, size_between x t.0 t.2 t.3, t.1)

module _ (F : Format) (g x u X : ℕ) (few : g ≤ most_dropped) (held : Held F (most_dropped + 2) most_dropped X x u) where
  nothing : x ≡ 0 → None ≡ magnitude_below F g X
  nothing z =
      let e = held_zero F (most_dropped + 2) most_dropped X u (subst (λ (n : ℕ). Held F (most_dropped + 2) most_dropped X n u) z held) in
      sym (small_below F g X (omega (arith, e, pow_pos F.f)))

  module _ (ne : x ≡ 0 → ⊥) (fits : x < 2 ^ 64) where
    pos : 0 < X
    pos = held_pos F (most_dropped + 2) most_dropped X x u held ne

    small : 64 + u < F.f + 1 + (most_dropped + 2) + count_leading_zeros 64 x → None ≡ magnitude_below F g X
    small lt = sym (small_below F g X (go (dec_lt X (2 ^ F.f))))
      where
        go : Dec (X < 2 ^ F.f) → X < 2 ^ F.f
        go (yes h) = h
        go (no h) = absurd (omega (arith, ((normal_held F (most_dropped + 2) most_dropped X x u guards pos held).0 (omega arith)).reaches, zeros x ne fits))

    normal : F.f + 1 + (most_dropped + 2) + count_leading_zeros 64 x ≤ 64 + u → Some (dropped_word F g x) ≡ magnitude_below F g X
    normal le =
        ap Some (dropped_held F (most_dropped + 2) most_dropped X x u guards pos held g few)
        ∙ sym (normal_below F g X ((normal_held F (most_dropped + 2) most_dropped X x u guards pos held).1
        (record { some = omega (arith, ne); reaches = omega (arith, zeros x ne fits) })))

pub returns-then-x-eq0 : goal.returns-then-x-eq0
returns-then-x-eq0 c X held = nothing c.args.format c.args.g c.args.x c.args.u.0 X c.requires.1 held c.if-x-eq0.true

pub overflow_cast-zeros : goal.overflow_cast-zeros
overflow_cast-zeros c = record { fits = omega (arith, leading_le 64 c.args.x) }

pub overflow_add-u : goal.overflow_add-u
overflow_add-u c =
    record { fits = omega (arith, unit_fits c.args.format c.args.u.0 c.requires.0 c.requires.2) }

pub overflow_add-format-3 : goal.overflow_add-format-3
overflow_add-format-3 c =
    record { fits = omega (arith, c.requires.0.f_most, leading_le 64 c.args.x) }

pub returns-then-u-format : goal.returns-then-u-format
returns-then-u-format c X held =
    small c.args.format c.args.g c.args.x c.args.u.0 X c.requires.1 held c.if-x-eq0.false c.ranges.x.fits (omega (arith, c.if-u-format.true))

pub returns : goal.returns
returns c X held =
    ap Some c.dropped_word.ensures
    ∙ normal c.args.format c.args.g c.args.x c.args.u.0 X c.requires.1 held c.if-x-eq0.false c.ranges.x.fits (omega (arith, c.if-u-format.false))
