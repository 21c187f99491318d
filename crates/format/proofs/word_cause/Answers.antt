-- `format::word_cause` meets its contract: x is below 2^width exactly when its quotient by it is 0. Assumes nothing.
use mathlib.Core.Path.{◌≡◌, sym, ap, ◌∙◌}
use mathlib.Core.Bool.{Bool}
use Prim.Native.Nat.{ℕ, ◌/◌, ◌^◌, ◌<◌}
use native.Mathlib.Nat.{lt_of_lt_of_le, div-lt_iff_lt-mul, div-eq_of_lt, one-mul}
use native.Mathlib.Decide.{dec_lt}
use native.Mathlib.Omega.{arith}
use borrow.Author.Tests.{lt-ltb, le-ltb, eq-eqb, ne_eqb}
use lib.Dec.{eqb, ltb}
use lib.Pow.{pow_pos, pow_mono}
use Rattle.format.specs.declared.cause.Cause.TheVariants as cause
use Rattle.format.specs.Cause.{unless}
use Rattle.format.specs.Format.{word_cause}
use Rattle.format.proofs.word_cause.Goals as goal

-- x is below 2^k exactly when its quotient by it is 0
quotient : (x k : ℕ) → eqb (x / 2 ^ k) 0 ≡ ltb x (2 ^ k)
quotient x k = go (dec_lt x (2 ^ k))
  where
    go : Dec (x < 2 ^ k) → eqb (x / 2 ^ k) 0 ≡ ltb x (2 ^ k)
    go (yes h) = eq-eqb (x / 2 ^ k) 0 (div-eq_of_lt h) ∙ sym (lt-ltb x (2 ^ k) h)
    go (no h) =
        ne_eqb (x / 2 ^ k) 0 (λ e. h (rw one-mul at ((div-lt_iff_lt-mul {x = x} {y = 1} (pow_pos k)).0 (omega arith))))
        ∙ sym (le-ltb x (2 ^ k) (omega arith))

pub returns-then-width-ge64 : goal.returns-then-width-ge64
unfolding word_cause
returns-then-width-ge64 c =
    let a = c.args in
    rw (lt-ltb a.x (2 ^ a.width) (lt_of_lt_of_le c.ranges.x.fits (pow_mono {i = 64} {j = a.width} c.if-width-ge64.true)))

pub returns : goal.returns
unfolding word_cause
returns c =
    let a = c.args in
    c.unless.ensures ∙ ap (λ (t : Bool). unless t cause.Word) (quotient a.x a.width)
