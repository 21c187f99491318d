-- `rounding::round::overflow_word` meets its contract: in a supported format infinity's word is not 0. Assumes nothing.
use mathlib.Core.Path.{refl, ap}
use Prim.Native.Nat.{ℕ, ◌-◌}
use native.Mathlib.Omega.{arith}
use Rattle.rounding.specs.Rounding.{overflow_word}
use Rattle.word.proofs.Bounds.{infinity_pos}
use Rattle.rounding.proofs.round.overflow_word.Goals as goal

pub returns-then-infinity-eq0 : goal.returns-then-infinity-eq0
returns-then-infinity-eq0 c = (λ ok. absurd (omega (arith, c.infinity_word-infinity.ensures.0 ok, infinity_pos c.args.format ok, c.if-infinity-eq0.true)), λ _. refl)

pub returns-in-NearestEven : goal.returns-in-NearestEven
unfolding overflow_word
returns-in-NearestEven c = (
  λ ok. rw c.in-NearestEven.is (c.infinity_word-infinity.ensures.0 ok),
  λ no. absurd (c.if-infinity-eq0.false (c.infinity_word-infinity.ensures.1 no)),
)

pub returns-in-NearestAway : goal.returns-in-NearestAway
unfolding overflow_word
returns-in-NearestAway c = (
  λ ok. rw c.in-NearestAway.is (c.infinity_word-infinity.ensures.0 ok),
  λ no. absurd (c.if-infinity-eq0.false (c.infinity_word-infinity.ensures.1 no)),
)

pub returns-in-TowardZero : goal.returns-in-TowardZero
unfolding overflow_word
returns-in-TowardZero c = (
  λ ok. rw c.in-TowardZero.is (ap (λ (n : ℕ). n - 1) (c.infinity_word-infinity.ensures.0 ok)),
  λ no. absurd (c.if-infinity-eq0.false (c.infinity_word-infinity.ensures.1 no)),
)

pub returns-in-Away : goal.returns-in-Away
unfolding overflow_word
returns-in-Away c = (
  λ ok. rw c.in-Away.is (c.infinity_word-infinity.ensures.0 ok),
  λ no. absurd (c.if-infinity-eq0.false (c.infinity_word-infinity.ensures.1 no)),
)
