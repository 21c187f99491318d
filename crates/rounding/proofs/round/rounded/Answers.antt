-- `rounding::round::rounded` meets its contract. Assumes nothing.
use mathlib.Core.Path.{◌≡◌, refl, sym, ap, ◌∙◌, subst}
use mathlib.Core.Bool.{false≢true}
use Prim.Native.Nat.{ℕ, ◌+◌, ◌≤◌, ◌<◌}
use native.Mathlib.Nat.{lt_trans, lt_of_le_of_lt}
use borrow.Author.Tests.{not-true, not-false}
use lib.Pow.{pow_pos}
use Rattle.word.specs.Word.{infinity_word, signed}
use Rattle.rounding.specs.declared.Direction.{Direction}
use Rattle.rounding.specs.Rounding.{magnitude_word, bounded_word}
use Rattle.rounding.specs.Rounding as rounding
use Rattle.rounding.specs.Sticky.{Held}
use Rattle.rounding.specs.Width.{guard_bits}
use Rattle.word.proofs.Bounds.{infinity_lt}
use Rattle.rounding.proofs.Held.{held_zero, held_pos}
use Rattle.rounding.proofs.Rounded.{overflow_le, bounded_within, bounded_past, rounded_zero}
use Rattle.rounding.proofs.round.rounded.Goals as goal

pub returns-then-not-roundable : goal.returns-then-not-roundable
returns-then-not-roundable c =
    let no = not-true c.roundable.result c.if-not-roundable.true-raw in
    (λ R. absurd (false≢true (sym no ∙ c.roundable.ensures.1 R)), λ _. refl)

pub returns-then-x-eq0 : goal.returns-then-x-eq0
returns-then-x-eq0 c =
    let F = c.args.format in
    let u = c.args.u.0 in
    let yes = not-false c.roundable.result c.if-not-roundable.false-raw in (
      λ R X held.
          let z : X ≡ 0 = held_zero F guard_bits 1 X u (subst (λ (n : ℕ). Held F guard_bits 1 X n u) c.if-x-eq0.true held) in
          c.signed.ensures.0 (record { supported = R.supported; sign_lt = R.sign_lt; magnitude_lt = pow_pos (F.w + F.f) })
          ∙ sym (ap (rounding.rounded F c.args.mode c.args.sign) z ∙ rounded_zero F R.supported c.args.mode c.args.sign),
      λ no. absurd (no (c.roundable.ensures.0 yes)),
    )

pub magnitude_word-magnitude-requires : goal.magnitude_word-magnitude-requires
magnitude_word-magnitude-requires c =
    let R = c.roundable.ensures.0 (not-false c.roundable.result c.if-not-roundable.false-raw) in
    (R.supported, R.unit_lt, R.held_lt)

pub returns-then-magnitude-infinity_word : goal.returns-then-magnitude-infinity_word
returns-then-magnitude-infinity_word c =
    let F = c.args.format in
    let d = c.direction-direction in
    let inf = c.infinity_word in
    let yes = not-false c.roundable.result c.if-not-roundable.false-raw in (
      λ R X held.
          let m = c.magnitude_word-magnitude.ensures X (held_pos F guard_bits 1 X c.args.x c.args.u.0 held c.if-x-eq0.false) held in
          let w : magnitude_word F d.result X < infinity_word F = rw (← m, ← inf.ensures.0 R.supported) c.if-magnitude-infinity_word.true in
          let below = lt_trans (rw (inf.ensures.0 R.supported) at c.if-magnitude-infinity_word.true) (infinity_lt F R.supported) in
          c.signed-then-magnitude-infinity_word.ensures.0 (record { supported = R.supported; sign_lt = R.sign_lt; magnitude_lt = below })
          ∙ ap (signed F c.args.sign) (m ∙ sym (bounded_within F d.result X w) ∙ ap (λ (e : Direction). bounded_word F e X) d.ensures),
      λ no. absurd (no (c.roundable.ensures.0 yes)),
    )

pub returns-else-magnitude-infinity_word : goal.returns-else-magnitude-infinity_word
returns-else-magnitude-infinity_word c =
    let F = c.args.format in
    let d = c.direction-direction in
    let inf = c.infinity_word in
    let past = c.overflow_word in
    let yes = not-false c.roundable.result c.if-not-roundable.false-raw in (
      λ R X held.
          let m = c.magnitude_word-magnitude.ensures X (held_pos F guard_bits 1 X c.args.x c.args.u.0 held c.if-x-eq0.false) held in
          let w : infinity_word F ≤ magnitude_word F d.result X = rw (← m, ← inf.ensures.0 R.supported) c.if-magnitude-infinity_word.false in
          let below = lt_of_le_of_lt (rw (← past.ensures.0 R.supported) at (overflow_le F d.result)) (infinity_lt F R.supported) in
          c.signed-else-magnitude-infinity_word.ensures.0 (record { supported = R.supported; sign_lt = R.sign_lt; magnitude_lt = below })
          ∙ ap (signed F c.args.sign) (past.ensures.0 R.supported ∙ sym (bounded_past F d.result X w) ∙ ap (λ (e : Direction). bounded_word F e X) d.ensures),
      λ no. absurd (no (c.roundable.ensures.0 yes)),
    )
