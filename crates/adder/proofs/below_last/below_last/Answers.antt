-- `adder::below_last::below_last` meets its contract. Assumes nothing.
use mathlib.Core.Path.{refl, ap₂, ◌∙◌}
use native.Mathlib.Omega.{arith}
use Rattle.format.proofs.Laws.{supported_of, unsupported_of}
use Rattle.word.specs.Word.{effective}
use Rattle.word.proofs.Canonical.{operand_sound}
use Rattle.adder.specs.Below.{kind_below, below_of}
use Rattle.adder.proofs.below_last.below_last.Goals as goal

pub returns-then-not-supported : goal.returns-then-not-supported
returns-then-not-supported c = (λ ok. absurd (unsupported_of c.supported.ensures c.if-not-supported.true ok.0), λ _. refl)

pub returns-then-g-gt-MOST_DROPPED : goal.returns-then-g-gt-MOST_DROPPED
returns-then-g-gt-MOST_DROPPED c = (λ ok. absurd (omega (arith, ok.1, c.if-g-gt-MOST_DROPPED.true)), λ _. refl)

pub kind_below-requires : goal.kind_below-requires
kind_below-requires c =
    let a = c.args in
    let F = a.format in
    let ok = supported_of c.supported.ensures c.if-not-supported.false in
    let both = c.operands-pair.ensures.0 ok in
    (ok, omega arith, rw both.0 (operand_sound F a.a), rw both.1 (operand_sound F (effective F a.operation a.b)))

pub returns : goal.returns
unfolding below_of
returns c =
    let a = c.args in
    let ok = supported_of c.supported.ensures c.if-not-supported.false in
    let both = c.operands-pair.ensures.0 ok in
    (λ _. c.kind_below.ensures ∙ ap₂ (kind_below a.format a.g) both.0 both.1, λ no. absurd (no (ok, omega arith)))
