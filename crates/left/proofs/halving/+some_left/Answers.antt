-- The proof of the cycle of calls {some_left}. The measure is what the masks leave open: it falls with every bit that is fixed. A narrowed job
-- has the cases of the job, and the two halves of it have them between them. Assumes nothing.
use mathlib.Core.Bool.{true, false, true≢false}
use mathlib.Core.Path.{refl, sym, ◌∙◌, subst}
use native.Mathlib.Omega.{arith}
use Rattle.left.specs.Left.{Left}
use Rattle.left.specs.Narrower.{StepOf}
use Rattle.word.proofs.Bounds.{exponents}
use Rattle.left.proofs.Laws.{none_narrower}
use Rattle.left.proofs.Halves.{past_none, narrower_left, keeps_left, left_within, halves_left}
use Rattle.left.proofs.halving.+some_left.Goals as goal

pub narrow_job-narrow-requires : goal.narrow_job-narrow-requires
narrow_job-narrow-requires t c =
    c.requires

pub next_step-step-requires : goal.next_step-step-requires
next_step-step-requires t c =
    c.narrow_job-narrow.ensures.0.valid

pub returns-then-past-first : goal.returns-then-past-first
returns-then-past-first t c =
    let j = c.args.job in
    let J = c.narrow_job-narrow.result in
    let law = c.narrow_job-narrow.ensures in
    λ none.
    let is = c.first_pair-first.ensures law.0.valid (none_narrower j J law.0 c.args.at none) in
    let past = exponents J.setting.format law.0.valid.setting.format c.power-past.ensures in
    ((λ e. absurd (true≢false (sym e))), λ l. absurd (past_none J c.first_pair-first.result is (omega (arith, past, c.if-past-first.true)) (keeps_left j J law.1 l)))

pub with_bit-requires : goal.with_bit-requires
with_bit-requires t c =
    (c.narrow_job-narrow.ensures.0.valid, subst (StepOf 3 c.narrow_job-narrow.result) c.in-Split.is c.next_step-step.ensures)

pub some_left-requires : goal.some_left-requires
some_left-requires t c =
    let half = c.with_bit.ensures in
    (omega (arith, c.narrow_job-narrow.ensures.0.opens, half.2), half.0.valid)

pub returns-then-some_left : goal.returns-then-some_left
returns-then-some_left t c =
    let j = c.args.job in
    let J = c.narrow_job-narrow.result in
    let law = c.narrow_job-narrow.ensures in
    λ none.
    let is = c.first_pair-first.ensures law.0.valid (none_narrower j J law.0 c.args.at none) in
    let half = c.some_left.ensures (none_narrower J c.with_bit.result c.with_bit.ensures.0 c.first_pair-first.result is.none) in
    ((λ e. narrower_left j J law.0 (narrower_left J c.with_bit.result c.with_bit.ensures.0 (half.0 c.if-some_left.true))), λ l. refl)

pub with_bit-requires-in-Split : goal.with_bit-requires-in-Split
with_bit-requires-in-Split t c =
    let o = subst (StepOf 3 c.narrow_job-narrow.result) c.in-Split.is c.next_step-step.ensures in
    (c.narrow_job-narrow.ensures.0.valid, (o.0, o.1, omega (arith, c.saturating_sub.ensures)))

pub some_left-requires-in-Split : goal.some_left-requires-in-Split
some_left-requires-in-Split t c =
    let half = c.with_bit-in-Split.ensures in
    (omega (arith, c.narrow_job-narrow.ensures.0.opens, half.2), half.0.valid)

pub returns-in-Nothing : goal.returns-in-Nothing
returns-in-Nothing t c =
    let j = c.args.job in
    let J = c.narrow_job-narrow.result in
    let none : Left J → _ = subst (StepOf 3 J) c.in-Nothing.is c.next_step-step.ensures in
    λ before. ((λ e. absurd (true≢false (sym e))), λ l. absurd (none (keeps_left j J c.narrow_job-narrow.ensures.1 l)))

pub returns-in-Settled : goal.returns-in-Settled
returns-in-Settled t c =
    let j = c.args.job in
    let J = c.narrow_job-narrow.result in
    let law = c.narrow_job-narrow.ensures in
    λ none.
    let is = c.first_pair.ensures law.0.valid (none_narrower j J law.0 c.args.at none) in
    let past = exponents J.setting.format law.0.valid.setting.format c.power-past.ensures in
    let inside = subst (StepOf 3 J) c.in-Settled.is c.next_step-step.ensures in
    left_within j J law.0 law.1 c.first_pair.result is inside c.power-past.result past

pub returns-else-some_left : goal.returns-else-some_left
returns-else-some_left t c =
    let j = c.args.job in
    let J = c.narrow_job-narrow.result in
    let law = c.narrow_job-narrow.ensures in
    let o = subst (StepOf 3 J) c.in-Split.is c.next_step-step.ensures in
    λ none.
    let is = c.first_pair-first.ensures law.0.valid (none_narrower j J law.0 c.args.at none) in
    let one = c.some_left.ensures (none_narrower J c.with_bit.result c.with_bit.ensures.0 c.first_pair-first.result is.none) in
    let other = c.some_left-in-Split.ensures (none_narrower J c.with_bit-in-Split.result c.with_bit-in-Split.ensures.0 c.first_pair-first.result is.none) in (
      (λ e. narrower_left j J law.0 (narrower_left J c.with_bit-in-Split.result c.with_bit-in-Split.ensures.0 (other.0 e))),
      λ l. halves_left J c.in-Split.role c.in-Split.k c.in-Split.v c.saturating_sub.result o.2 c.saturating_sub.ensures c.with_bit.result c.with_bit-in-Split.result
          c.with_bit.ensures.1 c.with_bit-in-Split.ensures.1 (λ t. true≢false (sym (one.1 t) ∙ c.if-some_left.false)) c.some_left-in-Split.result other (keeps_left j J law.1 l),
    )
