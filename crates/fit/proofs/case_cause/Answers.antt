-- `fit::case_cause` meets its contract: the words are looked at only in a supported format, where no width wraps. Assumes nothing.
use mathlib.Core.Path.{ap, ap₂, ◌∙◌}
use native.Mathlib.Omega.{arith}
use Rattle.format.specs.Cause.{clear, first}
use Rattle.format.specs.Format.{word_bits, word_cause}
use Rattle.format.proofs.Laws.{supported_of, unsupported_of}
use Rattle.job.specs.Job.{cause_with}
use Rattle.job.proofs.Laws.{form_first}
use Rattle.fit.specs.Fit.{case_cause}
use Rattle.fit.proofs.case_cause.Goals as goal

pub returns-then-not-supported : goal.returns-then-not-supported
unfolding case_cause
returns-then-not-supported c =
    let a = c.args in
    let width = word_bits a.job.setting.format in
    let words = first (word_cause width a.a) (first (word_cause width a.b) (word_cause width a.c)) in
    c.cause_with.ensures ∙ form_first a.job clear words (unsupported_of c.supported.ensures c.if-not-supported.true)

pub overflow_add-width : goal.overflow_add-width
overflow_add-width c =
    let ok = supported_of c.supported.ensures c.if-not-supported.false in
    record { fits = omega (arith, ok.w_most, ok.f_most) }

pub overflow_add-width-2 : goal.overflow_add-width-2
overflow_add-width-2 c =
    let ok = supported_of c.supported.ensures c.if-not-supported.false in
    record { fits = omega (arith, ok.w_most, ok.f_most) }

pub returns : goal.returns
unfolding case_cause
returns c =
    let a = c.args in
    c.cause_with-2.ensures
    ∙ ap (cause_with a.job)
    (c.and-words.ensures
    ∙ ap₂ first c.word_cause.ensures (c.and.ensures ∙ ap₂ first c.word_cause-2.ensures c.word_cause-3.ensures))
