-- `narrowing::stands` meets its contract. Assumes nothing.
use Rattle.bounds.specs.declared.Ends.{Ends}
use Rattle.std.specs.Prelude.{Option}
use mathlib.Core.Path.{sym, subst}
use Rattle.bounds.specs.Bounds.{ValidBounds}
use Rattle.format.proofs.Laws.{supported_of, unsupported_of}
use Rattle.narrowing.specs.Narrowing.{Stands}
use Rattle.narrowing.proofs.stands.Goals as goal

pub returns-then-not-supported : goal.returns-then-not-supported
returns-then-not-supported c = λ ok v. absurd (unsupported_of c.supported.ensures c.if-not-supported.true ok)

pub stands_between-requires : goal.stands_between-requires
stands_between-requires c = supported_of c.supported.ensures c.if-not-supported.false

pub returns-in-None : goal.returns-in-None
returns-in-None c =
    let W = c.args.w in
    λ ok v x hx met. rw c.in-None.is tt

pub returns-in-Some : goal.returns-in-Some
returns-in-Some c =
    let W = c.args.w in
    let e = c.in-Some.is in
    λ ok v.
    subst (λ (B : Option Ends). Stands c.args.format (record { mask = W.mask; bounds = B }) c.stands_between.result) (sym e)
    (c.stands_between.ensures v.mask (subst (ValidBounds c.args.format) e v.bounds))
