-- `narrowing::narrowed` meets its contract. Assumes nothing.
use Rattle.bounds.specs.declared.Ends.{Ends}
use Rattle.std.specs.Prelude.{Option}
use mathlib.Core.Path.{sym, subst}
use Rattle.bounds.specs.Bounds.{ValidBounds}
use Rattle.format.proofs.Laws.{supported_of}
use Rattle.narrowing.specs.Narrowing.{Narrows}
use Rattle.narrowing.proofs.narrowed.Goals as goal

pub narrowed_between-requires : goal.narrowed_between-requires
narrowed_between-requires c = supported_of c.supported.ensures c.if-not-supported.false

pub returns-in-Some : goal.returns-in-Some
returns-in-Some c =
    let W = c.args.w in
    let e = c.in-Some.is in
    λ ok v.
    subst (λ (B : Option Ends). Narrows c.args.format (record { mask = W.mask; bounds = B }) c.narrowed_between.result) (sym e)
    (c.narrowed_between.ensures v.mask (subst (ValidBounds c.args.format) e v.bounds))
