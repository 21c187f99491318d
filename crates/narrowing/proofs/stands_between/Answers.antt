-- `narrowing::stands_between` meets its contract. Assumes nothing.
use mathlib.Core.Path.{sym, ◌∙◌, subst}
use Prim.Native.Nat.{◌+◌}
use native.Mathlib.Omega.{arith}
use borrow.Author.Tests.{eqb-true, eqb-false}
use Rattle.bits.specs.Bit.{bit}
use Rattle.narrowing.specs.declared.Extent.{Extent}
use Rattle.narrowing.specs.Range.{Decided}
use Rattle.narrowing.proofs.Ranges.{decided_stands}
use Rattle.narrowing.proofs.stands_between.Goals as goal

pub returns-then-free : goal.returns-then-free
returns-then-free c =
    let F = c.args.format in
    λ w v. (omega arith, eqb-true (bit c.args.mask.care (F.w + F.f)) 0 (sym c.free.ensures ∙ c.if-free.true), omega arith)

pub returns : goal.returns
returns c =
    let F = c.args.format in
    λ w v.
    decided_stands F c.requires c.args.mask w
    (eqb-false (bit c.args.mask.care (F.w + F.f)) 0 (sym c.free.ensures ∙ c.if-free.false)) c.args.ends v c.decided.result
    (subst (λ (n : Extent). Decided n c.decided.result) (c.extent_of.ensures w) c.decided.ensures)
