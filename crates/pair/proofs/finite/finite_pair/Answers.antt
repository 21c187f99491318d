-- `pair::finite::finite_pair` meets its contract: the masks of the exponent fields are tested, and then the signs are tried.
-- Assumes nothing.
use mathlib.Core.Bool.{false≢true}
use mathlib.Core.Path.{sym, ◌∙◌}
use borrow.Author.Tests.{not-true, not-false}
use Rattle.mask.proofs.Checks.{meets_tested}
use Rattle.pair.proofs.Finites.{pair_finite}
use Rattle.pair.proofs.finite.finite_pair.Goals as goal

pub returns-then-not-meets : goal.returns-then-not-meets
returns-then-not-meets c valid =
    let a = c.args in
    let m = c.meets in
    let t = meets_tested a.ea.0 m.ensures c.exponent_mask.ensures in
    ((λ e. absurd (false≢true e)), λ P. absurd (false≢true (sym (not-true m.result c.if-not-meets.true-raw) ∙ t.1 ((pair_finite a.job valid a.ea a.eb c.requires).0 P).0)))

pub returns-then-not-meets-2 : goal.returns-then-not-meets-2
returns-then-not-meets-2 c valid =
    let a = c.args in
    let m = c.meets-2 in
    let t = meets_tested a.eb.0 m.ensures c.exponent_mask-2.ensures in
    ((λ e. absurd (false≢true e)), λ P. absurd (false≢true (sym (not-true m.result c.if-not-meets-2.true-raw) ∙ t.1 ((pair_finite a.job valid a.ea a.eb c.requires).0 P).1)))

pub returns : goal.returns
returns c valid =
    let a = c.args in
    let ma = (meets_tested a.ea.0 c.meets.ensures c.exponent_mask.ensures).0 (not-false c.meets.result c.if-not-meets.false-raw) in
    let mb = (meets_tested a.eb.0 c.meets-2.ensures c.exponent_mask-2.ensures).0 (not-false c.meets-2.result c.if-not-meets-2.false-raw) in
    let p = pair_finite a.job valid a.ea a.eb c.requires in
    ((λ e. p.1 (ma, mb, (c.some_signs.ensures valid).0 e)), λ P. (c.some_signs.ensures valid).1 (p.0 P).2)
