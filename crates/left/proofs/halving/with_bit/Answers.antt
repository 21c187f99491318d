-- `left::halving::with_bit` meets its contract. Assumes nothing.
use mathlib.Core.Path.{sym, ap, ◌∙◌, subst}
use Prim.Native.Nat.{◌<◌}
use Rattle.mask.specs.Mask.{fix}
use Rattle.job.specs.declared.Wanted.{Wanted}
use Rattle.job.specs.declared.Job.{Job}
use Rattle.left.specs.Narrower.{openness, Narrower, KeepsHalf}
use Rattle.left.proofs.Laws.{fixed_narrower}
use Rattle.left.proofs.halving.with_bit.Goals as goal

pub returns : goal.returns
returns c =
    let a = c.args in
    subst (λ (t : Job). Narrower a.job t × KeepsHalf a.job a.role a.k a.v t × (openness t < openness a.job)) (sym c.with_word_mask.ensures)
    (fixed_narrower a.role a.job c.requires.0 c.fix-mask.result a.k a.v c.requires.1
    (c.fix-mask.ensures ∙ ap (λ (w : Wanted). fix w.mask a.k a.v) c.wanted-own.ensures))
