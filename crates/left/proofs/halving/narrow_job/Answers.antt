-- `left::halving::narrow_job` meets its contract. Assumes nothing.
use Rattle.left.proofs.Laws.{narrower_trans}
use Rattle.left.proofs.halving.narrow_job.Goals as goal

pub returns : goal.returns
returns c =
    let j = c.args.job in
    let p = c.narrow_word-a.ensures in
    let q = c.narrow_word-b.ensures in
    let r = c.narrow_word.ensures in (
      narrower_trans j c.narrow_word-a.result c.narrow_word.result p.0
          (narrower_trans c.narrow_word-a.result c.narrow_word-b.result c.narrow_word.result q.0 r.0),
      λ a b d f. r.1 a b d (q.1 a b d (p.1 a b d f)),
    )
