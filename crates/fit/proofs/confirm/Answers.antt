-- `fit::confirm` meets its contract: a case is looked at only where no cause stands. Assumes nothing.
use Rattle.std.proofs.Common.{rules}
use Rattle.fit.proofs.Laws.{case_none}
use Rattle.fit.proofs.confirm.Goals as goal

pub fits-requires : goal.fits-requires
fits-requires c =
    let a = c.args in
    let h = (case_none a.job a.a a.b a.c).0 (search rules) in
    (h.0, h.1.a_word, h.1.b_word, h.1.c_word)
