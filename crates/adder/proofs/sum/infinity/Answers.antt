-- `adder::sum::infinity` meets its contract. Assumes nothing.
use mathlib.Core.Path.{ap, ◌∙◌}
use Rattle.word.specs.Word.{signed}
use Rattle.word.proofs.Bounds.{infinity_lt}
use Rattle.adder.proofs.sum.infinity.Goals as goal

pub returns : goal.returns
returns c =
    let F = c.args.format in
    let e = c.infinity_word.ensures.0 c.requires.0 in
    c.signed.ensures.0 (record { supported = c.requires.0; sign_lt = c.requires.1; magnitude_lt = rw e (infinity_lt F c.requires.0) })
    ∙ ap (signed F c.args.sign) e
