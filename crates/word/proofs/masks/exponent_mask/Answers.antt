-- `word::masks::exponent_mask` meets its contract. Assumes nothing.
use Rattle.std.proofs.Common.{ap, ◌∙◌}
use Rattle.mask.specs.declared.Mask.{Mask}
use Rattle.mask.specs.Mask.{low}
use Rattle.word.proofs.masks.exponent_mask.Goals as goal

pub returns : goal.returns
returns c = c.low.ensures ∙ ap (λ (m : Mask). low c.args.format.w m) c.high.ensures
