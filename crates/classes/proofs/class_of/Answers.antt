-- `classes::class_of` meets its contract. Assumes nothing.
use Rattle.std.proofs.Common.{ap}
use Rattle.word.specs.declared.Biased.{Biased}
use Rattle.classes.proofs.class_of.Goals as goal

pub returns : goal.returns
returns c = λ short. ap (λ (e : Biased). record { order = c.args.fields.order; low = e }) (c.low_field-low.ensures short)
