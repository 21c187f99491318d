-- `word::unpack::operands` meets its contract. Assumes nothing.
use Rattle.std.proofs.Common.{refl, ap, ◌∙◌}
use Rattle.format.proofs.Laws.{supported_of, unsupported_of}
use Rattle.word.specs.Operand.{operand_of}
use Rattle.word.proofs.unpack.operands.Goals as goal

pub returns-then-not-supported : goal.returns-then-not-supported
returns-then-not-supported c = (λ ok. absurd (unsupported_of c.supported.ensures c.if-not-supported.true ok), λ _. (refl, refl))

pub effective-turned-requires : goal.effective-turned-requires
effective-turned-requires c = supported_of c.supported.ensures c.if-not-supported.false

pub operand_of-requires : goal.operand_of-requires
operand_of-requires c = supported_of c.supported.ensures c.if-not-supported.false

pub operand_of-requires-2 : goal.operand_of-requires-2
operand_of-requires-2 c = supported_of c.supported.ensures c.if-not-supported.false

pub returns : goal.returns
returns c = (
  λ _. (c.operand_of.ensures, c.operand_of-2.ensures ∙ ap (operand_of c.args.format) c.effective-turned.ensures),
  λ no. absurd (no (supported_of c.supported.ensures c.if-not-supported.false)),
)
