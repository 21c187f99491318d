-- `word::unpack::effective` meets its contract: subtracting turns the sign bit and nothing else (proofs/Fields). Assumes nothing.
use Rattle.std.proofs.Common.{◌≡◌, ◌+◌, ◌%◌, ◌^◌, ◌<◌, sym, ◌∙◌, ap₂, mod-lt, arith, pow_pos}
use Rattle.word.specs.Word.{sign, signed}
use Rattle.word.proofs.Fields.{effective_signed}
use Rattle.word.proofs.unpack.effective.Goals as goal

pub returns : goal.returns
returns c =
    let F = c.args.format in
    let b = c.args.b in
    let bit = c.bit_at in
    let turned : (bit.result + c.args.operation % 2) % 2 ≡ (sign F b + c.args.operation) % 2 = omega (arith, bit.ensures) in
    let below : c.low.result < 2 ^ (F.w + F.f) = rw c.low.ensures (mod-lt b (pow_pos (F.w + F.f))) in
    c.signed.ensures.0 (record { supported = c.requires; sign_lt = omega arith; magnitude_lt = below })
    ∙ ap₂ (signed F) turned c.low.ensures
    ∙ sym (effective_signed F c.args.operation b)
