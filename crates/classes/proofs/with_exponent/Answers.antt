-- `classes::with_exponent` meets its contract: each of its words is one of three fields. Assumes nothing.
use Rattle.std.proofs.Common.{ℕ, ◌+◌, ◌∙◌, ap₂, mod-lt, arith, pow_pos}
use Rattle.mask.specs.declared.Mask.{Mask}
use Rattle.mask.specs.Mask as mask
use Rattle.mask.proofs.ByBits.{value_below}
use Rattle.word.specs.Word.{word_of}
use Rattle.classes.specs.Class.{with_exponent}
use Rattle.classes.proofs.with_exponent.Goals as goal

pub returns : goal.returns
unfolding with_exponent
returns c ok wc wn =
    let t = c.fraction_mask-fraction in
    let g = c.sign_mask-sign in
    let F = c.args.format in
    let n = c.args.n in
    let m = c.args.c in
    ap₂ (λ (x y : ℕ). record { care = x; value = y })
    (c.word_of-care.ensures.0 (record { supported = ok; sign_lt = rw g.ensures (mod-lt (mask.high (F.w + F.f) m).care (omega arith)); exponent_lt = wn.below; fraction_lt = rw t.ensures (mod-lt m.care (pow_pos F.f)) })
    ∙ ap₂ (λ (x y : Mask). word_of F x.care n.care y.care) g.ensures t.ensures)
    (c.word_of-value.ensures.0 (record { supported = ok; sign_lt = rw g.ensures (mod-lt (mask.high (F.w + F.f) m).value (omega arith)); exponent_lt = value_below F.w n wn; fraction_lt = rw t.ensures (mod-lt m.value (pow_pos F.f)) })
    ∙ ap₂ (λ (x y : Mask). word_of F x.value n.value y.value) g.ensures t.ensures)
