-- `special::representative` meets its contract: its parts have their places in a word. Assumes nothing.
use mathlib.Core.Path.{ap, ◌∙◌}
use Prim.Native.Nat.{◌/◌, ◌%◌}
use native.Mathlib.Omega.{arith}
use Rattle.format.proofs.Room.{significand_room}
use Rattle.mask.specs.declared.Mask.{Mask}
use Rattle.mask.proofs.ByParts.{fraction_formed}
use Rattle.word.specs.Word.{word_of}
use Rattle.word.specs.Masks.{fraction_mask}
use Rattle.special.specs.Special.{extreme, representative}
use Rattle.special.proofs.Representatives.{extreme_lt}
use Rattle.special.proofs.representative.Goals as goal

pub returns : goal.returns
unfolding representative
returns c ok formed he hk =
    let F = c.args.format in
    let m = fraction_mask F c.args.m in
    let wm = fraction_formed F.w F.f c.args.m formed in
    let x = c.extreme-fraction in
    let is = x.ensures (omega (arith, significand_room F ok)) (rw c.fraction_mask.ensures wm) ∙ ap (λ (n : Mask). extreme F.f n (c.args.k % 2)) c.fraction_mask.ensures in
    c.word_of.ensures.0 (record { supported = ok; sign_lt = omega arith; exponent_lt = he; fraction_lt = rw is (extreme_lt F.f m wm (c.args.k % 2)) })
    ∙ ap (word_of F (c.args.k / 2) c.args.e.0) is
