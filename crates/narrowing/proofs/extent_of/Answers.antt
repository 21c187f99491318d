-- `narrowing::extent_of` meets its contract. Assumes nothing.
use mathlib.Core.Path.{ap, ◌∙◌}
use Prim.Native.Nat.{◌+◌, ◌%◌, ◌^◌}
use native.Mathlib.Omega.{arith}
use native.Mathlib.Nat.{mod-eq_of_lt, lt_of_lt_of_le}
use lib.Pow.{pow_mono}
use Rattle.mask.specs.declared.Mask.{Mask}
use Rattle.mask.specs.Mask.{low}
use Rattle.mask.proofs.ByParts.{low_formed}
use Rattle.significand.specs.Tail.{greatest}
use Rattle.significand.proofs.Range.{greatest_lt}
use Rattle.word.proofs.Bounds.{place_bits}
use Rattle.narrowing.specs.Range.{range_of}
use Rattle.narrowing.proofs.extent_of.Goals as goal

pub returns : goal.returns
returns c =
    let F = c.args.format in
    let m : Mask = c.args.mask in
    let place = F.w + F.f in
    let bits = place_bits F c.requires in
    λ w.
    let range = c.range_of-within.ensures ∙ ap (range_of F c.args.ends) c.bit_at.ensures in
    let below = c.low-below.ensures in
    let small = lt_of_lt_of_le (greatest_lt place (low place m) (low_formed place m w.inside)) (pow_mono {i = place} {j = 64} (omega (arith, bits))) in
    let most = c.greatest-most.ensures.0 (omega (arith, bits)) ∙ ap (λ (n : Mask). greatest place n % 2 ^ 64) below ∙ mod-eq_of_lt small in
    λ i. record { within = range i; least = (below i).value; most = most i }
