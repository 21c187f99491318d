-- `significand::aligned_mask` meets its contract: the aligned forms of the least and the greatest number have no more bits than the mask,
-- and the first is a part of the second. Assumes nothing.
use Rattle.std.proofs.Common.{◌≡◌, ℕ, ◌+◌, ◌^◌, ◌<◌, ◌≤◌, ap, ◌∙◌, ap₂, lt_of_lt_of_le, arith, pow_mono}
use Rattle.mask.proofs.ByBits.{value_below}
use Rattle.rounding.specs.Sticky.{tail_at}
use Rattle.rounding.specs.Width.{short_bits, mask_bits, Short}
use Rattle.significand.specs.Tail.{least, greatest, spanned}
use Rattle.significand.proofs.Part.{part_le}
use Rattle.significand.proofs.Range.{greatest_lt, greatest_word}
use Rattle.significand.proofs.Tail.{Room, room_of, ends_part, ends_lt}
use Rattle.significand.proofs.aligned_mask.Goals as goal

-- a number of p bits is short
short_of : (q p x : ℕ) → Room q p → x < 2 ^ p → Short q x
short_of q p x r h = record { some = r.some; few = r.few; short = lt_of_lt_of_le h (pow_mono {i = p} {j = short_bits q} r.short) }

pub spanned-requires : goal.spanned-requires
spanned-requires c =
    let least-form : c.aligned.result ≡ tail_at c.args.below (least c.args.m) c.args.gap = c.aligned.ensures.0 (short_of c.args.below c.args.p (least c.args.m) (room_of c.args.below c.args.p c.requires.0) (value_below c.args.p c.args.m c.requires.1)) in
    let greatest-form : c.aligned-2.result ≡ tail_at c.args.below (greatest c.args.p c.args.m) c.args.gap = (let a = c.args in
    let r = room_of a.below a.p c.requires.0 in
    let is = c.greatest.ensures.0 (omega (arith, r.short)) ∙ greatest_word a.p a.m (omega (arith, r.short)) c.requires.1 in
    let lt : c.greatest.result < 2 ^ a.p = rw is (greatest_lt a.p a.m c.requires.1) in
    c.aligned-2.ensures.0 (short_of a.below a.p c.greatest.result r lt) ∙ ap (λ (n : ℕ). tail_at a.below n a.gap) is) in
    let a = c.args in
    let l = least-form in
    let g = greatest-form in
    let q = a.below in
    let r = room_of q a.p c.requires.0 in
    let room : a.p + q ≤ mask_bits = omega (arith, r.few, r.short) in
    let part = part_le (tail_at q (least a.m) a.gap) (tail_at q (greatest a.p a.m) a.gap) (ends_part mask_bits q a.p a.m a.gap r.some room c.requires.1) in
    omega (arith, ends_lt mask_bits q a.p a.m a.gap r.some room c.requires.1)

pub returns : goal.returns
returns c =
    let least-form : c.aligned.result ≡ tail_at c.args.below (least c.args.m) c.args.gap = c.aligned.ensures.0 (short_of c.args.below c.args.p (least c.args.m) (room_of c.args.below c.args.p c.requires.0) (value_below c.args.p c.args.m c.requires.1)) in
    let greatest-form : c.aligned-2.result ≡ tail_at c.args.below (greatest c.args.p c.args.m) c.args.gap = (let a = c.args in
    let r = room_of a.below a.p c.requires.0 in
    let is = c.greatest.ensures.0 (omega (arith, r.short)) ∙ greatest_word a.p a.m (omega (arith, r.short)) c.requires.1 in
    let lt : c.greatest.result < 2 ^ a.p = rw is (greatest_lt a.p a.m c.requires.1) in
    c.aligned-2.ensures.0 (short_of a.below a.p c.greatest.result r lt) ∙ ap (λ (n : ℕ). tail_at a.below n a.gap) is) in
    c.spanned.ensures ∙ ap₂ (spanned mask_bits) (least-form) (greatest-form)
