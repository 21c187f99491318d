-- A buffer that is filled from an offset on. Assumes nothing.
use Rattle.std.proofs.Common.{◌≡◌, ℕ, ◌+◌, ◌-◌, ◌≤◌, List, ◌++◌, length, take, drop, sym, ap, ◌∙◌, le_refl, length-take-le, drop_at}
use Rattle.std.proofs.lemmas.Slice.{take-put_mid_below}
use borrow.Rule.Slice.PartMut.{put_mid, post_of}
use lib.Seq.{take-add, take-append-le}

-- the bytes before the offset, and then n bytes of what was put there, are the first of the buffer
pub filled : (at n : ℕ) (old part : List ℕ) → at ≤ length old → n ≤ length part
    → take at old ++ take n part ≡ take (at + n) (put_mid at (length old - at) old part)
filled at n old part within fits =
    let room = length old - at in
    let new = put_mid at room old part in
    let front : take at new ≡ take at old = take-put_mid_below _ _ _ _ _ (le_refl at) within in
    let after = post_of at room old in
    let middle : take n (drop at new) ≡ take n part =
    ap (take n) (drop_at (take at old) (part ++ after) at (length-take-le at old within)) ∙ take-append-le n part after fits in
    ap (λ l. l ++ take n part) (sym front) ∙ ap (λ l. take at new ++ l) (sym middle) ∙ sym (take-add at n new)
