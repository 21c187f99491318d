-- `records::fields::put_numbers` meets its contract. The bytes of the numbers that are left find room from `next` on, and with them put there the
-- buffer is the one that is asked for. Assumes nothing.
use Rattle.std.proofs.Common.{rules, ◌≡◌, ℕ, ◌+◌, ◌≤◌, List, length, ◌∷◌, refl, sym, ◌∙◌, arith}
use Rattle.std.specs.Iterator.Adapters.{zip_first, zip_second}
use Rattle.std.specs.Slice.Iter.{iter_rest}
use Rattle.std.proofs.lemmas.Slice.Zip.{either_empty_from_Zip}
use Rattle.numbers.specs.Numbers.{total}
use Rattle.numbers.proofs.Numbers.{put_none}
use Rattle.numbers.proofs.BySizes.{put_next, put_turn, no_bytes}
use Rattle.records.proofs.fields.put_numbers.Goals as goal

pub loop-k-init : goal.loop-k-init
loop-k-init c =
    let sizes : iter_rest (zip_first c.into_iter-k-iterator.result) ≡ c.args.sizes.now = search rules in
    let numbers : iter_rest (zip_second c.into_iter-k-iterator.result) ≡ c.args.numbers.now = search rules in
    (rw sizes c.requires.0, rw (sizes, numbers) refl)

pub overflow_add-next : goal.overflow_add-next
unfolding total
overflow_add-next c =
    let steps = c.in-Some.ensures.steps in
    let left = rw steps.0 at c.loop-k.invariant.0 in
    omega (arith, left)

pub loop-k-preserved : goal.loop-k-preserved
unfolding total
loop-k-preserved c =
    let l = c.loop-k in
    let k : ℕ = c.in-Some.field-0-0.now in
    let n : ℕ = c.in-Some.field-0-1.now in
    let ks : List ℕ = iter_rest (zip_first c.next.new.self) in
    let ns : List ℕ = iter_rest (zip_second c.next.new.self) in
    let steps = c.in-Some.ensures.steps in
    let room : l.next + total (k ∷ ks) ≤ length l.buffer = rw steps.0 at l.invariant.0 in
    let put_is = c.put_within.ensures ∙ put_next k n l.next ks ns l.buffer room in (
      omega (arith, room, c.put_within.auto.buffer),
      rw put_is (put_turn k n l.next ks ns l.buffer room) ∙ rw (steps.0, steps.1) at l.invariant.1,
    )

pub returns : goal.returns
returns c =
    let l = c.loop-k in
    let none = no_bytes _ _ (either_empty_from_Zip l.k-iterator c.next.new.self c.next.result c.in-None.is c.next.ensures.steps) in
    sym (rw none (put_none l.buffer l.next)) ∙ l.invariant.1
