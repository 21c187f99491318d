-- `layout::map_of` meets its contract. The map has the bits of the numbers passed; with those of the others it is the whole map. Assumes nothing.
use Rattle.std.proofs.Common.{rules, ◌≡◌, ℕ, List, bit_or, take, sym, ap, ◌∙◌, arith}
use Rattle.std.specs.Iterator.Adapters.{zip_first, zip_second}
use Rattle.std.specs.Slice.Iter.{iter_rest}
use Rattle.std.proofs.lemmas.Slice.Zip.{either_empty_from_Zip}
use lib.Bits.{or_zero_l, or_zero_r}
use Rattle.bits.proofs.Laws.{one_shl}
use Rattle.layout.specs.Layout.{map_of}
use Rattle.layout.specs.Fields.{default_numbers, default_fields, with_default}
use Rattle.layout.specs.declared.Slot.{Slot}
use Rattle.layout.proofs.ByMap.{map_bits, below_cons, map_none, map_same, map_set}
use Rattle.layout.proofs.JobLayout.{default_bits, default_take}
use Rattle.layout.proofs.map_of.Goals as goal

pub loop-slot-init : goal.loop-slot-init
loop-slot-init c =
    let slots : iter_rest (zip_first c.into_iter-slot-iterator.result) ≡ take default_numbers c.layout-slots.result = search rules in
    let numbers : iter_rest (zip_second c.into_iter-slot-iterator.result) ≡ c.args.numbers = search rules in
    let front = slots ∙ ap (take default_numbers) c.layout-slots.ensures ∙ default_take c.args.word in
    (rw front (default_bits c.args.word), rw (front, numbers) (or_zero_l (map_of (with_default c.args.word) c.args.numbers)))

pub overflow_shl-map : goal.overflow_shl-map
overflow_shl-map c =
    let p : Slot = c.in-Some.slot.now in
    let below = below_cons default_fields p.bit (map_bits (iter_rest (zip_first c.next.new.self))) (rw c.in-Some.ensures.steps.0 at c.loop-slot.invariant.0) in
    omega (arith, below.0)

pub loop-slot-preserved-then-number-ne0 : goal.loop-slot-preserved-then-number-ne0
loop-slot-preserved-then-number-ne0 c =
    let l = c.loop-slot in
    let p : Slot = c.in-Some.slot.now in
    let ps : List Slot = iter_rest (zip_first c.next.new.self) in
    let ns : List ℕ = iter_rest (zip_second c.next.new.self) in
    let steps = c.in-Some.ensures.steps in
    let below = below_cons default_fields p.bit (map_bits ps) (rw steps.0 at l.invariant.0) in
    let set = map_set l.map p c.in-Some.field-0-1.now ps ns c.if-number-ne0.true in
    (below.1, ap (λ (b : ℕ). bit_or (bit_or l.map b) (map_of ps ns)) (one_shl p.bit (omega (arith, below.0))) ∙ set ∙ rw (steps.0, steps.1) at l.invariant.1)

pub loop-slot-preserved : goal.loop-slot-preserved
loop-slot-preserved c =
    let l = c.loop-slot in
    let p : Slot = c.in-Some.slot.now in
    let ps : List Slot = iter_rest (zip_first c.next.new.self) in
    let ns : List ℕ = iter_rest (zip_second c.next.new.self) in
    let steps = c.in-Some.ensures.steps in
    let below = below_cons default_fields p.bit (map_bits ps) (rw steps.0 at l.invariant.0) in
    let same = map_same l.map p c.in-Some.field-0-1.now ps ns c.if-number-ne0.false in
    (below.1, same ∙ rw (steps.0, steps.1) at l.invariant.1)

pub returns : goal.returns
returns c =
    let l = c.loop-slot in
    let none = map_none _ _ (either_empty_from_Zip l.slot-iterator c.next.new.self c.next.result c.in-None.is c.next.ensures.steps) in
    sym (ap (bit_or l.map) none ∙ or_zero_r l.map) ∙ l.invariant.1
