-- `layout::field_sizes` meets its contract. After i turns the first i byte counts are in place. Assumes nothing.
use Rattle.std.proofs.Common.{◌≡◌, ◌+◌, ◌*◌, ℕ, List, ◌++◌, length, get_or, take, drop, set, refl, sym, ap, ◌∙◌, arith}
use lib.ListN.{length-set}
use Rattle.bits.specs.Bit.{bit}
use Rattle.layout.specs.Layout.{sizes}
use Rattle.layout.specs.Fields.{number_count, layout}
use Rattle.layout.specs.declared.Slot.{Slot}
use Rattle.numbers.proofs.BySizes.{drop_all, placed_all}
use Rattle.layout.proofs.ByMap.{sizes_turn}
use Rattle.layout.proofs.JobLayout.{layout_length}
use Rattle.layout.proofs.field_sizes.Goals as goal

pub loop-i-init : goal.loop-i-init
loop-i-init c = (refl, refl)

pub loop-i-preserved : goal.loop-i-preserved
loop-i-preserved c =
    let l = c.loop-i in
    let i : ℕ = l.i in
    let m : ℕ = c.args.map in
    let slots : List Slot = layout c.args.word in
    let none : Slot = record { bit = 0; size = 0 } in
    let rows : length slots ≡ number_count = layout_length c.args.word in
    let size : c.size.result ≡ bit m (get_or slots i none).bit * (get_or slots i none).size =
    c.size.ensures ∙ ap (λ (ss : List Slot). bit m (get_or ss i none).bit * (get_or ss i none).size) c.layout-slots.ensures in (
      length-set l.sizes i c.size.result ∙ l.invariant.0,
      ap (λ (k : ℕ). take (i + 1) (set l.sizes i k) ++ sizes (drop (i + 1) slots) m) size
          ∙ sizes_turn slots i none (omega (arith, rows)) m l.sizes (omega (arith, l.invariant.0)) ∙ l.invariant.1,
    )

pub returns : goal.returns
unfolding sizes
returns c =
    let l = c.loop-i in
    let m : ℕ = c.args.map in
    let slots : List Slot = layout c.args.word in
    let rows : length slots ≡ number_count = layout_length c.args.word in
    sym (placed_all l.sizes (sizes (drop l.i slots) m) l.i (omega (arith, l.invariant.0))
    (ap (λ (ps : List Slot). sizes ps m) (drop_all slots l.i (omega (arith, rows)))))
    ∙ l.invariant.1
