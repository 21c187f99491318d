-- `layout::map_of` meets its contract. The map has the bits of the numbers passed; with those of the others it is the whole map. Assumes nothing.
use Rattle.std.proofs.Common.{◌≡◌, true, bit_or}
use Rattle.std.specs.Iterator.Adapters.{zip_first, zip_second}
use Rattle.std.specs.Slice.Iter.{iter_rest}
use Rattle.layout.specs.Layout.{map_of}
use Rattle.layout.specs.Fields.{default_fields, with_default}
use Rattle.layout.proofs.ByMap.{all_below, map_bits}
use Rattle.layout.proofs.map_of.Given as goal

abbrev pub invariant-loop-slot : goal.invariant-loop-slot
invariant-loop-slot l =
    (all_below default_fields (map_bits (iter_rest (zip_first l.slot-iterator))) ≡ true)
    × (bit_or l.map (map_of (iter_rest (zip_first l.slot-iterator)) (iter_rest (zip_second l.slot-iterator)))
    ≡ map_of (with_default l.word) l.fn.numbers)
