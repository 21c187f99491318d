-- `layout::field_sizes` meets its contract. After i turns the first i byte counts are in place. Assumes nothing.
use Rattle.std.proofs.Common.{◌≡◌, ◌++◌, length, take, drop}
use Rattle.layout.specs.Layout.{sizes}
use Rattle.layout.specs.Fields.{number_count, layout, field_sizes}
use Rattle.layout.proofs.field_sizes.Given as goal

abbrev pub invariant-loop-i : goal.invariant-loop-i
invariant-loop-i l = (length l.sizes ≡ number_count) × (take l.i l.sizes ++ sizes (drop l.i (layout l.word)) l.map ≡ field_sizes l.word l.map)
