-- `layout::entry_numbers` meets its contract: the two lists are the same, care before value and low before high. Assumes nothing.
use mathlib.Core.List.{◌++◌}
use Rattle.layout.specs.Fields.{ends_numbers, earlier_numbers, entry_numbers}
use Rattle.layout.proofs.entry_numbers.Goals as goal

pub returns : goal.returns
unfolding entry_numbers
returns c =
    let e = c.args.entry in
    let j = e.job in
    let a = c.ends_of-a.ensures in
    let b = c.ends_of-b.ensures in
    λ i. earlier_numbers
    (record { job = record { setting = j.setting; a = j.a; b = j.b; c = j.c; carries = j.carries; dropped = c.normalised-dropped.ensures i }; r1 = e.r1; r2 = e.r2 })
    ++ (ends_numbers (a i) ++ (ends_numbers (b i) ++ ends_numbers (c.ends_of-c.ensures i)))
