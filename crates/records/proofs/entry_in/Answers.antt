-- `records::entry_in` meets its contract: the part after the header holds the fields. Assumes nothing.
use mathlib.Core.Path.{◌≡◌, sym, ap, ◌∙◌}
use Prim.Native.Nat.{ℕ, ◌+◌, ◌-◌}
use native.Mathlib.Nat.{le_of_eq}
use native.Mathlib.Omega.{arith}
use mathlib.Core.List.{List}
use lib.ListN.{length, get_or, take, drop, length-drop}
use lib.Seq.{take_all}
use Rattle.numbers.specs.Numbers.{numbers}
use Rattle.layout.specs.Fields.{word_bytes, field_sizes, entry_with}
use Rattle.records.specs.Record.{map_bytes, header_bytes, record_length, map_in, operation_in, entry_in}
use Rattle.records.proofs.entry_in.Goals as goal

-- the part after the header
tail_part : (h : ℕ) (s : List ℕ) → take (length s - h) (drop h s) ≡ drop h s
tail_part h s = take_all (length s - h) (drop h s) (le_of_eq (length-drop h s))

pub bounds-s-header : goal.bounds-s-header
unfolding record_length
bounds-s-header c = omega (arith, c.header_bytes-header.ensures, c.requires.2)

pub slice_bounds-decode-count : goal.slice_bounds-decode-count
unfolding record_length
slice_bounds-decode-count c = omega (arith, c.header_bytes-header.ensures, c.requires.2)

pub slice_bounds-decode-start : goal.slice_bounds-decode-start
unfolding record_length
slice_bounds-decode-start c = omega (arith, c.header_bytes-header.ensures, c.requires.2)

pub decode-requires : goal.decode-requires
unfolding record_length
decode-requires c =
    let s : List ℕ = c.args.s.now in
    let h : ℕ = c.header_bytes-header.result in
    omega (arith, ap length (tail_part h s), length-drop h s, c.header_bytes-header.ensures, c.requires.2)

pub returns : goal.returns
unfolding entry_in
returns c =
    let s : List ℕ = c.args.s.now in
    let word : ℕ = word_bytes c.args.format in
    let header : c.header_bytes-header.result ≡ header_bytes (map_in s) = c.header_bytes-header.ensures ∙ ap header_bytes (sym c.requires.0) in
    let last : c.header_bytes-header.result - 1 ≡ map_bytes (map_in s) + 2 = omega (arith, header) in
    let operation : c.wide-operation.result ≡ operation_in s = c.wide-operation.ensures ∙ ap (λ (j : ℕ). get_or s j 0) last in
    let fields = tail_part c.header_bytes-header.result s ∙ ap (λ (j : ℕ). drop j s) header in
    c.decode.ensures
    ∙ λ i. entry_with (sym c.requires.1 i) (operation i) (sym c.requires.0 i) (numbers (field_sizes word (sym c.requires.0 i)) (fields i))
