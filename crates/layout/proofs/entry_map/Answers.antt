-- `layout::entry_map` meets its contract: the map bits of the fields that have a default lie below bit 7, so no sum wraps. Assumes nothing.
use mathlib.Core.Path.{◌≡◌, sym, ap₂, ◌∙◌}
use Prim.Native.Nat.{ℕ, ◌+◌, ◌*◌, ◌<◌}
use native.Mathlib.Omega.{arith}
use mathlib.Core.List.{List}
use borrow.Author.Tests.{eq-eqb, ne_eqb}
use Rattle.layout.specs.Layout.{map_of}
use Rattle.layout.specs.Fields.{with_default, second_map, entry_map}
use Rattle.layout.proofs.Maps.{earlier_map, earlier_lt, second_lt}
use Rattle.layout.proofs.entry_map.Goals as goal

pub returns-then-second-eq0 : goal.returns-then-second-eq0
unfolding entry_map
returns-then-second-eq0 c =
    let earlier : c.map_of-earlier.result ≡ earlier_map c.args.entry = c.map_of-earlier.ensures
    ∙ ap₂ (λ (k : ℕ) (ns : List ℕ). map_of (with_default k) ns) c.word_bytes.ensures c.entry_numbers.ensures in
    let e = c.args.entry in
    earlier ∙ sym (rw (eq-eqb (second_map e.job) 0 (sym c.second_map-second.ensures ∙ c.if-second-eq0.true)))

pub overflow_mul-result : goal.overflow_mul-result
overflow_mul-result c =
    let second-few : c.second_map-second.result < 8 = omega (arith, c.second_map-second.ensures, second_lt c.args.entry.job) in
    omega (arith, second-few)

pub overflow_add-result : goal.overflow_add-result
overflow_add-result c =
    let second-few : c.second_map-second.result < 8 = omega (arith, c.second_map-second.ensures, second_lt c.args.entry.job) in
    omega (arith, second-few)

pub overflow_add-result-2 : goal.overflow_add-result-2
overflow_add-result-2 c =
    let earlier : c.map_of-earlier.result ≡ earlier_map c.args.entry = c.map_of-earlier.ensures
    ∙ ap₂ (λ (k : ℕ) (ns : List ℕ). map_of (with_default k) ns) c.word_bytes.ensures c.entry_numbers.ensures in
    let earlier-few : c.map_of-earlier.result < 128 = omega (arith, earlier, earlier_lt c.args.entry) in
    let second-few : c.second_map-second.result < 8 = omega (arith, c.second_map-second.ensures, second_lt c.args.entry.job) in
    omega (arith, second-few, earlier-few)

pub returns : goal.returns
unfolding entry_map
returns c =
    let earlier : c.map_of-earlier.result ≡ earlier_map c.args.entry = c.map_of-earlier.ensures
    ∙ ap₂ (λ (k : ℕ) (ns : List ℕ). map_of (with_default k) ns) c.word_bytes.ensures c.entry_numbers.ensures in
    let e = c.args.entry in
    ap₂ (λ (l q : ℕ). l + (128 + 256 * q)) (earlier) c.second_map-second.ensures
    ∙ sym (rw (ne_eqb (second_map e.job) 0 (λ z. c.if-second-eq0.false (c.second_map-second.ensures ∙ z))))
