-- `records::format_in` meets its contract. Assumes nothing.
use mathlib.Core.Path.{◌≡◌, sym, ap, ◌∙◌}
use Prim.Native.Nat.{ℕ, ◌+◌}
use mathlib.Core.List.{List}
use lib.ListN.{get_or}
use Rattle.records.specs.Record.{map_bytes, map_in}
use Rattle.records.proofs.format_in.Goals as goal

pub returns : goal.returns
returns c =
    let s : List ℕ = c.args.s.now in
    let at : c.map_bytes-at.result ≡ map_bytes (map_in s) = c.map_bytes-at.ensures ∙ ap map_bytes (sym c.requires) in
    let w = c.byte_at.ensures.0 ∙ ap (λ (j : ℕ). get_or s j 0) at in
    let f = c.byte_at-2.ensures.0 ∙ ap (λ (j : ℕ). get_or s (j + 1) 0) at in
    λ i. record { w = w i; f = f i }
