-- `records::decode` meets its contract. Assumes nothing.
use mathlib.Core.Path.{◌≡◌, sym, ap, ◌∙◌}
use Prim.Native.Nat.{ℕ}
use native.Mathlib.Omega.{arith}
use mathlib.Core.List.{List}
use lib.ListN.{length, get_or}
use Rattle.numbers.specs.Numbers.{total, numbers}
use Rattle.layout.specs.Fields.{word_bytes, field_sizes, entry_with}
use Rattle.layout.proofs.JobLayout.{sizes_count, size_most}
use Rattle.records.proofs.decode.Goals as goal

pub read_numbers-requires : goal.read_numbers-requires
read_numbers-requires c =
    let sizes-are : c.field_sizes-sizes.result ≡ field_sizes (word_bytes c.args.format) c.args.map = c.field_sizes-sizes.ensures ∙ ap (λ (k : ℕ). field_sizes k c.args.map) c.word_bytes.ensures in (
      omega (arith, ap total (sizes-are), c.requires),
      sym (ap length (sizes-are) ∙ sizes_count (word_bytes c.args.format) c.args.map),
      λ i. omega (arith, size_most c.args.format c.args.map i, ap (λ (ks : List ℕ). get_or ks i 0) (sizes-are)),
    )

pub returns : goal.returns
returns c =
    let sizes-are : c.field_sizes-sizes.result ≡ field_sizes (word_bytes c.args.format) c.args.map = c.field_sizes-sizes.ensures ∙ ap (λ (k : ℕ). field_sizes k c.args.map) c.word_bytes.ensures in
    let a = c.args in
    c.entry_with.ensures
    ∙ ap (entry_with a.format a.operation a.map) (c.read_numbers.ensures ∙ ap (λ (ks : List ℕ). numbers ks a.s.now) (sizes-are))
