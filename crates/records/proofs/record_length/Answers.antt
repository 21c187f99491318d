-- `records::record_length` meets its contract. Assumes nothing.
use mathlib.Core.Path.{◌≡◌, ap, ap₂, ◌∙◌}
use Prim.Native.Nat.{ℕ, ◌+◌, ◌≤◌}
use native.Mathlib.Omega.{arith}
use Rattle.numbers.specs.Numbers.{total}
use Rattle.layout.specs.Fields.{word_bytes, field_sizes}
use Rattle.records.specs.Record.{record_length}
use Rattle.layout.proofs.JobLayout.{total_most}
use Rattle.records.proofs.record_length.Goals as goal

pub total-requires : goal.total-requires
total-requires c =
    let sizes-are : c.field_sizes.result ≡ field_sizes (word_bytes c.args.format) c.args.map = c.field_sizes.ensures ∙ ap (λ (k : ℕ). field_sizes k c.args.map) c.word_bytes.ensures in
    let most : total c.field_sizes.result ≤ 134 = omega (arith, ap total (sizes-are), total_most c.args.format c.args.map) in
    omega (arith, most)

pub overflow_add-result : goal.overflow_add-result
overflow_add-result c =
    let sizes-are : c.field_sizes.result ≡ field_sizes (word_bytes c.args.format) c.args.map = c.field_sizes.ensures ∙ ap (λ (k : ℕ). field_sizes k c.args.map) c.word_bytes.ensures in
    let most : total c.field_sizes.result ≤ 134 = omega (arith, ap total (sizes-are), total_most c.args.format c.args.map) in
    omega (arith, most, c.total.ensures, c.header_bytes.ensures)

pub returns : goal.returns
unfolding record_length
returns c =
    let sizes-are : c.field_sizes.result ≡ field_sizes (word_bytes c.args.format) c.args.map = c.field_sizes.ensures ∙ ap (λ (k : ℕ). field_sizes k c.args.map) c.word_bytes.ensures in
    ap₂ (λ (h n : ℕ). h + n) c.header_bytes.ensures (c.total.ensures ∙ ap total (sizes-are))
