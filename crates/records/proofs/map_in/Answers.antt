-- `records::map_in` meets its contract: a second byte is taken exactly where the first announces it. Assumes nothing.
use mathlib.Core.Path.{◌≡◌, sym, ap, ap₂, ◌∙◌, subst}
use Prim.Native.Nat.{ℕ, ◌+◌, ◌*◌, ◌^◌, ◌<◌}
use native.Mathlib.Omega.{arith}
use mathlib.Core.List.{List}
use Rattle.records.specs.Record.{map_bytes}
use Rattle.records.proofs.Headers.{map_one, map_two}
use Rattle.records.proofs.map_in.Goals as goal

pub returns-then-map_bytes-eq1 : goal.returns-then-map_bytes-eq1
returns-then-map_bytes-eq1 c =
    let s : List ℕ = c.args.s.now in
    let b = c.byte_at-first.ensures in
    let one : map_bytes c.byte_at-first.result ≡ 1 = sym c.map_bytes.ensures ∙ c.if-map_bytes-eq1.true in (
      b.0 ∙ sym (map_one s (ap map_bytes (sym b.0) ∙ one)),
      subst (λ (k : ℕ). c.byte_at-first.result < 256 ^ k) (sym one) (omega (arith, b.1)),
    )

pub returns : goal.returns
returns c =
    let s : List ℕ = c.args.s.now in
    let b = c.byte_at-first.ensures in
    let d = c.byte_at.ensures in
    let two : map_bytes c.byte_at-first.result ≡ 2 = omega (arith, c.map_bytes.ensures, c.if-map_bytes-eq1.false) in
    let m : ℕ = c.byte_at-first.result + 256 * c.byte_at.result in
    let both : map_bytes m ≡ 2 = omega arith in (
      ap₂ (λ (x y : ℕ). x + 256 * y) b.0 d.0 ∙ sym (map_two s (ap map_bytes (sym b.0) ∙ two)),
      subst (λ (k : ℕ). m < 256 ^ k) (sym both) (omega (arith, b.1, d.1)),
    )
