-- `reader::drawn_at` meets its contract: the part from the offset on is what is left of the file there, and a record that stands first in
-- it lies in it. Assumes nothing.
use Rattle.std.proofs.Common.{rules}
use Rattle.std.specs.Prelude.{Some, None, Ok, Err}
use mathlib.Core.Path.{◌≡◌, refl, sym, ap, ◌∙◌}
use Prim.Native.Nat.{ℕ, ◌+◌, ◌-◌}
use native.Mathlib.Nat.{le_of_eq}
use native.Mathlib.Omega.{arith}
use mathlib.Core.List.{List}
use lib.ListN.{length, drop, length-drop}
use lib.Seq.{take_all}
use Rattle.records.specs.Record.{First, first_in}
use Rattle.records.proofs.Causes.{first_job, first_none_left}
use Rattle.reader.specs.Drawn.{taken, drawn_at}
use Rattle.reader.proofs.drawn_at.Goals as goal

-- what is drawn, of what stands first
drawn : (s : List ℕ) (at : ℕ) (x : First) → x ≡ first_in (drop at s) → record { first = x; next = at + taken x } ≡ drawn_at s at
drawn s at x q = ap (λ (y : First). record { first = y; next = at + taken y }) q

-- what takes no byte
drawn_none : (s : List ℕ) (at : ℕ) (x : First) → x ≡ first_in (drop at s) → taken x ≡ 0 → record { first = x; next = at } ≡ drawn_at s at
drawn_none s at x q none = ap (λ (n : ℕ). record { first = x; next = n }) (let z : at ≡ at + taken x = omega (arith, none) in z) ∙ drawn s at x q

drawn_end : (s : List ℕ) (at : ℕ) → length (drop at s) ≡ 0 → record { first = (Ok None); next = at } ≡ drawn_at s at
drawn_end s at none = drawn_none s at (Ok None) (sym (first_none_left (drop at s) none)) refl

-- past the last byte nothing is left
pub returns-then-file-at : goal.returns-then-file-at
returns-then-file-at c =
    let a = c.args in
    let s : List ℕ = a.file.now in
    drawn_end s a.at (omega (arith, length-drop a.at s, c.if-file-at.true))

pub overflow_add-end : goal.overflow_add-end
overflow_add-end c =
    let stands : c.read-first.result ≡ first_in (drop c.args.at c.args.file.now) = let a = c.args in
    let s : List ℕ = a.file.now in
    c.read-first.ensures ∙ ap first_in (take_all (length s - a.at) (drop a.at s) (le_of_eq (length-drop a.at s))) in
    let job : first_in (drop c.args.at c.args.file.now)
    ≡ Ok (Some (c.in-Ok-Some.field-0-0-0, c.in-Ok-Some.n)) = sym stands ∙ (let is : c.read-first.result ≡ Ok (Some (c.in-Ok-Some.field-0-0-0, c.in-Ok-Some.n)) = search rules in is) in
    let a = c.args in
    let s : List ℕ = a.file.now in
    let t = first_job (drop a.at s) c.in-Ok-Some.field-0-0-0 c.in-Ok-Some.n (job) in
    omega (arith, t.readable.whole, t.count, length-drop a.at s, c.well_formed.0.0, c.if-file-at.false)

pub returns-in-Ok-Some : goal.returns-in-Ok-Some
returns-in-Ok-Some c =
    let a = c.args in
    let s : List ℕ = a.file.now in
    let e = c.in-Ok-Some.field-0-0-0 in
    let n : ℕ = c.in-Ok-Some.n in
    let stands : c.read-first.result ≡ first_in (drop a.at s) = c.read-first.ensures ∙ ap first_in (take_all (length s - a.at) (drop a.at s) (le_of_eq (length-drop a.at s))) in
    let is : c.read-first.result ≡ Ok (Some (e, n)) = search rules in
    ap (λ (x : First). record { first = x; next = a.at + n }) is ∙ drawn s a.at (Ok (Some (e, n))) (sym is ∙ stands)

pub returns-in-Err : goal.returns-in-Err
returns-in-Err c =
    let stands : c.read-first.result ≡ first_in (drop c.args.at c.args.file.now) = let a = c.args in
    let s : List ℕ = a.file.now in
    c.read-first.ensures ∙ ap first_in (take_all (length s - a.at) (drop a.at s) (le_of_eq (length-drop a.at s))) in
    let a = c.args in
    drawn_none a.file.now a.at c.read-first.result (stands) (ap taken (let is : c.read-first.result ≡ Err c.in-Err.field-0 = search rules in is))

pub returns-in-Ok-None : goal.returns-in-Ok-None
returns-in-Ok-None c =
    let stands : c.read-first.result ≡ first_in (drop c.args.at c.args.file.now) = let a = c.args in
    let s : List ℕ = a.file.now in
    c.read-first.ensures ∙ ap first_in (take_all (length s - a.at) (drop a.at s) (le_of_eq (length-drop a.at s))) in
    let a = c.args in
    drawn_none a.file.now a.at c.read-first.result (stands) (ap taken (let is : c.read-first.result ≡ Ok None = search rules in is))
