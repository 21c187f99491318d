-- `generator::case_of` meets its contract. Assumes nothing.
use Rattle.std.specs.Prelude.{Option}
use mathlib.Core.Path.{ap₂}
use Prim.Native.Nat.{ℕ}
use Rattle.generator.proofs.case_of.Goals as goal

pub returns : goal.returns
returns c =
    let a = c.args in
    ap₂ (λ (n : ℕ) (r : Option ℕ). record { a = a.a; b = a.b; c = n; row = r }) c.result_of.ensures c.row_of.ensures
