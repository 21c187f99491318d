-- `lines::say::with_row` meets its contract. Assumes nothing.
use Rattle.std.specs.Prelude.{Option}
use mathlib.Core.Path.{sym, subst}
use Prim.Native.Nat.{ℕ}
use Rattle.lines.specs.Text.{row_text, Grown}
use Rattle.lines.proofs.say.with_row.Goals as goal

pub returns-in-Some : goal.returns-in-Some
unfolding row_text
returns-in-Some c =
    let line = c.args.line in
    let k : ℕ = c.args.k in
    subst (λ (row : Option ℕ). Grown line c.with_word.result (row_text k row)) (sym c.in-Some.is) c.with_word.ensures

pub returns-in-None : goal.returns-in-None
unfolding row_text
returns-in-None c =
    let line = c.args.line in
    let k : ℕ = c.args.k in
    subst (λ (row : Option ℕ). Grown line c.with_text.result (row_text k row)) (sym c.in-None.is) c.with_text.ensures
