-- `fit::carries_meet` meets its contract: a valid job has a row or none. Assumes nothing.
use mathlib.Core.Path.{◌≡◌, sym, ◌∙◌}
use Prim.Native.Nat.{ℕ}
use native.Mathlib.Omega.{arith}
use Rattle.adder.specs.Row.{row_of}
use Rattle.adder.proofs.Causes.{row_row}
use Rattle.std.proofs.lemmas.Grind.{common_steps}
use Rattle.fit.proofs.Laws.{words_fit}
use Rattle.fit.proofs.carries_meet.Goals as goal

pub returns-in-Ok : goal.returns-in-Ok
returns-in-Ok c =
    let S = c.args.setting in
    let r = row_row S.format S.operation c.args.a c.args.b (words_fit S c.requires.0 c.args.a c.args.b c.requires.1 c.requires.2) in
    let e = sym c.in-Ok.is ∙ c.carry_row.ensures ∙ r in
    let w : c.in-Ok.row ≡ row_of S.format S.operation c.args.a c.args.b = cc in
    grind (arith, common_steps, c.part_meets.ensures, w)

pub returns-in-Err : goal.returns-in-Err
returns-in-Err c =
    let S = c.args.setting in
    let r = row_row S.format S.operation c.args.a c.args.b (words_fit S c.requires.0 c.args.a c.args.b c.requires.1 c.requires.2) in
    let e = sym c.in-Err.is ∙ c.carry_row.ensures ∙ r in
    let z : ◌≡◌ {A = ℕ} 0 1 = cc in
    absurd (omega arith)
