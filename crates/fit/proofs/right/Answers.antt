-- `fit::right` meets its contract: the result of a valid job is a word. Assumes nothing.
use mathlib.Core.Path.{◌≡◌, sym, ap, ◌∙◌}
use Prim.Native.Nat.{ℕ}
use native.Mathlib.Omega.{arith}
use lib.Dec.{eqb}
use Rattle.adder.specs.Result.{result_of}
use Rattle.adder.proofs.Causes.{result_word}
use Rattle.fit.proofs.Laws.{words_fit}
use Rattle.fit.proofs.right.Goals as goal

pub returns-in-Ok : goal.returns-in-Ok
returns-in-Ok c =
    let S = c.args.setting in
    let r = result_word S.format S.operation S.mode c.args.a c.args.b (words_fit S c.requires.0 c.args.a c.args.b c.requires.1 c.requires.2) c.requires.0.mode in
    let e = sym c.in-Ok.is ∙ c.rounded_result.ensures ∙ r in
    let w : c.in-Ok.word ≡ result_of S.format S.operation S.mode c.args.a c.args.b = cc in
    ap (λ (n : ℕ). eqb n c.args.c) w

pub returns-in-Err : goal.returns-in-Err
returns-in-Err c =
    let S = c.args.setting in
    let r = result_word S.format S.operation S.mode c.args.a c.args.b (words_fit S c.requires.0 c.args.a c.args.b c.requires.1 c.requires.2) c.requires.0.mode in
    let e = sym c.in-Err.is ∙ c.rounded_result.ensures ∙ r in
    let z : ◌≡◌ {A = ℕ} 0 1 = cc in
    absurd (omega arith)
