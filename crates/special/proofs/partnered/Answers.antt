-- `special::partnered` meets its contract. The loop's invariant: no representative before k goes together with a. Assumes nothing.
use mathlib.Core.Path.{◌≡◌, sym, ap, ◌∙◌, subst}
use mathlib.Core.Bool.{Bool, false}
use Prim.Native.Nat.{ℕ, ◌^◌, ◌<◌}
use native.Mathlib.Numerals.{add-one}
use native.Mathlib.Omega.{arith}
use Rattle.format.specs.Format.{word_bits}
use Rattle.columns.specs.Machine.{some}
use Rattle.columns.proofs.Some.{some_complete}
use Rattle.job.specs.declared.Job.{Job}
use Rattle.job.specs.Job.{Valid}
use Rattle.word.specs.declared.Biased.{Biased}
use Rattle.special.specs.Special.{representative, together, partnered}
use Rattle.special.proofs.Representatives.{representative_lt}
use Rattle.special.proofs.Laws.{some_none}
use Rattle.special.proofs.partnered.Invariants.{tried}
use Rattle.special.proofs.partnered.Goals as goal

-- what the code tries is that
one : (j : Job) → Valid j → (a : ℕ) → a < 2 ^ word_bits j.setting.format → (eb : Biased) → eb.0 < 2 ^ j.setting.format.w → (k : ℕ) → k < 4 → (b : ℕ) (r : Bool)
    → b ≡ representative j.setting.format j.b.mask eb k → (b < 2 ^ word_bits j.setting.format → r ≡ together j a b) → r ≡ tried j a eb k
one j valid a ha eb he k hk b r eb' er =
    er (rw eb' (representative_lt j.setting.format j.b.mask valid.b.mask eb k he hk)) ∙ ap (together j a) eb'

pub returns-then-together : goal.returns-then-together
unfolding partnered
returns-then-together c valid ha he =
    let a = c.args in
    let k = c.loop-k.k in
    let r = c.representative in
    let is = one a.job valid a.a ha a.eb he k (omega arith) r.result c.together.result (r.ensures valid.setting.format valid.b.mask he (omega arith)) (λ hb. c.together.ensures valid ha hb) in
    sym (some_complete 4 (tried a.job a.a a.eb) k (omega arith) (sym is ∙ c.if-together.true))

pub loop-k-preserved : goal.loop-k-preserved
loop-k-preserved c =
    let a = c.args in
    let l = c.loop-k in
    let r = c.representative in
    λ valid ha he.
    let is = one a.job valid a.a ha a.eb he l.k (omega arith) r.result c.together.result (r.ensures valid.setting.format valid.b.mask he (omega arith)) (λ hb. c.together.ensures valid ha hb) in
    rw add-one (some_none l.k (tried a.job a.a a.eb) (l.invariant valid ha he) (sym is ∙ c.if-together.false))

pub returns : goal.returns
unfolding partnered
returns c valid ha he =
    let a = c.args in
    let k : c.loop-k.k ≡ 4 = omega arith in
    sym (subst (λ (n : ℕ). some n (tried a.job a.a a.eb) ≡ false) k (c.loop-k.invariant valid ha he))
