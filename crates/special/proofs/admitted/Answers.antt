-- `special::admitted` meets its contract. The loop's invariant: no representative of a before k has a partner. Assumes nothing.
use mathlib.Core.Path.{◌≡◌, sym, ap, ◌∙◌, subst}
use mathlib.Core.Bool.{Bool, false}
use Prim.Native.Nat.{ℕ, ◌^◌, ◌<◌}
use native.Mathlib.Numerals.{add-one}
use native.Mathlib.Omega.{arith}
use Rattle.format.specs.Format.{word_bits}
use Rattle.columns.specs.Machine.{some}
use Rattle.columns.proofs.Some.{some_complete}
use Rattle.job.specs.declared.Job.{Job}
use Rattle.job.specs.Job.{Valid}
use Rattle.word.specs.declared.Biased.{Biased}
use Rattle.special.specs.Special.{representative, partnered, admitted}
use Rattle.special.proofs.Representatives.{representative_lt}
use Rattle.special.proofs.Laws.{some_none}
use Rattle.special.proofs.admitted.Invariants.{tried}
use Rattle.special.proofs.admitted.Goals as goal

-- what the code tries is that
one : (j : Job) → Valid j → (ea eb : Biased) → ea.0 < 2 ^ j.setting.format.w → (k : ℕ) → k < 4 → (a : ℕ) (r : Bool)
    → a ≡ representative j.setting.format j.a.mask ea k → (a < 2 ^ word_bits j.setting.format → r ≡ partnered j a eb) → r ≡ tried j ea eb k
one j valid ea eb he k hk a r ea' er =
    er (rw ea' (representative_lt j.setting.format j.a.mask valid.a.mask ea k he hk)) ∙ ap (λ (n : ℕ). partnered j n eb) ea'

pub returns-then-partnered : goal.returns-then-partnered
unfolding admitted
returns-then-partnered c valid ha he =
    let a = c.args in
    let k = c.loop-k.k in
    let r = c.representative in
    let is = one a.job valid a.ea a.eb ha k (omega arith) r.result c.partnered.result (r.ensures valid.setting.format valid.a.mask ha (omega arith)) (λ h. c.partnered.ensures valid h he) in
    sym (some_complete 4 (tried a.job a.ea a.eb) k (omega arith) (sym is ∙ c.if-partnered.true))

pub loop-k-preserved : goal.loop-k-preserved
loop-k-preserved c =
    let a = c.args in
    let l = c.loop-k in
    let r = c.representative in
    λ valid ha he.
    let is = one a.job valid a.ea a.eb ha l.k (omega arith) r.result c.partnered.result (r.ensures valid.setting.format valid.a.mask ha (omega arith)) (λ h. c.partnered.ensures valid h he) in
    rw add-one (some_none l.k (tried a.job a.ea a.eb) (l.invariant valid ha he) (sym is ∙ c.if-partnered.false))

pub returns : goal.returns
unfolding admitted
returns c valid ha he =
    let a = c.args in
    let k : c.loop-k.k ≡ 4 = omega arith in
    sym (subst (λ (n : ℕ). some n (tried a.job a.ea a.eb) ≡ false) k (c.loop-k.invariant valid ha he))
