-- `special::together` meets its contract: two words of a valid job have a rounded result. Assumes nothing.
use mathlib.Core.Path.{◌≡◌, sym, ap, ap₂, ◌∙◌}
use mathlib.Core.Bool.{◌&&◌}
use Prim.Native.Nat.{ℕ}
use native.Mathlib.Omega.{arith}
use Rattle.mask.specs.Mask.{meets}
use Rattle.fit.specs.Fit.{result_in}
use Rattle.special.specs.Special.{together}
use Rattle.special.proofs.Laws.{result_replied}
use Rattle.special.proofs.together.Goals as goal

pub returns-in-Ok : goal.returns-in-Ok
unfolding together
returns-in-Ok c valid ha hb =
    let j = c.args.job in
    let e = sym c.in-Ok.is ∙ c.rounded_result.ensures ∙ result_replied j valid c.args.a c.args.b ha hb in
    let w : c.in-Ok.c ≡ result_in j.setting c.args.a c.args.b = cc in
    let both = sym (ap₂ ◌&&◌ c.meets.ensures c.meets-2.ensures) ∙ c.if-meets.true in
    rw both (c.meets-in-Ok.ensures ∙ ap (λ (n : ℕ). meets n j.c.mask) w)

pub returns-in-Err : goal.returns-in-Err
returns-in-Err c valid ha hb =
    let e = sym c.in-Err.is ∙ c.rounded_result.ensures ∙ result_replied c.args.job valid c.args.a c.args.b ha hb in
    let z : ◌≡◌ {A = ℕ} 0 1 = cc in
    absurd (omega arith)

pub returns-else-meets : goal.returns-else-meets
unfolding together
returns-else-meets c valid ha hb =
    let e = sym (ap₂ ◌&&◌ c.meets.ensures c.meets-2.ensures) ∙ c.if-meets.false in
    rw e
