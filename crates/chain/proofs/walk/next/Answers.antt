-- `chain::walk::next` meets its contract: a set one column on is shifted by one place, which loses no bit below position 63. Assumes nothing.
use mathlib.Core.Path.{◌≡◌, ap, ◌∙◌}
use mathlib.Core.Bool.{◌&&◌}
use Prim.Native.Nat.{ℕ, suc, ◌*◌, ◌%◌, ◌^◌}
use Rattle.columns.specs.Machine.{some}
use Rattle.chain.specs.Ways.{mem}
use Rattle.chain.specs.Walk.{state_word, ways_to, flag}
use Rattle.chain.proofs.Words.{flag_up}
use Rattle.chain.proofs.walk.next.Goals as goal

pub returns : goal.returns
returns c i b h e =
    let table = c.args.table in
    let on : (t r : ℕ) → r ≡ flag (some 4 (λ s. b s && mem (state_word (ways_to table t) s) i)) i → r * 2 % 2 ^ 64 ≡ flag (some 4 (λ s. b s && mem (state_word (ways_to table t) s) i)) (suc i) =
    λ t r q. ap (λ (u : ℕ). u * 2 % 2 ^ 64) q ∙ flag_up i (some 4 (λ s. b s && mem (state_word (ways_to table t) s) i)) h in
    let e0 = on 0 c.lead.result (c.lead.ensures i b e) in
    let e1 = on 1 c.lead-2.result (c.lead-2.ensures i b e) in
    let e2 = on 2 c.lead-3.result (c.lead-3.ensures i b e) in
    let e3 = on 3 c.lead-4.result (c.lead-4.ensures i b e) in
    rw (e0, e1, e2, e3)
