-- `delivery::put_numbers` meets its contract: after i turns the first i numbers are put. Assumes nothing.
use Rattle.std.proofs.Common.{ℕ, suc, ◌*◌, ◌≤◌, List, length, get_or, take, refl, sym, ap, ◌∙◌, add-one, arith}
use Rattle.numbers.specs.Number.{little_endian, put, put_within}
use Rattle.delivery.specs.Answer.{bytes_of}
use Rattle.delivery.proofs.Bytes.{put_more}
use Rattle.delivery.proofs.put_numbers.Goals as goal

pub loop-i-init : goal.loop-i-init
unfolding bytes_of
loop-i-init c = refl

pub loop-i-preserved : goal.loop-i-preserved
loop-i-preserved c =
    let a = c.args in
    let l = c.loop-i in
    let fits : 8 * suc l.i ≤ length a.out.now = omega arith in
    c.put_within.ensures
    ∙ ap (λ (t : List ℕ). put_within t (8 * l.i) (little_endian 8 (get_or a.given.now l.i 0))) l.invariant
    ∙ put_more a.given.now l.i a.out.now (omega arith) fits
    ∙ ap (λ (n : ℕ). put a.out.now 0 (bytes_of (take n a.given.now))) (sym (add-one l.i))
