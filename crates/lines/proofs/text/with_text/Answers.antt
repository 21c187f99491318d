-- `lines::text::with_text` meets its contract: after i turns the line has grown by the first i bytes. Assumes nothing.
use Rattle.std.proofs.Common.{ℕ, List, length, take, take_all, length-take-le, add-one, sym, ap, ◌∙◌, subst, arith}
use lib.Seq.{take-suc}
use Rattle.lines.specs.Text.{Grown}
use Rattle.lines.proofs.Texts.{grown_none, grown_then, room_left}
use Rattle.lines.proofs.text.with_text.Goals as goal

pub loop-b-init : goal.loop-b-init
loop-b-init c = grown_none c.args.line c.requires.whole

pub with_byte-next-requires : goal.with_byte-next-requires
with_byte-next-requires c =
    let l = c.loop-b in
    let text : List ℕ = c.args.text.now in
    room_left 1 (length text) c.requires l.invariant (omega (arith, length-take-le l.b-index text (omega arith), c.loop-b-test.true))

pub loop-b-preserved : goal.loop-b-preserved
loop-b-preserved c =
    let l = c.loop-b in
    let a = c.args in
    let text : List ℕ = a.text.now in
    subst (Grown a.line c.with_byte-next.result) (sym (ap (λ (n : ℕ). take n text) (add-one l.b-index) ∙ take-suc text l.b-index 0 c.loop-b-test.true)) (grown_then l.invariant c.with_byte-next.ensures)

pub returns : goal.returns
returns c =
    let l = c.loop-b in
    let a = c.args in
    let text : List ℕ = a.text.now in
    subst (Grown a.line l.next) (take_all l.b-index text c.loop-b-test.false) l.invariant
