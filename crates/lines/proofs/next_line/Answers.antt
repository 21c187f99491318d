-- `lines::next_line` meets its contract: each way out is one of the listing's lines. Assumes nothing.
use Rattle.std.proofs.Common.{rules}
use Rattle.std.specs.Prelude.{Option, Some, Ok, None, Err}
use mathlib.Core.Path.{◌≡◌, sym, ap, ◌∙◌, subst}
use mathlib.Core.Logic.{inl, inr, ⊎_elim}
use Prim.Native.Nat.{ℕ, ◌+◌, ◌≤◌}
use native.Mathlib.Omega.{arith}
use mathlib.Core.List.{List}
use lib.ListN.{length, drop}
use borrow.Author.Tests.{not-true, not-false}
use Rattle.records.specs.Record.{First, first_in}
use Rattle.layout.specs.declared.Entry.{Entry}
use Rattle.reader.specs.Drawn.{taken}
use Rattle.reader.specs.declared.Drawn.{Drawn}
use Rattle.lines.specs.Text.{text, Says}
use Rattle.lines.specs.Listing.{longest, stops, Reading, Lists, long, end, refused, answered}
use Rattle.lines.specs.Step.{Steps, Answers}
use Rattle.lines.specs.declared.Place.{Place}
use Rattle.lines.specs.declared.Step.{Step}
use Rattle.lines.specs.declared.text.Line.{Line}
use Rattle.lines.proofs.next_line.Goals as goal

-- a line that says what the listing has next
steps : {s : List ℕ} {p : Place} {l : Line} {bs : List ℕ} {x : Option Place} → Says l bs → Lists s p bs x → Steps s p (record { line = l; then = x })
steps {s} {p} {l} {bs} {x} said lists = record { most = said.most; lists = subst (λ (t : List ℕ). Lists s p t x) (sym said.text) lists }

-- an answer to the job that stands at the place
answer : {s : List ℕ} {p : Place} {e : Entry} {n next : ℕ} {r : Step} → length s ≤ longest → Reading p → first_in (drop p.at s) ≡ Ok (Some (e, n)) → next ≡ p.at + n
    → Answers e (p.lines + 1) next r → Steps s p r
answer {s} {p} {e} {n} {next} {r} short reads_on job at a =
    let on : Some (record { at = p.at + n; lines = p.lines + 1; stopped = stops a.reply }) ≡ r.then =
    ap (λ (m : ℕ). Some (record { at = m; lines = p.lines + 1; stopped = stops a.reply })) (sym at) ∙ sym a.then in
    record {
      most = a.says.most;
      lists = subst (λ (x : Option Place). Lists s p (text r.line) x) on (steps a.says (answered a.reply short reads_on job a.replied)).lists;
    }

pub returns-then-file-gt-LONGEST : goal.returns-then-file-gt-LONGEST
returns-then-file-gt-LONGEST c = steps c.long_line.ensures (long c.if-file-gt-LONGEST.true)

pub returns-then-not-reading : goal.returns-then-not-reading
returns-then-not-reading c =
    let why = c.reading.ensures.1 (not-true c.reading.result c.if-not-reading.true-raw) in
    steps c.end_line.ensures (end c.if-file-gt-LONGEST.false (⊎_elim inl (λ many. inr (inl many)) why))

pub overflow_add-n : goal.overflow_add-n
overflow_add-n c =
    let reads_on : Reading c.args.place = c.reading.ensures.0 (not-false c.reading.result c.if-not-reading.false-raw) in
    omega (arith, (reads_on).most)

pub returns-in-Ok-None : goal.returns-in-Ok-None
returns-in-Ok-None c =
    let short : length c.args.file.now ≤ longest = c.if-file-gt-LONGEST.false in
    let stands : first_in (drop c.args.place.at c.args.file.now) ≡ c.draw-drawn.result.first = sym (ap (λ (d : Drawn). d.first) c.draw-drawn.ensures) in
    steps c.end_line-in-Ok-None.ensures (end (short) (inr (inr (stands ∙ (let is : c.draw-drawn.result.first ≡ Ok None = search rules in is)))))

pub returns-in-Err : goal.returns-in-Err
returns-in-Err c =
    let short : length c.args.file.now ≤ longest = c.if-file-gt-LONGEST.false in
    let reads_on : Reading c.args.place = c.reading.ensures.0 (not-false c.reading.result c.if-not-reading.false-raw) in
    let stands : first_in (drop c.args.place.at c.args.file.now) ≡ c.draw-drawn.result.first = sym (ap (λ (d : Drawn). d.first) c.draw-drawn.ensures) in
    steps (rw (sym c.number.ensures) c.refused_line.ensures) (refused short reads_on (stands ∙ (let is : c.draw-drawn.result.first ≡ Err c.in-Err.cause = search rules in is)))

pub returns-in-Ok-Some : goal.returns-in-Ok-Some
returns-in-Ok-Some c =
    let short : length c.args.file.now ≤ longest = c.if-file-gt-LONGEST.false in
    let reads_on : Reading c.args.place = c.reading.ensures.0 (not-false c.reading.result c.if-not-reading.false-raw) in
    let stands : first_in (drop c.args.place.at c.args.file.now) ≡ c.draw-drawn.result.first = sym (ap (λ (d : Drawn). d.first) c.draw-drawn.ensures) in
    let p = c.args.place in
    let job : first_in (drop p.at c.args.file.now) ≡ Ok (Some (c.in-Ok-Some.entry, c.in-Ok-Some.field-0-0-1)) = stands ∙ (let is : c.draw-drawn.result.first ≡ Ok (Some (c.in-Ok-Some.entry, c.in-Ok-Some.field-0-0-1)) = search rules in is) in
    let next = ap (λ (x : Drawn). x.next) c.draw-drawn.ensures ∙ ap (λ (x : First). p.at + taken x) job in
    answer (short) (reads_on) job next c.answered.ensures
