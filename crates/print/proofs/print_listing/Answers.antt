-- `print::print_listing`: each line is appended to what is printed, and the listing goes on after it. Assumes nothing.
use Rattle.std.specs.Prelude.{Option}
use Rattle.lines.specs.declared.Place.{Place}
use Rattle.std.proofs.Common.{ℕ, List, [], ◌++◌, refl, sym, subst, append_assoc}
use mathlib.Core.List.{append-nil}
use Rattle.std.proofs.KnownBytes.{Appends-trans}
use Rattle.lines.specs.Text.{text}
use Rattle.lines.specs.Listing.{Listing}
use Rattle.print.proofs.Steps.{Left, line_left, line_less}
use Rattle.print.proofs.print_listing.Goals as goal

pub loop-next-smaller : goal.loop-next-smaller
loop-next-smaller g c =
    let s : List ℕ = c.args.file.now in
    let then : Option Place = c.next_line-step.result.then in
    rw c.in-Some.is (line_less s c.in-Some.place (text c.next_line-step.result.line) then c.next_line-step.ensures.lists)

pub loop-next-preserved : goal.loop-next-preserved
loop-next-preserved g c =
    let (t, printed, completes) = c.loop-next.invariant in
    let s : List ℕ = c.args.file.now in
    let line = text c.next_line-step.result.line in
    let then : Option Place = c.next_line-step.result.then in (
      t ++ line,
      Appends-trans _ _ _ _ _ printed c.in_ok-write_all.ensures.bytes,
      (λ u rest. subst (Listing s) (sym (append_assoc t line u)) (completes (line ++ u) (subst (λ (n : Option Place). Left s n (line ++ u)) (sym c.in-Some.is) (line_left s c.in-Some.place line then u c.next_line-step.ensures.lists rest)))),
    )

pub returns : goal.returns
returns g c =
    let (t, printed, completes) = c.loop-next.invariant in
    let s : List ℕ = c.args.file.now in
    let whole = completes [] (subst (λ (n : Option Place). Left s n []) (sym c.in_default.is) refl) in
    (t, subst (Listing s) (append-nil t) whole, printed)
