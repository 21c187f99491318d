-- `answers::open::all_closed` meets its contract: the runs of ones hold every class, by `all_below` and `all_over`. Assumes nothing.
use mathlib.Core.Bool.{true, ◌&&◌, and-eq-true_iff}
use mathlib.Core.Path.{◌≡◌, sym, ◌∙◌, subst}
use Prim.Native.Nat.{ℕ, ◌+◌}
use native.Mathlib.Omega.{arith}
use lib.Dec.{eqb, ltb, leb}
use lib.ListN.{get_or}
use borrow.Author.Tests.{eqb-true, ltb-true, leb-true}
use Rattle.bits.specs.Bit.{bit}
use Rattle.classes.specs.Class.{low_field}
use Rattle.answers.specs.Kept.{closed_bit}
use Rattle.answers.proofs.Keeping.{pairs_closed}
use Rattle.answers.proofs.Runs.{all_below, all_over}
use Rattle.job.specs.Guards.{reach}
use Rattle.job.proofs.GuardLaws.{reach_most}
use Rattle.answers.proofs.open.all_closed.Goals as goal

pub closed_place-requires : goal.closed_place-requires
closed_place-requires c = (omega (arith, c.reach-reach.ensures, reach_most c.args.job), omega arith)

pub offset_bounds-table-closed_place : goal.offset_bounds-table-closed_place
offset_bounds-table-closed_place c = omega (arith, (rw c.reach-reach.ensures at c.closed_place.ensures), c.reach-reach.ensures, reach_most c.args.job)

pub bounds-table-closed_place : goal.bounds-table-closed_place
bounds-table-closed_place c = omega (arith, (rw c.reach-reach.ensures at c.closed_place.ensures), c.reach-reach.ensures, reach_most c.args.job)

pub closed_place-requires-2 : goal.closed_place-requires-2
closed_place-requires-2 c = (omega (arith, c.reach-reach.ensures, reach_most c.args.job), omega arith)

pub offset_bounds-table-closed_place-2 : goal.offset_bounds-table-closed_place-2
offset_bounds-table-closed_place-2 c = omega (arith, (rw c.reach-reach.ensures at c.closed_place-2.ensures), c.reach-reach.ensures, reach_most c.args.job)

pub bounds-table-closed_place-2 : goal.bounds-table-closed_place-2
bounds-table-closed_place-2 c = omega (arith, (rw c.reach-reach.ensures at c.closed_place-2.ensures), c.reach-reach.ensures, reach_most c.args.job)

pub overflow_add-far : goal.overflow_add-far
overflow_add-far c = omega (arith, c.reach-reach.ensures, reach_most c.args.job)

pub returns : goal.returns
returns c =
    let a = c.args in
    let f = reach a.job in
    let first = c.bit_at in
    let below = c.run_from in
    let above = c.run_from-2 in
    λ t'.
    let t = subst (λ (n : ℕ). (eqb first.result 1 && ltb (n + 3) below.result && leb (n + 3) above.result) ≡ true) c.reach-reach.ensures t' in
    let u = (and-eq-true_iff (eqb first.result 1 && ltb (f + 3) below.result) (leb (f + 3) above.result)).0 t in
    let v = (and-eq-true_iff (eqb first.result 1) (ltb (f + 3) below.result)).0 u.0 in
    λ valid kept end within.
    pairs_closed a.job a.table.now end valid within kept
    (λ E e large le. subst (λ (n : ℕ). bit (get_or a.table.now n 0) (closed_bit f 0 (low_field f E e).0) ≡ 1) ((rw c.reach-reach.ensures at c.closed_place.ensures))
    (all_below f (get_or a.table.now c.closed_place.result 0) E.0 e.0 below.result large le
    (sym first.ensures ∙ eqb-true first.result 1 v.0) (omega (arith, ltb-true (f + 3) below.result v.1)) below.ensures.1))
    (λ E e large lt. subst (λ (n : ℕ). bit (get_or a.table.now n 0) (closed_bit f 1 (low_field f E e).0) ≡ 1) ((rw c.reach-reach.ensures at c.closed_place-2.ensures))
    (all_over f (get_or a.table.now c.closed_place-2.result 0) e.0 E.0 above.result (omega arith) lt (omega (arith, leb-true (f + 3) above.result u.1)) above.ensures.1))
