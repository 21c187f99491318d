-- `answers::open::open_from` meets its contract. Assumes nothing.
use mathlib.Core.Path.{◌≡◌, subst}
use Prim.Native.Nat.{ℕ}
use native.Mathlib.Omega.{arith}
use lib.ListN.{get_or}
use Rattle.bits.specs.Bit.{bit}
use Rattle.classes.specs.Class.{low_field}
use Rattle.answers.specs.Kept.{closed_bit}
use Rattle.answers.proofs.Keeping.{partner_closed}
use Rattle.job.specs.Guards.{reach}
use Rattle.job.proofs.GuardLaws.{reach_most}
use Rattle.answers.proofs.open.open_from.Goals as goal

pub overflow_add-reach : goal.overflow_add-reach
overflow_add-reach c = omega (arith, c.reach-reach.ensures, reach_most c.args.job)

pub closed_place-at-requires : goal.closed_place-at-requires
closed_place-at-requires c = (omega (arith, c.reach-reach.ensures, reach_most c.args.job), omega arith)

pub offset_bounds-table-at : goal.offset_bounds-table-at
offset_bounds-table-at c = omega (arith, (rw c.reach-reach.ensures at c.closed_place-at.ensures), c.reach-reach.ensures, reach_most c.args.job)

pub bounds-table-at : goal.bounds-table-at
bounds-table-at c = omega (arith, (rw c.reach-reach.ensures at c.closed_place-at.ensures), c.reach-reach.ensures, reach_most c.args.job)

pub open_below-requires : goal.open_below-requires
open_below-requires c = (omega (arith, c.reach-reach.ensures, reach_most c.args.job), omega (arith, c.if-larger-reach.false, c.max-larger.ensures, c.if-eb-ea.true), omega (arith, c.if-end-larger.false, c.max-larger.ensures), omega (arith, c.if-eb-ea.true))

pub returns-then-eb-ea : goal.returns-then-eb-ea
returns-then-eb-ea c =
    let a = c.args in (
      (rw c.reach-reach.ensures at c.open_below.ensures).0,
      λ valid end kept d from l.
          let closed = (rw c.reach-reach.ensures at c.open_below.ensures).1 d from l in
          partner_closed a.job a.table.now a.end (record { order = 0; larger = a.ea; smaller = d }) valid end kept (record { order_lt = omega arith; ordered = closed.0 })
          (omega (arith, c.if-larger-reach.false, c.max-larger.ensures, c.if-eb-ea.true, c.reach-reach.ensures)) (omega (arith, c.if-end-larger.false, c.max-larger.ensures, c.if-eb-ea.true))
          (subst (λ (n : ℕ). bit (get_or a.table.now n 0) (closed_bit (reach a.job) 0 (low_field (reach a.job) a.ea d).0) ≡ 1) ((rw c.reach-reach.ensures at c.closed_place-at.ensures)) closed.1),
    )

pub closed_place-at-requires-2 : goal.closed_place-at-requires-2
closed_place-at-requires-2 c = (omega (arith, c.reach-reach.ensures, reach_most c.args.job), omega arith)

pub offset_bounds-table-at-2 : goal.offset_bounds-table-at-2
offset_bounds-table-at-2 c = omega (arith, (rw c.reach-reach.ensures at c.closed_place-at-2.ensures), c.reach-reach.ensures, reach_most c.args.job)

pub bounds-table-at-2 : goal.bounds-table-at-2
bounds-table-at-2 c = omega (arith, (rw c.reach-reach.ensures at c.closed_place-at-2.ensures), c.reach-reach.ensures, reach_most c.args.job)

pub open_above-requires : goal.open_above-requires
open_above-requires c = (omega (arith, c.reach-reach.ensures, reach_most c.args.job), omega (arith, c.if-eb-ea.false), omega (arith, c.if-end-larger.false, c.max-larger.ensures, c.if-eb-ea.false))

pub returns : goal.returns
returns c =
    let a = c.args in (
      (rw c.reach-reach.ensures at c.open_above.ensures).0,
      λ valid end kept d from l.
          let above = (rw c.reach-reach.ensures at c.open_above.ensures) in
          partner_closed a.job a.table.now a.end (record { order = 1; larger = d; smaller = a.ea }) valid end kept (record { order_lt = omega arith; ordered = omega (arith, c.if-eb-ea.false) })
          (omega (arith, c.if-larger-reach.false, c.max-larger.ensures, c.if-eb-ea.false, c.reach-reach.ensures)) (omega (arith, above.1))
          (subst (λ (n : ℕ). bit (get_or a.table.now n 0) (closed_bit (reach a.job) 1 (low_field (reach a.job) d a.ea).0) ≡ 1) ((rw c.reach-reach.ensures at c.closed_place-at-2.ensures)) (above.2 d from l)),
    )
