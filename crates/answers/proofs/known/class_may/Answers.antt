-- `answers::known::class_may` meets its contract: what is found of the class is kept in its own word, or in that of its order's closed ones.
-- Assumes nothing.
use mathlib.Core.Bool.{true≢false}
use mathlib.Core.Path.{sym, ap₂, ◌∙◌, subst}
use Prim.Native.Nat.{ℕ}
use native.Mathlib.Omega.{arith}
use lib.ListN.{get_or, set}
use borrow.Author.Tests.{not-true, not-false}
use Rattle.bits.specs.Bit.{bit}
use Rattle.bits.proofs.Laws.{one_shl}
use Rattle.answers.specs.Kept.{Refuses, Kept, closed_bit}
use Rattle.answers.proofs.Keeping.{closed_never, kept_set, kept_close, place_lt, bit_le}
use Rattle.job.specs.Guards.{reach}
use Rattle.answers.proofs.known.class_may.Goals as goal

pub closed_bit-bit-requires : goal.closed_bit-bit-requires
closed_bit-bit-requires c = rw c.reach-reach.ensures (omega (arith, c.requires.0), c.requires.1)

pub closed_place-closed-requires : goal.closed_place-closed-requires
closed_place-closed-requires c = rw c.reach-reach.ensures (omega (arith, c.requires.0), c.requires.1.order_lt)

pub offset_bounds-table-closed : goal.offset_bounds-table-closed
offset_bounds-table-closed c = omega (arith, c.requires.0, c.requires.1.order_lt, (rw c.reach-reach.ensures at c.closed_place-closed.ensures))

pub bounds-table-closed : goal.bounds-table-closed
bounds-table-closed c = omega (arith, c.requires.0, c.requires.1.order_lt, (rw c.reach-reach.ensures at c.closed_place-closed.ensures))

pub returns-then-bit_at-eq1 : goal.returns-then-bit_at-eq1
returns-then-bit_at-eq1 c =
    let a = c.args in
    λ p short kept. (
      kept,
      λ e i least met. closed_never a.job a.class p.valid p.wide
          (kept.closed a.class c.requires.1 (sym (ap₂ (λ (n k : ℕ). bit (get_or a.table.now n 0) k) ((rw c.reach-reach.ensures at c.closed_place-closed.ensures)) ((rw c.reach-reach.ensures at c.closed_bit-bit.ensures))) ∙ sym c.bit_at.ensures ∙ c.if-bit_at-eq1.true)) i,
    )

pub returns-then-not-askable : goal.returns-then-not-askable
returns-then-not-askable c = λ p short kept. (kept, λ e. absurd (true≢false e))

pub place_of-at-requires : goal.place_of-at-requires
place_of-at-requires c = rw c.reach-reach.ensures (omega (arith, c.requires.0), c.requires.1)

pub offset_bounds-table-at : goal.offset_bounds-table-at
offset_bounds-table-at c = omega (arith, c.requires.0, (rw c.reach-reach.ensures at c.place_of-at.ensures), place_lt (reach c.args.job) c.args.class c.requires.1)

pub bounds-table-at : goal.bounds-table-at
bounds-table-at c = omega (arith, c.requires.0, (rw c.reach-reach.ensures at c.place_of-at.ensures), place_lt (reach c.args.job) c.args.class c.requires.1)

pub opened-asked-requires : goal.opened-asked-requires
opened-asked-requires c = (c.askable.ensures.0 (not-false c.askable.result c.if-not-askable.false-raw)).0

pub offset_bounds-table-closed-then-not-asked : goal.offset_bounds-table-closed-then-not-asked
offset_bounds-table-closed-then-not-asked c = omega (arith, c.requires.0, c.requires.1.order_lt, (rw c.reach-reach.ensures at c.closed_place-closed.ensures))

pub bounds-table-closed-then-not-asked : goal.bounds-table-closed-then-not-asked
bounds-table-closed-then-not-asked c = omega (arith, c.requires.0, c.requires.1.order_lt, (rw c.reach-reach.ensures at c.closed_place-closed.ensures))

pub overflow_shl-table : goal.overflow_shl-table
overflow_shl-table c = omega (arith, c.requires.0, (rw c.reach-reach.ensures at c.closed_bit-bit.ensures), bit_le (reach c.args.job) c.args.class.order c.args.class.low.0 c.requires.1.low_le)

pub offset_bounds-table-closed-then-not-asked-2 : goal.offset_bounds-table-closed-then-not-asked-2
offset_bounds-table-closed-then-not-asked-2 c = omega (arith, c.requires.0, c.requires.1.order_lt, (rw c.reach-reach.ensures at c.closed_place-closed.ensures))

pub bounds-table-closed-then-not-asked-2 : goal.bounds-table-closed-then-not-asked-2
bounds-table-closed-then-not-asked-2 c = omega (arith, c.requires.0, c.requires.1.order_lt, (rw c.reach-reach.ensures at c.closed_place-closed.ensures))

pub returns-then-not-asked : goal.returns-then-not-asked
returns-then-not-asked c =
    let a = c.args in
    let f = reach a.job in
    let short = bit_le f a.class.order a.class.low.0 c.requires.1.low_le in
    λ p _ kept.
    let known = subst (λ (n : ℕ). Refuses a.job a.class (get_or a.table.now n 0)) (sym ((rw c.reach-reach.ensures at c.place_of-at.ensures))) (kept.answers a.class c.requires.1) in
    let never = (c.opened-asked.ensures p known).1 (not-true c.opened-asked.result.possible c.if-not-asked.true) in (
      rw ((rw c.reach-reach.ensures at c.closed_place-closed.ensures), (rw c.reach-reach.ensures at c.closed_bit-bit.ensures), one_shl (closed_bit f a.class.order a.class.low.0) (omega (arith, c.requires.0, short))) (kept_close a.job a.table.now a.class c.requires.0 c.requires.1 kept never),
      λ e i least met. closed_never a.job a.class p.valid p.wide never i,
    )

pub try_fields-found-requires : goal.try_fields-found-requires
try_fields-found-requires c = let able = c.askable.ensures.0 (not-false c.askable.result c.if-not-askable.false-raw) in (able.0, c.requires.1, able.1)

pub offset_bounds-table-at-2 : goal.offset_bounds-table-at-2
offset_bounds-table-at-2 c = omega (arith, c.requires.0, (rw c.reach-reach.ensures at c.place_of-at.ensures), place_lt (reach c.args.job) c.args.class c.requires.1)

pub bounds-table-at-2 : goal.bounds-table-at-2
bounds-table-at-2 c = omega (arith, c.requires.0, (rw c.reach-reach.ensures at c.place_of-at.ensures), place_lt (reach c.args.job) c.args.class c.requires.1)

pub returns : goal.returns
returns c =
    let a = c.args in
    λ p short kept.
    let known = subst (λ (n : ℕ). Refuses a.job a.class (get_or a.table.now n 0)) (sym ((rw c.reach-reach.ensures at c.place_of-at.ensures))) (kept.answers a.class c.requires.1) in
    let found = c.try_fields-found.ensures p (c.opened-asked.ensures p known).0 in
    (subst (λ (n : ℕ). Kept a.job (set a.table.now n c.try_fields-found.result.refused)) (sym ((rw c.reach-reach.ensures at c.place_of-at.ensures))) (kept_set a.job a.table.now a.class c.requires.0 c.requires.1 kept c.try_fields-found.result.refused found.0), found.1)
