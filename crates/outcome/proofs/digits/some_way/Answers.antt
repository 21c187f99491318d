-- `outcome::digits::some_way` meets its contract. The invariant: no way that was passed has an answer. Assumes nothing.
use mathlib.Core.Path.{refl, sym, ◌∙◌, subst}
use mathlib.Core.Bool.{false≢true}
use mathlib.Core.Logic.{◌↔◌}
use Prim.Native.Nat.{ℕ, ◌+◌, ◌-◌, ◌<◌}
use native.Mathlib.Omega.{arith}
use Rattle.std.proofs.Common.{below_more}
use Rattle.format.specs.declared.Format.{Format}
use Rattle.mask.specs.declared.Mask.{Mask}
use Rattle.mask.specs.Mask.{Meets}
use Rattle.job.specs.declared.Dropped.{Dropped}
use Rattle.job.specs.Dropped.{ValidDropped}
use Rattle.word.specs.declared.Unit as exponent
use Rattle.making.specs.declared.Aligned as pair
use Rattle.making.specs.Making.{Made, columns_of}
use Rattle.making.proofs.Made.{made_lt, aligned_lt}
use Rattle.outcome.specs.Question.{OnlyDigits}
use Rattle.outcome.specs.Ways.{OfWay}
use Rattle.outcome.proofs.Ways.{ways_at_of}
use Rattle.outcome.proofs.Counted.{InOne, in_one_sized, sized_in_one}
use Rattle.outcome.proofs.digits.some_way.Invariants.{Keeps}
use Rattle.outcome.proofs.digits.some_way.Goals as goal

-- the numbers of a way, by its mask
by_mask : (F : Format) (u : exponent.Unit) (A : pair.Aligned) (D : Dropped) (valid : ValidDropped D) (count : ℕ) (some : 0 < count) (Q : ℕ → Type 0)
    (t : ℕ) (x : Mask) → OfWay (columns_of F.f A) count D (count - (F.f + 1)) t x → (n : ℕ) → Made F.f A n
    → InOne F A.below u D valid count some Q t n ↔ (Meets n x × Q n)
by_mask F u A D valid count some Q t x of n made =
    let g = of n (made_lt F.f A n made) in
    ((λ p. (g.1 (p.digits, p.in_way), p.holds)), λ p. let w = g.0 p.0 in record { digits = w.0; in_way = w.1; holds = p.1 })

pub ways_at-ways-requires : goal.ways_at-ways-requires
ways_at-ways-requires c =
    let a = c.args in
    (aligned_lt a.format.f a.aligned c.requires.0, c.requires.8, c.requires.1, omega (arith, c.requires.3, c.requires.0.columns))

pub numbers-x-requires : goal.numbers-x-requires
numbers-x-requires c =
    let a = c.args in
    let n = c.columns-last.ensures c.requires.0 in (
      rw n c.requires.0.columns,
      omega (arith, aligned_lt a.format.f a.aligned c.requires.0),
      c.requires.8,
      rw n c.requires.3,
      λ fixed. ways_at_of a.format a.aligned.below a.unit a.dropped a.count c.loop-way.way fixed (rw (← c.ways_at-ways.ensures) c.loop-way-test.true),
    )

pub rounds_to-requires : goal.rounds_to-requires
rounds_to-requires c =
    let a = c.args in
    let n = c.columns-last in
    (c.requires.0, c.requires.1, c.requires.2, c.requires.3, c.requires.4, c.requires.5, c.requires.6, c.requires.7, subst (λ (k : ℕ). OnlyDigits k a.count c.numbers-x.result) (n.ensures c.requires.0) c.numbers-x.ensures.only)

pub returns-then-rounds_to : goal.returns-then-rounds_to
returns-then-rounds_to c =
    let a = c.args in
    let n = c.columns-last in
    let x = c.numbers-x in
    let t = c.loop-way.way in
    λ formed valid. (
      (λ z.
          let of : OfWay (columns_of a.format.f a.aligned) a.count a.dropped (a.count - (a.format.f + 1)) t x.result = subst (λ (k : ℕ). OfWay k a.count a.dropped (a.count - (a.format.f + 1)) t x.result) (n.ensures c.requires.0) (x.ensures.exact valid) in
          let m = (c.rounds_to.ensures formed).0 c.if-rounds_to.true in
          let p = (by_mask a.format a.unit a.aligned a.dropped valid a.count c.requires.2 (Keeps a.format a.direction a.unit a.aligned a.quotient a.fraction) t x.result of m.x m.made).1 (m.holds.0, (m.holds.1, m.holds.2)) in
          let q = in_one_sized a.format a.aligned.below a.unit a.dropped valid a.count c.requires.2 (Keeps a.format a.direction a.unit a.aligned a.quotient a.fraction) t m.x (rw (← c.ways_at-ways.ensures) c.loop-way-test.true) p in
          record { x = m.x; made = m.made; holds = (q.0, q.1.0, q.1.1) }),
      λ m. refl,
    )

pub loop-way-preserved : goal.loop-way-preserved
loop-way-preserved c =
    let a = c.args in
    let n = c.columns-last in
    let x = c.numbers-x in
    let w = c.loop-way.way in
    below_more _ _ c.loop-way.invariant
    (λ formed valid some m.
    let of : OfWay (columns_of a.format.f a.aligned) a.count a.dropped (a.count - (a.format.f + 1)) w x.result = subst (λ (k : ℕ). OfWay k a.count a.dropped (a.count - (a.format.f + 1)) w x.result) (n.ensures c.requires.0) (x.ensures.exact valid) in
    let p = (by_mask a.format a.unit a.aligned a.dropped valid a.count some (Keeps a.format a.direction a.unit a.aligned a.quotient a.fraction) w x.result of m.x m.made).0 m.holds in
    false≢true (sym c.if-rounds_to.false ∙ (c.rounds_to.ensures formed).1 (record { x = m.x; made = m.made; holds = (p.0, p.1.0, p.1.1) })))

pub returns : goal.returns
returns c =
    let a = c.args in
    λ formed valid. (
      (λ t. absurd (false≢true t)),
      λ m.
          let w = sized_in_one a.format a.aligned.below a.unit a.dropped valid a.count c.requires.2 (Keeps a.format a.direction a.unit a.aligned a.quotient a.fraction) m.x m.holds.0 (m.holds.1, m.holds.2) in
          absurd (c.loop-way.invariant w.0 (omega (arith, w.1, c.ways_at-ways.ensures, c.loop-way-test.false)) formed valid c.requires.2 (record { x = m.x; made = m.made; holds = w.2 })),
    )
