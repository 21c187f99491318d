-- `outcome::digits::rounds_as` meets its contract: where no dropped bit is fixed, the mask of the digits is all that is asked. Assumes nothing.
use mathlib.Core.Path.{◌≡◌, subst}
use mathlib.Core.Logic.{inl}
use Prim.Native.Nat.{ℕ, ◌/◌, ◌%◌, ◌^◌}
use Rattle.mask.specs.Mask.{Meets}
use Rattle.rounding.specs.Outcome.{kept_of}
use Rattle.making.specs.Making.{columns_of}
use Rattle.making.proofs.Making.{making_answer}
use Rattle.making.proofs.Made.{made_lt}
use Rattle.outcome.specs.Question.{Sized, OfDigits}
use Rattle.outcome.proofs.digits.rounds_as.Goals as goal

pub some_way-requires : goal.some_way-requires
some_way-requires c = c.requires

pub returns-then-fixed-ne0 : goal.returns-then-fixed-ne0
returns-then-fixed-ne0 c = c.some_way.ensures

pub digits-x-requires : goal.digits-x-requires
digits-x-requires c =
    rw (c.columns.ensures c.requires.0) (c.requires.0.columns, c.requires.3)

pub rounds_to-requires : goal.rounds_to-requires
rounds_to-requires c =
    let a = c.args in
    let n = c.columns in
    let x = c.digits-x in
    let of : OfDigits (columns_of a.format.f a.aligned) a.count x.result = subst (λ (k : ℕ). OfDigits k a.count x.result) (n.ensures c.requires.0) x.ensures in
    (c.requires.0, c.requires.1, c.requires.2, c.requires.3, c.requires.4, c.requires.5, c.requires.6, c.requires.7, λ k lt met. (of k lt).0 met)

pub returns : goal.returns
returns c =
    let a = c.args in
    let n = c.columns in
    let x = c.digits-x in
    let of : OfDigits (columns_of a.format.f a.aligned) a.count x.result = subst (λ (k : ℕ). OfDigits k a.count x.result) (n.ensures c.requires.0) x.ensures in
    let free = c.if-fixed-ne0.false in
    λ formed valid. making_answer a.format.f a.aligned
    (λ (n : ℕ). Meets n x.result × (kept_of a.aligned.below a.format.f a.direction n a.unit / 2 ^ a.format.f ≡ a.quotient) × Meets (kept_of a.aligned.below a.format.f a.direction n a.unit % 2 ^ a.format.f) a.fraction)
    (λ (n : ℕ). Sized a.format a.aligned.below a.unit a.dropped a.count n × (kept_of a.aligned.below a.format.f a.direction n a.unit / 2 ^ a.format.f ≡ a.quotient) × Meets (kept_of a.aligned.below a.format.f a.direction n a.unit % 2 ^ a.format.f) a.fraction)
    c.rounds_to.result
    (λ n made.
    let g = of n (made_lt a.format.f a.aligned n made) in (
      (λ p. ((g.0 p.0, inl free), p.1, p.2)),
      λ p. (g.1 p.0.0, p.1, p.2),
    ))
    (c.rounds_to.ensures formed)
