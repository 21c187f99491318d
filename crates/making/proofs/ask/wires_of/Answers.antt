-- `making::ask::wires_of` meets its contract; where the row is reversed nothing is added, so both masks are those of one number.
-- Assumes nothing.
use mathlib.Core.Logic.{◌↔◌}
use mathlib.Core.Path.{◌≡◌, sym, subst}
use Prim.Native.Nat.{ℕ, ◌+◌, ◌^◌, ◌<◌}
use native.Mathlib.Omega.{arith}
use Rattle.mask.specs.declared.Mask.{Mask}
use Rattle.mask.specs.Mask.{Meets}
use Rattle.making.specs.declared.Aligned as pair
use Rattle.making.specs.Making.{Making, columns_of}
use Rattle.making.specs.Question.{Added}
use Rattle.making.proofs.Made.{made_lt}
use Rattle.making.proofs.Making.{making_map}
use Rattle.making.proofs.Asked.{asked}
use Rattle.making.proofs.ask.wires_of.Goals as goal

module _ (f : ℕ) (A : pair.Aligned) (x z m : Mask) (constant carry : ℕ) (none : constant + carry ≡ 0) (both : (n : ℕ) → Meets n m ↔ (Meets n x × Meets n z)) where
  same : (n : ℕ) → n ≡ n + constant + carry
  same n = omega (arith, none)

  apart : Making f A (λ (n : ℕ). Meets n m) → Making f A (Added f A x z constant carry)
  apart p = record {
    x = p.x;
    made = p.made;
    holds = record {
      number = ((both p.x).0 p.holds).0;
      fits = subst (λ (k : ℕ). k < 2 ^ columns_of f A) (same p.x) (made_lt f A p.x p.made);
      sum = subst (λ (k : ℕ). Meets k z) (same p.x) ((both p.x).0 p.holds).1;
    };
  }

  together : Making f A (Added f A x z constant carry) → Making f A (λ (n : ℕ). Meets n m)
  together =
      making_map f A (Added f A x z constant carry) (λ (n : ℕ). Meets n m)
      (λ n p. (both n).1 (p.number, subst (λ (k : ℕ). Meets k z) (sym (same n)) p.sum))

pub reversed_wires-requires : goal.reversed_wires-requires
reversed_wires-requires c = c.requires.0

pub returns-then-aligned : goal.returns-then-aligned
returns-then-aligned c =
    let a = c.args in
    let reversed = c.if-aligned.true in
    let m = c.both in
    λ f formed given.
    let none = given reversed in
    let w = c.reversed_wires.ensures f reversed formed in
    (λ e. apart f a.aligned a.x a.z m.result a.constant a.carry none m.ensures (w.0 e), λ p. w.1 (together f a.aligned a.x a.z m.result a.constant a.carry none m.ensures p))

pub overflow_add-aligned : goal.overflow_add-aligned
overflow_add-aligned c = omega (arith, c.requires.0)

pub raised-carries-requires : goal.raised-carries-requires
raised-carries-requires c = omega (arith, c.requires.0)

pub returns : goal.returns
returns c =
    let a = c.args in
    let k = c.raised-carries in
    λ f formed none. asked f a.aligned k.result a.x a.z a.constant a.carry c.requires.1 k.ensures c.if-aligned.false formed
