-- `making::ask::ask_last` meets its contract: the mask of the last kept bit is joined to the number's; where they clash no number
-- meets both. Assumes nothing.
use Rattle.format.specs.declared.cause.Cause.{Cause}
use Rattle.std.specs.Prelude.{Ok, Err}
use mathlib.Core.Logic.{◌↔◌}
use mathlib.Core.Path.{◌≡◌, sym, ap₂, ◌∙◌}
use mathlib.Core.Bool.{Bool, true, false}
use Prim.Native.Nat.{ℕ, ◌*◌, ◌%◌, ◌^◌, ◌<◌}
use native.Mathlib.Omega.{arith}
use lib.Pow.{shl_exact}
use Rattle.bits.specs.Bit.{bit}
use Rattle.bits.proofs.Laws.{one_shl}
use Rattle.mask.specs.declared.Mask.{Mask}
use Rattle.mask.specs.Join.{join}
use Rattle.making.specs.declared.Aligned as pair
use Rattle.making.specs.Making.{Making}
use Rattle.making.specs.Question.{one_bit, Added}
use Rattle.making.proofs.Making.{none_made, making_answer}
use Rattle.making.proofs.Last.{last_joined, last_refused}
use Rattle.making.proofs.ask.ask_last.Goals as goal

-- the mask that the code forms
kept : (j b : ℕ) → j < 64 → b < 2 → (x : Mask) → join x (record { care = (1 * 2 ^ j) % 2 ^ 64; value = (b * 2 ^ j) % 2 ^ 64 }) ≡ join x (one_bit j b)
kept j b l h x = ap₂ (λ (s t : ℕ). join x (record { care = s; value = t })) (one_shl j l) (shl_exact 1 j 64 h (omega arith))

-- the question with the joined mask is the question
module _ (f : ℕ) (A : pair.Aligned) (x z : Mask) (j b constant carry : ℕ) (h : b < 2) where
  met : (m : Mask) → join x (one_bit j b) ≡ Ok m → (r : Bool)
      → ((r ≡ true) ↔ Making f A (Added f A m z constant carry))
      → (r ≡ true) ↔ Making f A (λ (n : ℕ). (bit n j ≡ b) × Added f A x z constant carry n)
  met m e r asks =
      making_answer f A (Added f A m z constant carry) (λ (n : ℕ). (bit n j ≡ b) × Added f A x z constant carry n) r
      (λ n made.
      let p = last_joined j b h x m e n in (
        (λ q. let k = p.0 q.number in (k.1, record { number = k.0; fits = q.fits; sum = q.sum })),
        λ q. record { number = p.1 (q.1.number, q.0); fits = q.1.fits; sum = q.1.sum },
      ))
      asks

  clash : (k : Cause) → join x (one_bit j b) ≡ Err k → (false ≡ true) ↔ Making f A (λ (n : ℕ). (bit n j ≡ b) × Added f A x z constant carry n)
  clash k e =
      none_made f A (λ (n : ℕ). (bit n j ≡ b) × Added f A x z constant carry n)
      (λ m. last_refused j b h x k e m.x m.holds.1.number m.holds.0)

pub ask-requires : goal.ask-requires
ask-requires c = (c.requires.0, c.requires.3)

pub returns-in-Ok : goal.returns-in-Ok
returns-in-Ok c =
    let a = c.args in
    λ formed none. met a.f a.aligned a.x a.z a.j a.last a.constant a.carry c.requires.2 c.in-Ok.m
    (sym (kept a.j a.last c.requires.1 c.requires.2 a.x) ∙ sym c.join.ensures ∙ c.in-Ok.is)
    c.ask.result (c.ask.ensures formed none)

pub returns-in-Err : goal.returns-in-Err
returns-in-Err c =
    let a = c.args in
    λ formed none. clash a.f a.aligned a.x a.z a.j a.last a.constant a.carry c.requires.2 c.in-Err.field-0
    (sym (kept a.j a.last c.requires.1 c.requires.2 a.x) ∙ sym c.join.ensures ∙ c.in-Err.is)
