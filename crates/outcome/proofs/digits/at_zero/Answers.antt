-- `outcome::digits::at_zero` meets its contract: only 0 has no digits, and its word is one word. Assumes nothing.
use mathlib.Core.Path.{◌≡◌, refl, sym, ap, ◌∙◌, subst}
use mathlib.Core.Bool.{Bool, true, false}
use Prim.Native.Nat.{ℕ, ◌+◌, ◌-◌, ◌<◌}
use native.Mathlib.Omega.{arith}
use lib.Pow.{pow_pos, pow_mono}
use Rattle.format.specs.declared.Format.{Format}
use Rattle.format.specs.Format.{Supported}
use Rattle.mask.specs.declared.Mask.{Mask}
use Rattle.mask.specs.Mask.{free_mask}
use Rattle.word.specs.Word.{signed}
use Rattle.word.specs.Parts.{SignedFits}
use Rattle.rounding.specs.declared.Direction.TheVariants.{TowardZero}
use Rattle.rounding.specs.Outcome.{zero_sign}
use Rattle.rounding.proofs.Rounded.{cancelled_lt}
use Rattle.making.specs.declared.Aligned as pair
use Rattle.making.specs.Making.{columns_of, Askable}
use Rattle.making.proofs.Made.{most_digits_bounds, made_lt}
use Rattle.outcome.specs.Question.{OfDigits}
use Rattle.outcome.proofs.Topped.{size_none}
use Rattle.outcome.proofs.Counted.{zero_asked, zero_refused, zero_fixed}
use Rattle.outcome.proofs.digits.at_zero.Goals as goal

-- the word of a zero sum
zero_word : (F : Format) → Supported F → (mode : ℕ) (like : Bool) (s : ℕ) → s < 2 → (z w : ℕ) → z ≡ zero_sign mode like s → (SignedFits F z 0 → w ≡ signed F z 0)
    → w ≡ signed F (zero_sign mode like s) 0
zero_word F ok mode like s hs z w ez ew =
    ew (record { supported = ok; sign_lt = rw ez (zero_lt like); magnitude_lt = pow_pos (F.w + F.f) }) ∙ ap (λ (n : ℕ). signed F n 0) ez
  where
    zero_lt : (b : Bool) → zero_sign mode b s < 2
    zero_lt true = hs
    zero_lt false = cancelled_lt mode

-- the question whether 0 is made, with any part kept
zero_askable : (f : ℕ) (A : pair.Aligned) (x : Mask) → OfDigits (columns_of f A) 0 x → Askable f A TowardZero (0 + A.below - 0) x free_mask
zero_askable f A x none =
    let wide = (most_digits_bounds A.below f A.like).0 in
    record {
      columns = omega (arith, wide);
      care_lt = pow_pos (2 + f);
      value_lt = pow_pos (2 + f);
      leaves = λ n made met.
          omega (arith, (size_none n).0 ((none n (made_lt f A n made)).0 met), pow_mono {i = 0 + A.below - 0} {j = columns_of f A} (omega (arith, wide)));
      toward_zero = λ r. refl;
    }

pub returns-then-target-ne0 : goal.returns-then-target-ne0
returns-then-target-ne0 c = let a = c.args in λ formed unit. zero_fixed a.format a.mode a.sign unit a.aligned a.target c.if-target-ne0.true

pub digits-x-requires : goal.digits-x-requires
digits-x-requires c =
    let room = c.requires.2 in
    (rw (c.columns.ensures room) room.columns, omega arith)

pub returns-then-meets : goal.returns-then-meets
returns-then-meets c =
    let a = c.args in
    let z = c.zero_sign in
    let w = c.signed in
    let m = c.meets in
    let x = c.digits-x in
    let none : OfDigits (columns_of a.format.f a.aligned) 0 x.result = subst (λ (k : ℕ). OfDigits k 0 x.result) (c.columns.ensures c.requires.2) x.ensures in
    λ formed unit. zero_asked a.format a.mode a.sign unit a.aligned a.target w.result x.result c.rounds_at.result c.if-target-ne0.false
    (zero_word a.format c.requires.0 a.mode a.aligned.like a.sign c.requires.1 z.result w.result z.ensures w.ensures.0)
    (sym m.ensures ∙ c.if-meets.true) none
    (c.rounds_at.ensures formed (zero_askable a.format.f a.aligned x.result none))

pub returns : goal.returns
returns c =
    let a = c.args in
    let z = c.zero_sign in
    let w = c.signed in
    λ formed unit. zero_refused a.format a.mode a.sign unit a.aligned a.target w.result
    (zero_word a.format c.requires.0 a.mode a.aligned.like a.sign c.requires.1 z.result w.result z.ensures w.ensures.0)
    (sym c.meets.ensures ∙ c.if-meets.false)
