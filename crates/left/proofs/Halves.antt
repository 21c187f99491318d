-- What is left of a job: of its narrowed form, and of the two halves into which a free bit cuts that. Assumes nothing.
use mathlib.Core.Bool.{Bool, true, false, true≢false}
use mathlib.Core.Logic.{◌↔◌, inl}
use mathlib.Core.Path.{◌≡◌, refl, sym}
use Prim.Native.Nat.{ℕ, ◌-◌, ◌^◌, ◌≤◌, ◌<◌}
use native.Mathlib.Decide.{ℕ_discrete}
use native.Mathlib.Omega.{arith}
use borrow.Author.Tests.{ltb-true, ltb-false}
use lib.Dec.{ltb}
use Rattle.bits.specs.Bit.{bit}
use Rattle.bits.proofs.Laws.{bit_lt}
use Rattle.job.specs.declared.Job.{Job}
use Rattle.job.specs.declared.Role.{Role}
use Rattle.job.specs.Role.{member}
use Rattle.word.specs.Word.{biased}
use Rattle.word.proofs.Fields.{biased_lt}
use Rattle.pass.specs.declared.Exponents.{Exponents}
use Rattle.pass.specs.First.{FirstPair}
use Rattle.left.specs.declared.halving.Step.TheVariants.{Settled}
use Rattle.left.specs.Left.{Left}
use Rattle.left.specs.Narrower.{Narrower, Keeps, KeepsHalf, StepOf}
use Rattle.left.proofs.Stepping.{settled_fits, fits_unbounded}

-- past the last exponent field of a no case is left
pub past_none : (j : Job) (first : Exponents) → FirstPair j first → 2 ^ j.setting.format.w ≤ first.a.0 → Left j → ⊥
past_none j first is past p =
    is.none (biased j.setting.format p.a) (biased j.setting.format p.b) (inl (omega (arith, biased_lt j.setting.format p.a)))
    (record { a = p.a; b = p.b; c = p.c; fits = fits_unbounded j p.a p.b p.c p.fits; a_exponent = refl; b_exponent = refl })

-- a case that a pair admits is one of a settled job
settled_left : (j : Job) → StepOf 3 j Settled → (first : Exponents) → FirstPair j first → first.a.0 < 2 ^ j.setting.format.w → Left j
settled_left j inside first is within =
    let p = is.admits within in
    record { a = p.a; b = p.b; c = p.c; fits = settled_fits j inside p.a p.b p.c p.fits }

pub narrower_left : (j t : Job) → Narrower j t → Left t → Left j
narrower_left j t n l = record { a = l.a; b = l.b; c = l.c; fits = n.back l.a l.b l.c l.fits }

pub keeps_left : (j t : Job) → Keeps j t → Left j → Left t
keeps_left j t keeps l = record { a = l.a; b = l.b; c = l.c; fits = keeps l.a l.b l.c l.fits }

-- where neither half has a case none is left
halves_none : (j : Job) (role : Role) (k v w : ℕ) → v < 2 → w ≡ 1 - v → (t u : Job) → KeepsHalf j role k v t → KeepsHalf j role k w u
    → (Left t → ⊥) → (Left u → ⊥) → Left j → ⊥
halves_none j role k v w small other t u kt ku nt nu l = go (ℕ_discrete (bit (member role l.a l.b l.c) k) v)
  where
    go : Dec (bit (member role l.a l.b l.c) k ≡ v) → ⊥
    go (yes e) = nt (record { a = l.a; b = l.b; c = l.c; fits = kt l.a l.b l.c l.fits e })
    go (no n) =
        nu (record {
          a = l.a;
          b = l.b;
          c = l.c;
          fits = ku l.a l.b l.c l.fits (omega (arith, n, other, small, bit_lt (member role l.a l.b l.c) k));
        })

-- whether the first pair of a settled job lies within tells whether a case is left
pub left_within : (j t : Job) → Narrower j t → Keeps j t → (first : Exponents) → FirstPair t first → StepOf 3 t Settled → (p : ℕ) → p ≡ 2 ^ t.setting.format.w
    → (ltb first.a.0 p ≡ true) ↔ Left j
left_within j t n keeps first is inside p e = (
  (λ l. let h = ltb-true first.a.0 p l in narrower_left j t n (settled_left t inside first is (omega (arith, h, e)))),
  λ l. go (ltb first.a.0 p) refl l,
)
  where
    go : (r : Bool) → ltb first.a.0 p ≡ r → Left j → r ≡ true
    go true q l = refl
    go false q l = let h = ltb-false first.a.0 p q in absurd (past_none t first is (omega (arith, h, e)) (keeps_left j t keeps l))

-- where the first half has no case, the second tells
pub halves_left : (j : Job) (role : Role) (k v w : ℕ) → v < 2 → w ≡ 1 - v → (t u : Job) → KeepsHalf j role k v t → KeepsHalf j role k w u
    → (Left t → ⊥) → (r : Bool) → (r ≡ true) ↔ Left u → Left j → r ≡ true
halves_left j role k v w small other t u kt ku nt true law l = refl
halves_left j role k v w small other t u kt ku nt false law l =
    absurd (halves_none j role k v w small other t u kt ku nt (λ m. true≢false (sym (law.1 m))) l)
