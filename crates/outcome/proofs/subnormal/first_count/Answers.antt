-- `outcome::subnormal::first_count` meets its contract: 0 is asked about by itself, and then the rest. Assumes nothing.
use mathlib.Core.Path.{◌≡◌, refl, sym, ◌∙◌}
use mathlib.Core.Bool.{false≢true}
use Prim.Native.Nat.{ℕ, zero, suc, ◌≤◌}
use native.Mathlib.Omega.{arith}
use lib.Ieee.{size}
use Rattle.format.specs.declared.Format.{Format}
use Rattle.word.specs.declared.Unit as exponent
use Rattle.making.specs.declared.Aligned as pair
use Rattle.making.specs.Making.{Made}
use Rattle.outcome.specs.declared.Target.{Target}
use Rattle.outcome.specs.declared.subnormal.Known.{Known}
use Rattle.outcome.specs.declared.subnormal.Known.TheVariants.{Found, AtLeast}
use Rattle.outcome.specs.Outcome.{Serves}
use Rattle.outcome.specs.Question.{Tells}
use Rattle.outcome.proofs.subnormal.first_count.Goals as goal

-- where 0 does not serve, what is known of the rest is known of all
with_zero : (F : Format) (mode s : ℕ) (u : exponent.Unit) (A : pair.Aligned) (T : Target)
    → ((x : ℕ) → Made F.f A x → size x ≡ 0 → Serves F mode s u A T x → ⊥)
    → (k : Known) → Tells F mode s u A T 1 k → Tells F mode s u A T 0 k
with_zero F mode s u A T none Found tells = tells
with_zero F mode s u A T none (AtLeast n) tells = λ x made some met. go x made met (size x) refl
  where
    go : (x : ℕ) → Made F.f A x → Serves F mode s u A T x → (d : ℕ) → size x ≡ d → n ≤ size x
    go x made met zero e = absurd (none x made e met)
    go x made met (suc d) e = tells x made (omega arith) met

pub fewest-few-requires : goal.fewest-few-requires
fewest-few-requires c = c.requires.1

pub returns-then-few-ne0 : goal.returns-then-few-ne0
returns-then-few-ne0 c = λ formed valid x made some met. c.fewest-few.ensures x made

pub fits-requires : goal.fits-requires
fits-requires c = (c.requires.0, c.requires.1, c.requires.2, omega arith)

pub returns-then-fits : goal.returns-then-fits
returns-then-fits c = λ formed valid. let p = (c.fits.ensures formed valid).0 c.if-fits.true in record { x = p.x; made = p.made; holds = p.holds.1 }

pub past_zero-requires : goal.past_zero-requires
past_zero-requires c = (c.requires.0, c.requires.1)

pub returns : goal.returns
returns c =
    let a = c.args in
    let r = c.fits in
    λ formed valid. with_zero a.format a.mode a.sign a.unit a.aligned a.target
    (λ x made e met. false≢true (sym c.if-fits.false ∙ (r.ensures formed valid).1 (record { x = x; made = made; holds = (e, met) })))
    c.past_zero.result (c.past_zero.ensures formed)
