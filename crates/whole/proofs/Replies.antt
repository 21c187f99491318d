-- What the reply's definition amounts to: a job has one reply; 7 stands exactly where no case fits; and every fitting case is the
-- reply to some three random words. Assumes nothing.
use Rattle.std.specs.Prelude.{Result, Ok, Err}
use Rattle.format.specs.declared.cause.Cause.{Cause}
use mathlib.Core.Path.{◌≡◌, refl, sym, ap, ◌∙◌}
use mathlib.Core.Logic.{◌⊎◌, inl, inr, ◌↔◌}
use Prim.Native.Nat.{ℕ, ◌<◌, ◌≤◌}
use native.Mathlib.Omega.{arith}
use lib.Bits.{bit_xor}
use Rattle.format.specs.declared.cause.Cause.TheVariants as cause
use Rattle.format.specs.Cause.{clear}
use Rattle.format.proofs.Laws.{err_ok, err_same}
use Rattle.choice.proofs.Closest.{farther, farther_both, closest_self}
use Rattle.choice.specs.Walk.{Has}
use Rattle.whole.specs.declared.Masks.{Masks}
use Rattle.whole.specs.declared.Words.{Words}
use Rattle.whole.specs.declared.Job.{Job}
use Rattle.whole.specs.declared.Case.{Case}
use Rattle.whole.specs.declared.Role.{Role}
use Rattle.whole.specs.declared.Role.TheVariants.{X, Y, Z}
use Rattle.whole.specs.Role.{number}
use Rattle.whole.specs.Job.{job_cause}
use Rattle.whole.specs.Fits.{Fits, Left}
use Rattle.whole.specs.Choice.{Chosen}
use Rattle.whole.specs.Reply.{Replied}
use Rattle.whole.proofs.Choosing.{same_case}
use Rattle.whole.proofs.Taken.{job_none}

-- ---- the choice

pub chosen_unique : (n : ℕ) (s : Masks) (w : Words) (c d : Case) → Chosen n s w c → Chosen n s w d → c ≡ d
chosen_unique n s w c d p q =
    farther_both w.x c.x d.x (p.least d q.fits) (q.least c p.fits)
    (λ py qy. farther_both w.y c.y d.y py qy (λ pz qz. farther_both w.z c.z d.z pz qz (λ e f. f)))

-- the numbers of a case, as random words
abbrev pub own : Case → Words
own c = record { x = c.x; y = c.y; z = c.z }

pub chosen_own : (n : ℕ) (s : Masks) (c : Case) → 1 ≤ n → Fits n s c → Chosen n s (own c) c
chosen_own n s c least f = record {
  fits = f;
  least = λ d g.
      farther c.x c.x d.x (near X d g)
      (λ ex. farther c.y c.y d.y (near Y d g) (λ ey. farther c.z c.z d.z (near Z d g) (λ ez. same_case n c d least f.adds g.adds ex ey ez)));
}
  where
    near : (role : Role) (d : Case) → Fits n s d
        → (number role d ≡ number role c) ⊎ (bit_xor (number role c) (number role c) < bit_xor (number role d) (number role c))
    near role d g =
        (closest_self (Has Case (number role) (Fits n s)) (number role c) (record { case = c; fits = f; is = refl })).least (number role d)
        (record { case = d; fits = g; is = refl })

-- ---- the reply

-- a job has one reply
pub reply_unique : (J : Job) (p q : Result Case Cause) → Replied J p → Replied J q → p ≡ q
reply_unique J (Ok c) (Ok d) p q = ap Ok (chosen_unique J.length J.masks J.words c d p.1 q.1)
reply_unique J (Ok c) (Err k) p (inl q) = absurd (err_ok (sym q ∙ p.0))
reply_unique J (Ok c) (Err k) p (inr q) = absurd (q.0.none (record { case = c; fits = p.1.fits }))
reply_unique J (Err k) (Ok c) (inl p) q = absurd (err_ok (sym p ∙ q.0))
reply_unique J (Err k) (Ok c) (inr p) q = absurd (p.0.none (record { case = c; fits = q.1.fits }))
reply_unique J (Err k) (Err l) (inl p) (inl q) = ap Err (err_same (sym p ∙ q))
reply_unique J (Err k) (Err l) (inl p) (inr q) = absurd (err_ok (sym p ∙ q.0.taken))
reply_unique J (Err k) (Err l) (inr p) (inl q) = absurd (err_ok (sym q ∙ p.0.taken))
reply_unique J (Err k) (Err l) (inr p) (inr q) = ap Err (p.1 ∙ sym q.1)

-- of a job that is taken, "none" is the reply exactly where nothing fits
pub none_exactly : (J : Job) (p : Result Case Cause) → job_cause J ≡ clear → Replied J p → (p ≡ Err cause.NoCase) ↔ (Left J.length J.masks → ⊥)
none_exactly J (Ok c) e p = (
  λ q. absurd (let z : ◌≡◌ {A = ℕ} 0 1 = cc in omega arith),
  λ none. absurd (none (record { case = c; fits = p.1.fits })),
)
none_exactly J (Err k) e (inl p) = absurd (err_ok (sym p ∙ e))
none_exactly J (Err k) e (inr p) = (λ q. p.0.none, λ none. ap Err p.1)

-- every fitting case is the reply to some random words
pub every_case : (J : Job) (c : Case) → job_cause J ≡ clear → Fits J.length J.masks c
    → Replied (record { length = J.length; masks = J.masks; words = own c }) (Ok c)
every_case J c e f =
    let t = (job_none J).0 e in
    let J' : Job = record { length = J.length; masks = J.masks; words = own c } in (
      (job_none J').1 (record { least = t.least; most = t.most; formed = t.formed; words = (f.adds.x_lt, f.adds.y_lt, f.adds.z_lt) }),
      chosen_own J.length J.masks c t.least f,
    )
