-- Two walks, one for each operand, end at the chosen pair: the first fixes a, the second b among the cases with that a. Assumes nothing.
use mathlib.Core.Logic.{inl, inr}
use mathlib.Core.Path.{◌≡◌, refl, subst}
use Prim.Native.Nat.{ℕ}
use native.Mathlib.Omega.{arith}
use Rattle.format.specs.Format.{word_bits}
use Rattle.choice.specs.Choice.{Closest, ClosestPair}
use Rattle.choice.proofs.Closest.{closest_cong}
use Rattle.choice.proofs.Pair.{First, pair_of}
use Rattle.choice.specs.Walk.{Has}
use Rattle.job.specs.declared.Job.{Job}
use Rattle.job.specs.declared.Role.{Role}
use Rattle.job.specs.declared.Role.TheVariants.{A, B}
use Rattle.special.specs.Asked.{field_is}
use Rattle.fit.specs.Fit.{Fits, Fitting}
use Rattle.left.specs.Left.{Ready}
use Rattle.pass.specs.First.{NoneBefore}
use Rattle.search.specs.Walk.{OpenBits, Triple, TripleFits, member_of, WalkEnd}

-- before a walk every bit is open
pub all_open : (j : Job) (role : Role) (width : ℕ) → Ready j → width ≡ word_bits j.setting.format → OpenBits j role width
all_open j role width ready e = record { ready = ready; most = omega arith; fixed = λ i l h. absurd (omega arith) }

-- no pair of exponent fields comes before the first
pub none_first : (j : Job) → NoneBefore j (record { a = field_is 0; b = field_is 0 })
none_first j d e (inl l) P = omega arith
none_first j d e (inr (same, l)) P = omega arith

module _ (j : Job) (r1 r2 : ℕ) (t u : Job) (qa : WalkEnd j A r1 t) (qb : WalkEnd t B r2 u) where
  a_closest : Closest (First (Fitting j)) r1 t.a.mask.value
  a_closest =
      closest_cong (Has Triple (member_of A) (TripleFits j)) (First (Fitting j))
      (λ v p. subst (First (Fitting j)) p.is (p.case.1, (p.case.2, p.fits)))
      (λ v p. record { case = (v, p.0, p.1.0); fits = p.1.1; is = refl })
      r1 t.a.mask.value qa.ends.closest

  b_closest : Closest (Fitting j t.a.mask.value) r2 u.b.mask.value
  b_closest = closest_cong (Has Triple (member_of B) (TripleFits t)) (Fitting j t.a.mask.value) to from r2 u.b.mask.value qb.ends.closest
    where
      to : (v : ℕ) → Has Triple (member_of B) (TripleFits t) v → Fitting j t.a.mask.value v
      to v p =
          let c = p.case in
          let f = (qa.ends.same c).0 p.fits in
          (c.2, subst (λ (b : ℕ). Fits j t.a.mask.value b c.2) p.is (subst (λ (a : ℕ). Fits j a c.1 c.2) f.1 f.0))

      from : (v : ℕ) → Fitting j t.a.mask.value v → Has Triple (member_of B) (TripleFits t) v
      from v p = record { case = (t.a.mask.value, v, p.0); fits = (qa.ends.same (t.a.mask.value, v, p.0)).1 (p.1, refl); is = refl }

  pub walks_choose : ClosestPair (Fitting j) r1 r2 t.a.mask.value u.b.mask.value
  walks_choose = pair_of (Fitting j) r1 r2 t.a.mask.value u.b.mask.value a_closest b_closest
