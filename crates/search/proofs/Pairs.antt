-- The first pair of exponent fields that admits a case is one alone. Assumes nothing.
use mathlib.Core.Logic.{inl, inr}
use mathlib.Core.Path.{◌≡◌}
use Prim.Native.Nat.{◌<◌}
use native.Mathlib.Decide.{dec_lt}
use native.Mathlib.Omega.{arith}
use Rattle.job.specs.declared.Job.{Job}
use Rattle.pass.specs.declared.Exponents.{Exponents}
use Rattle.pass.specs.First.{Before}
use Rattle.search.specs.Walk.{FoundAt}

-- only one pair is the first
pub found_unique : (j : Job) (p q : Exponents) → FoundAt j p → FoundAt j q → p ≡ q
found_unique j p q x y = go (dec_lt p.a.0 q.a.0) (dec_lt q.a.0 p.a.0) (dec_lt p.b.0 q.b.0) (dec_lt q.b.0 p.b.0)
  where
    not_before : (u v : Exponents) → FoundAt j u → FoundAt j v → Before u.a u.b v → ⊥
    not_before u v fu fv h = fv.first.none u.a u.b h (fu.first.admits fu.within)

    same : p.a.0 ≡ q.a.0 → p.b.0 ≡ q.b.0 → p ≡ q
    same e f = λ i. record { a = record { 0 = e i }; b = record { 0 = f i } }

    go : Dec (p.a.0 < q.a.0) → Dec (q.a.0 < p.a.0) → Dec (p.b.0 < q.b.0) → Dec (q.b.0 < p.b.0) → p ≡ q
    go (yes l) _ _ _ = absurd (not_before p q x y (inl l))
    go (no n) (yes l) _ _ = absurd (not_before q p y x (inl l))
    go (no n) (no m) (yes l) _ = absurd (not_before p q x y (inr (omega arith, l)))
    go (no n) (no m) (no k) (yes l) = absurd (not_before q p y x (inr (omega arith, l)))
    go (no n) (no m) (no k) (no l) = same (omega arith) (omega arith)
