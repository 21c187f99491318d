-- Walks of so many steps can be cut anywhere and taken up again: those by a relation, where a step has one end, and those by a function.
-- Assumes nothing.
use mathlib.Core.Path.{◌≡◌, refl, sym, ap, ◌∙◌, subst}
use Prim.Native.Nat.{ℕ, zero, suc, ◌+◌, ◌-◌}
use native.Mathlib.Nat.{zero-add, suc-add}
use native.Mathlib.Omega.{arith}
use Rattle.steps.specs.Steps.{Leads, Resumes, CutAt}

module _ (S : Type 0) (next : S → S → Type 0) where
  leads_resumed : (m n : ℕ) (s u t : S) → Leads S next m s u → Leads S next n u t → Leads S next (m + n) s t
  unfolding Leads
  leads_resumed zero n s u t e q = rw (zero-add n) (subst (λ (v : S). Leads S next n v t) e q)
  leads_resumed (suc m) n s u t p q = rw (suc-add m n) (p.0, p.1, leads_resumed m n p.0 u t p.2 q)

  leads_cut : (m n : ℕ) (s t : S) → Leads S next (m + n) s t → (u : S) × Leads S next m s u × Leads S next n u t
  unfolding Leads
  leads_cut zero n s t p = (s, refl, rw (sym (zero-add n)) p)
  leads_cut (suc m) n s t p =
      let p' : Leads S next (suc (m + n)) s t = subst (λ (k : ℕ). Leads S next k s t) (suc-add m n) p in
      let q = leads_cut m n p'.0 t p'.2 in
      (q.0, (p'.0, p'.1, q.1), q.2)

  -- where a step has one end, so has a walk
  leads_one_end : ((s t u : S) → next s t → next s u → t ≡ u) → (n : ℕ) (s t u : S) → Leads S next n s t → Leads S next n s u → t ≡ u
  unfolding Leads
  leads_one_end one zero s t u p q = p ∙ sym q
  leads_one_end one (suc n) s t u p q =
      leads_one_end one n p.0 t u p.2 (subst (λ (v : S). Leads S next n v u) (one s q.0 p.0 q.1 p.1) q.2)

  pub leads_resume : ((s t u : S) → next s t → next s u → t ≡ u) → Resumes S (Leads S next)
  leads_resume one = record { one_end = leads_one_end one; cut = leads_cut; resumed = leads_resumed }

  -- ---- as a program counts them down

  pub leads_none : (n : ℕ) (s : S) → n ≡ 0 → Leads S next n s s
  unfolding Leads
  leads_none n s e = subst (λ (k : ℕ). Leads S next k s s) (sym e) refl

  pub leads_first : (n : ℕ) (s u t : S) → (n ≡ 0 → ⊥) → next s u → Leads S next (n - 1) u t → Leads S next n s t
  unfolding Leads
  leads_first n s u t some one rest =
      let up : suc (n - 1) ≡ n = omega arith in
      subst (λ (k : ℕ). Leads S next k s t) up (u, one, rest)

-- where n steps lead from s to `after n s`
pub function_resumes : (S : Type 0) (after : ℕ → S → S) → ((m n : ℕ) (s : S) → after (m + n) s ≡ after n (after m s)) → Resumes S (λ n s t. t ≡ after n s)
function_resumes S after append = record {
  one_end = λ n s t u p q. p ∙ sym q;
  cut = λ m n s t p. (after m s, refl, p ∙ append m n s);
  resumed = λ m n s u t p q. q ∙ ap (after n) p ∙ sym (append m n s);
}

-- a walk can be cut after any number of steps, where each leads to a state at which a walk can start
pub leads_cut_at : (S : Type 0) (next : S → S → Type 0) → Resumes S (Leads S next) → (Starts : S → Type 0) → ((s t : S) → Starts s → next s t → Starts t)
    → (m : ℕ) (s u : S) → Starts s → Leads S next m s u → CutAt S Starts (Leads S next) m s u
unfolding Leads
leads_cut_at S next r Starts keeps m s u o p = record {
  starts = kept m s u o p;
  ends = λ n t v q uncut. r.one_end (m + n) s t v (r.resumed m n s u t p q) uncut;
}
  where
    kept : (n : ℕ) (a b : S) → Starts a → Leads S next n a b → Starts b
    kept zero a b h e = subst Starts (sym e) h
    kept (suc n) a b h q = kept n q.0 b (keeps a q.0 h q.1) q.2
