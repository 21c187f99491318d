-- Walks of so many steps, and what it means that one can be cut and taken up again (document 02, W-204: "a walk cut at any position, and
-- taken up again from the state left there, ends as the uncut walk does"). Assumes nothing.
use Rattle.std.specs.Prelude.{◌≡◌, ℕ, zero, suc, ◌+◌}

-- n steps, each by `next`, lead from s to t; no step knows the states before it
unfoldable pub Leads : (S : Type 0) → (S → S → Type 0) → ℕ → S → S → Type 0
Leads S next zero s t = t ≡ s
Leads S next (suc n) s t = (u : S) × next s u × Leads S next n u t

-- where `Walk n s t` says that n steps lead from s to t: a walk has one end; one of m + n steps can be cut after m; and taken up again
-- from the state left there it ends as it does uncut
pub record Resumes (S : Type 0) (Walk : ℕ → S → S → Type 0) : Type 0 where
  pub one_end : (n : ℕ) (s t u : S) → Walk n s t → Walk n s u → t ≡ u
  pub cut : (m n : ℕ) (s t : S) → Walk (m + n) s t → (u : S) × Walk m s u × Walk n u t
  pub resumed : (m n : ℕ) (s u t : S) → Walk m s u → Walk n u t → Walk (m + n) s t

-- a walk from s is cut after m steps, at u: a walk can start there, and n steps more end where m + n from s do
pub record CutAt (S : Type 0) (Starts : S → Type 0) (Walk : ℕ → S → S → Type 0) (m : ℕ) (s u : S) : Type 0 where
  pub starts : Starts u
  pub ends : (n : ℕ) (t v : S) → Walk n u t → Walk (m + n) s v → t ≡ v
