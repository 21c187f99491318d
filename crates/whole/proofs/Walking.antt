-- The bit walk over whole-number masks, once over the three roles, by the laws of `choice`. Assumes nothing.
use mathlib.Core.Path.{◌≡◌, refl, sym, ap, ◌∙◌, subst}
use Prim.Native.Nat.{ℕ, ◌-◌, ◌≤◌, ◌<◌}
use native.Mathlib.Omega.{arith}
use Rattle.format.specs.Limits.{most_length}
use Rattle.mask.specs.declared.Mask.{Mask}
use Rattle.mask.specs.Mask.{WellFormed, Meets, fix}
use Rattle.steps.specs.Steps.{Leads, Resumes, CutAt}
use Rattle.steps.proofs.Steps.{leads_cut_at}
use Rattle.choice.specs.Walk.{FixedFrom, EndOfWalk}
use Rattle.choice.proofs.Walk.{Lawful, WalkInvariant, walk_formed}
use Rattle.choice.proofs.NextBit.{next_invariant, walk_ends, bit_walk_resumes}
use Rattle.whole.specs.declared.Masks.{Masks}
use Rattle.whole.specs.declared.Case.{Case}
use Rattle.whole.specs.declared.Role.{Role}
use Rattle.whole.specs.declared.walk.State.{State}
use Rattle.whole.specs.Role.{number, mask_of, with_mask}
use Rattle.whole.specs.Job.{Formed}
use Rattle.whole.specs.Fits.{Fits}
use Rattle.whole.specs.Walk.{OpenBits, walk_of, walk_state, OpenState, NextState, WalkEnd}
use Rattle.whole.proofs.Roles.{mask_with, with_same, with_own, formed_own, formed_with, number_lt, fits_own, fits_with}

module _ (n : ℕ) (s : Masks) (role : Role) where
  lawful : n ≤ most_length → Lawful (walk_of n s role) n
  lawful most = record {
    short = omega arith;
    small = λ m c. number_lt n (with_mask role s m) c role;
    meets = λ m c f. subst (Meets (number role c)) (mask_with role s m) (fits_own n (with_mask role s m) c role f);
    replaced = λ m m' c f e. subst (λ (u : Masks). Fits n u c) (with_same role s m m') (fits_with n (with_mask role s m) c role m' f e);
  }

  -- the state of a walk, as its laws have it
  invariant : (st : State) → OpenState n s role st → WalkInvariant (walk_of n s role) n st.mask st.open_bits
  invariant st o = record {
    formed = subst (WellFormed n) (mask_with role s st.mask) (formed_own n (with_mask role s st.mask) role o.ready.formed);
    most = o.most;
    top = subst (λ (m : Mask). FixedFrom n m st.open_bits) (mask_with role s st.mask) o.fixed;
    case = o.ready.left.case;
    fits = o.ready.left.fits;
  }

  -- and back
  opened : (first : State) → OpenState n s role first → (st : State) → WalkInvariant (walk_of n s role) n st.mask st.open_bits → OpenState n s role st
  opened first o st w = record {
    ready = record {
      least = o.ready.least;
      most = o.ready.most;
      formed = subst (Formed n) (with_same role s first.mask st.mask) (formed_with n (with_mask role s first.mask) role st.mask o.ready.formed w.formed);
      left = record { case = w.case; fits = w.fits };
    };
    most = w.most;
    fixed = subst (λ (m : Mask). FixedFrom n m st.open_bits) (sym (mask_with role s st.mask)) w.top;
  }

  -- the masks with the highest open bit tried as v are well formed
  pub tried_formed : (st : State) → OpenState n s role st → 0 < st.open_bits → (v : ℕ) → v < 2 → (m : Mask) → m ≡ fix st.mask (st.open_bits - 1) v
      → (t : Masks) → t ≡ with_mask role s m → Formed n t
  tried_formed st o some v hv m fixed t is =
      let w = invariant st o in
      let formed = walk_formed (walk_of n s role) n (lawful o.ready.most) st.mask w.formed (st.open_bits - 1) (omega (arith, o.most)) v hv in
      subst (Formed n) (sym is)
      (subst (Formed n) (with_same role s st.mask m) (formed_with n (with_mask role s st.mask) role m o.ready.formed (subst (WellFormed n) (sym fixed) formed)))

  pub next_open : (word : ℕ) (st next : State) → OpenState n s role st → NextState n s role word st next → OpenState n s role next
  next_open word st next o step =
      opened st o next (next_invariant (walk_of n s role) word n (lawful o.ready.most) (walk_state st) (walk_state next) step (invariant st o))

  -- before a walk the state has the number's own mask
  module _ (b : ℕ) (o : OpenBits n s role b) (m : Mask) (own : m ≡ mask_of role s) where
    abbrev first : State
    first = record { mask = m; open_bits = b }

    same_masks : with_mask role s m ≡ s
    same_masks = ap (with_mask role s) own ∙ with_own role s

    pub all_open : OpenState n s role first
    all_open = subst (λ (u : Masks). OpenBits n u role b) (sym same_masks) o

    -- and after as many steps as there are open bits the number is fixed
    pub steps_follow : (word : ℕ) (last : State) → Leads State (NextState n s role word) b first last → (t : Masks) → t ≡ with_mask role s last.mask → WalkEnd n s role word t
    steps_follow word last steps t is =
        let e = walk_ends (walk_of n s role) word State walk_state n (lawful o.ready.most) b first last steps (invariant first all_open) refl in
        let ends = subst (λ (u : Masks). EndOfWalk Case (number role) (Fits n u) word (Fits n (with_mask role s last.mask)) last.mask.value) same_masks e.1 in
        subst (WalkEnd n s role word) (sym is) (record {
          ready = (opened first all_open (record { mask = last.mask; open_bits = 0 }) e.0).ready;
          ends = subst (λ (u : Mask). EndOfWalk Case (number role) (Fits n s) word (Fits n (with_mask role s last.mask)) u.value) (sym (mask_with role s last.mask)) ends;
        })

  -- a walk can be cut at any position and taken up again
  pub whole_walk_resumes : (word : ℕ) → Resumes State (Leads State (NextState n s role word))
  whole_walk_resumes word =
      bit_walk_resumes (walk_of n s role) word State walk_state (λ m p q x y. refl) (λ st next e i. record { mask = (e i).mask; open_bits = (e i).open_bits })

  -- so a walk can start at what `follow_bits` replied, and two calls of it end where one for as many bits does
  pub whole_walk_cut : (word m : ℕ) (st u : State) → OpenState n s role st → Leads State (NextState n s role word) m st u
      → CutAt State (OpenState n s role) (Leads State (NextState n s role word)) m st u
  whole_walk_cut word = leads_cut_at State (NextState n s role word) (whole_walk_resumes word) (OpenState n s role) (next_open word)
