-- The bit walk over jobs, once over the two roles, by the laws of `choice`. Assumes nothing.
use mathlib.Core.Path.{◌≡◌, refl, sym, ap, ◌∙◌, subst}
use mathlib.Core.Bool.{Bool, true}
use mathlib.Core.Logic.{◌⊎◌, inl, inr}
use Prim.Native.Nat.{ℕ, zero, suc, ◌-◌, ◌^◌, ◌≤◌, ◌<◌}
use native.Mathlib.Omega.{arith}
use Rattle.bits.specs.Bit.{bit}
use Rattle.bits.proofs.Laws.{bit_lt}
use Rattle.format.specs.Format.{Supported, word_bits}
use Rattle.mask.specs.declared.Mask.{Mask}
use Rattle.mask.specs.Mask.{WellFormed, Meets, free, fix}
use Rattle.steps.specs.Steps.{Leads, Resumes, CutAt}
use Rattle.steps.proofs.Steps.{leads_cut_at}
use Rattle.choice.specs.Walk.{FixedFrom, EndOfWalk}
use Rattle.choice.proofs.Walk.{WalkInvariant, walk_formed, walk_less}
use Rattle.choice.proofs.NextBit.{next_at, next_less, next_invariant, next_word, next_other, walk_ends, bit_walk_resumes}
use Rattle.job.specs.declared.Setting.{Setting}
use Rattle.job.specs.declared.Job.{Job}
use Rattle.job.specs.declared.Role.{Role}
use Rattle.job.specs.Job.{Valid}
use Rattle.job.specs.Role.{wanted, with_word_mask}
use Rattle.job.proofs.Roles.{word_mask_own, word_mask_wanted, word_mask_setting}
use Rattle.pass.specs.declared.Exponents.{Exponents}
use Rattle.pass.specs.First.{NoneBefore}
use Rattle.left.specs.First.{FirstLeft}
use Rattle.search.specs.declared.walk.State.{State}
use Rattle.search.specs.Walk.{OpenBits, WalkStart, Triple, TripleFits, member_of, FoundAt, walk_of, walk_state, StartState, NextState, StateRun, WalkEnd}
use Rattle.search.proofs.Pairs.{found_unique}
use Rattle.search.proofs.Roles.{lawful, word_mask_formed, word_mask_valid, none_less}

module _ (j : Job) (role : Role) where
  module _ (s : State) (o : StartState j role s) where
    ok : Supported j.setting.format
    ok = subst (λ (S : Setting). Supported S.format) (word_mask_setting role j s.mask) o.top.ready.valid.setting.format

    -- the state of a walk, as its laws have it
    invariant : WalkInvariant (walk_of j role) (word_bits j.setting.format) s.mask s.open_bits
    invariant =
        let left = o.top.ready.left in
        record {
          formed = word_mask_formed j role s.mask o.top.ready.valid;
          most = omega (arith, o.top.most, ap (λ (S : Setting). word_bits S.format) (word_mask_setting role j s.mask));
          top = subst (λ (S : Setting). FixedFrom (word_bits S.format) s.mask s.open_bits) (word_mask_setting role j s.mask)
              (subst (λ (m : Mask). FixedFrom (word_bits (with_word_mask role j s.mask).setting.format) m s.open_bits) (word_mask_wanted role j s.mask) o.top.fixed);
          case = (left.a, left.b, left.c);
          fits = left.fits;
        }

    -- and back
    opened : (t : State) → WalkInvariant (walk_of j role) (word_bits j.setting.format) t.mask t.open_bits → OpenBits (with_word_mask role j t.mask) role t.open_bits
    opened t w = record {
      ready = record {
        valid = word_mask_valid j role s.mask t.mask o.top.ready.valid w.formed;
        left = record { a = w.case.0; b = w.case.1; c = w.case.2; fits = w.fits };
      };
      most = omega (arith, w.most, ap (λ (S : Setting). word_bits S.format) (word_mask_setting role j t.mask));
      fixed = subst (λ (S : Setting). FixedFrom (word_bits S.format) (wanted role (with_word_mask role j t.mask)).mask t.open_bits) (sym (word_mask_setting role j t.mask))
          (subst (λ (m : Mask). FixedFrom (word_bits j.setting.format) m t.open_bits) (sym (word_mask_wanted role j t.mask)) w.top);
    }

    -- where each word that meets a mask met that of the state, no case has exponent fields that none had
    none_left : (m : Mask) → ((x : ℕ) → Meets x m → Meets x s.mask) → NoneBefore (with_word_mask role j m) s.at
    none_left m less = none_less j role s.mask m less s.at o.none

    -- the highest open bit, which is free, is tried as that of the word
    module _ (some : 0 < s.open_bits) {f : Bool} (test : f ≡ free s.mask (s.open_bits - 1)) (frees : f ≡ true) (word v : ℕ) (e : v ≡ bit word (s.open_bits - 1))
        (m : Mask) (tried : m ≡ fix s.mask (s.open_bits - 1) v) (t : Job) (is : t ≡ with_word_mask role j m) where
      v_lt : v < 2
      v_lt = omega (arith, bit_lt word (s.open_bits - 1))

      k_lt : suc (s.open_bits - 1) ≤ word_bits j.setting.format
      k_lt = omega (arith, invariant.most)

      tried_valid : Valid t
      tried_valid =
          subst Valid (sym is)
          (word_mask_valid j role s.mask m o.top.ready.valid
          (subst (WellFormed (word_bits j.setting.format)) (sym tried) (walk_formed (walk_of j role) (word_bits j.setting.format) (lawful j role ok) s.mask invariant.formed (s.open_bits - 1) k_lt v v_lt)))

      tried_none : NoneBefore t s.at
      tried_none =
          subst (λ (u : Job). NoneBefore u s.at) (sym is)
          (none_left m (λ x g. walk_less (walk_of j role) (word_bits j.setting.format) (lawful j role ok) s.mask invariant.formed (s.open_bits - 1) k_lt v v_lt x
          (subst (Meets x) tried g)))

      -- a search from where it stands ends at p
      module _ (p : Exponents) (ends : Valid t → NoneBefore t s.at → FirstLeft t p) where
        found : FirstLeft (with_word_mask role j m) p
        found = subst (λ (u : Job). FirstLeft u p) is (ends tried_valid tried_none)

        format_same : (with_word_mask role j m).setting.format.w ≡ j.setting.format.w
        format_same = ap (λ (S : Setting). S.format.w) (word_mask_setting role j m)

        pub word_next : p.a.0 < 2 ^ j.setting.format.w → NextState j role word s (record { mask = m; open_bits = s.open_bits - 1; at = p })
        word_next l =
            let within : p.a.0 < 2 ^ (with_word_mask role j m).setting.format.w = rw format_same l in
            let q = found.left within in
            next_word (walk_of j role) word (walk_state s) some test frees v e m tried (q.a, q.b, q.c) q.fits p (record { first = found.first within; within = within })

        pub other_next : 2 ^ j.setting.format.w ≤ p.a.0 → (m' : Mask) → m' ≡ fix s.mask (s.open_bits - 1) (1 - v)
            → NextState j role word s (record { mask = m'; open_bits = s.open_bits - 1; at = s.at })
        other_next l =
            let past : 2 ^ (with_word_mask role j m).setting.format.w ≤ p.a.0 = rw format_same l in
            next_other (walk_of j role) word (walk_state s) some test frees v e m tried
            (λ c g. found.none past (record { a = c.0; b = c.1; c = c.2; fits = g }))

    -- a step leads to a state where a walk can start
    pub next_started : (word : ℕ) (t : State) → NextState j role word s t → StartState j role t
    next_started word t next = record {
      top = opened t (next_invariant (walk_of j role) word (word_bits j.setting.format) (lawful j role ok) (walk_state s) (walk_state t) next invariant);
      none = go (next_at (walk_of j role) word (walk_state s) (walk_state t) next);
    }
      where
        go : (t.at ≡ s.at) ⊎ FoundAt (with_word_mask role j t.mask) t.at → NoneBefore (with_word_mask role j t.mask) t.at
        go (inl same) =
            subst (NoneBefore (with_word_mask role j t.mask)) (sym same)
            (none_left t.mask (next_less (walk_of j role) word (word_bits j.setting.format) (lawful j role ok) (walk_state s) (walk_state t) next invariant))
        go (inr found) = found.first.none

    -- a step asks for no less than the state before it
    steps_less_next : (word : ℕ) (t : State) → NextState j role word s t → (x : ℕ) → Meets x t.mask → Meets x s.mask
    steps_less_next word t next = next_less (walk_of j role) word (word_bits j.setting.format) (lawful j role ok) (walk_state s) (walk_state t) next invariant

  -- nor do many
  steps_less : (word n : ℕ) (s t : State) → StartState j role s → Leads State (NextState j role word) n s t → (x : ℕ) → Meets x t.mask → Meets x s.mask
  unfolding Leads
  steps_less word zero s t o e x met = subst (λ (u : State). Meets x u.mask) e met
  steps_less word (suc n) s t o (u, next, rest) x met =
      steps_less_next s o word u next x (steps_less word n u t (next_started s o word u next) rest x met)

  -- before a walk the state has the word's own mask
  module _ (b : ℕ) (start : Exponents) (o : WalkStart j role b start) (m : Mask) (own : m ≡ (wanted role j).mask) where
    abbrev first : State
    first = record { mask = m; open_bits = b; at = start }

    same_job : with_word_mask role j m ≡ j
    same_job = ap (with_word_mask role j) own ∙ word_mask_own role j

    pub all_started : StartState j role first
    all_started = subst (λ (u : Job). WalkStart u role b start) (sym same_job) o

    -- and after as many steps as there are open bits the word is fixed
    pub steps_follow : (word : ℕ) (last : State) → Leads State (NextState j role word) b first last → (t : Job) → t ≡ with_word_mask role j last.mask → WalkEnd j role word t
    steps_follow word last steps t is =
        let e = walk_ends (walk_of j role) word State walk_state (word_bits j.setting.format) (lawful j role (ok first all_started)) b first last steps (invariant first all_started) refl in
        let ends = subst (λ (u : Job). EndOfWalk Triple (member_of role) (TripleFits u) word (TripleFits (with_word_mask role j last.mask)) last.mask.value) same_job e.1 in
        subst (WalkEnd j role word) (sym is) (record {
          ready = (opened first all_started (record { mask = last.mask; open_bits = 0; at = start }) e.0).ready;
          none = λ n h. none_less j role m last.mask (steps_less word b first last all_started steps) n (subst (λ (u : Job). NoneBefore u n) (sym same_job) h);
          ends = subst (λ (u : Mask). EndOfWalk Triple (member_of role) (TripleFits j) word (TripleFits (with_word_mask role j last.mask)) u.value) (sym (word_mask_wanted role j last.mask)) ends;
        })

  -- a walk can be cut at any position and taken up again
  pub case_walk_resumes : (word : ℕ) → Resumes State (Leads State (NextState j role word))
  case_walk_resumes word =
      bit_walk_resumes (walk_of j role) word State walk_state (λ m. found_unique (with_word_mask role j m)) (λ s t e i. record { mask = (e i).mask; open_bits = (e i).open_bits; at = (e i).at })

  -- so a walk can start at what `follow_bits` replied, and two calls of it end where one for as many bits does
  pub case_walk_cut : (word m : ℕ) (s u : State) → StartState j role s → StateRun j role word m s u → CutAt State (StartState j role) (StateRun j role word) m s u
  case_walk_cut word m s u o p =
      let q = leads_cut_at State (NextState j role word) (case_walk_resumes word) (StartState j role) (λ a b h. next_started a h word b) m s u o (p o) in
      record { starts = q.starts; ends = λ n t v x uncut. q.ends n t v (x q.starts) (uncut o) }
