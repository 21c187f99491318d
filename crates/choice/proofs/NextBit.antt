-- The steps of a bit walk: what one keeps, that it has one end, and where as many steps as there are open bits lead. By the laws of `Walk`.
-- Assumes nothing.
use mathlib.Core.Path.{◌≡◌, refl, sym, ap, ◌∙◌, subst}
use mathlib.Core.Bool.{Bool, true, false}
use mathlib.Core.Logic.{◌⊎◌, inl, inr}
use Prim.Native.Nat.{ℕ, zero, suc, ◌-◌, ◌≤◌, ◌<◌}
use native.Mathlib.Omega.{arith}
use borrow.Author.Tests.{eqb-true, eqb-false}
use Rattle.bits.specs.Bit.{bit}
use Rattle.bits.proofs.Laws.{bit_lt}
use Rattle.steps.specs.Steps.{Leads, Resumes}
use Rattle.steps.proofs.Steps.{leads_resume}
use Rattle.mask.specs.declared.Mask.{Mask}
use Rattle.mask.specs.Mask.{Meets, free, fix}
use Rattle.choice.specs.Walk.{BitWalk, WalkState, FixedFrom, FixedBit, WordBit, OtherBit, NextBit}
use Rattle.choice.proofs.Walk.{Lawful, WalkInvariant, EndsAt, fixed_below, walk_done, walk_formed, walk_top, walk_less, walk_step, other_all, other_left}

-- ---- one step

module _ (W : BitWalk) (word : ℕ) where
  -- the search stands where it stood, or where it found a case
  pub next_at : (s t : WalkState W.At) → NextBit W word s t → (t.at ≡ s.at) ⊎ W.Found t.mask t.at
  next_at s t next = go next.chosen
    where
      go : FixedBit W word s t ⊎ WordBit W word s t ⊎ OtherBit W word s t → (t.at ≡ s.at) ⊎ W.Found t.mask t.at
      go (inl h) = inl h.at
      go (inr (inl f)) = inr f.found
      go (inr (inr r)) = inl r.at

  module _ (n : ℕ) (law : Lawful W n) (s t : WalkState W.At) (next : NextBit W word s t) (o : WalkInvariant W n s.mask s.open_bits) where
    k_lt : suc t.open_bits ≤ n
    k_lt = omega (arith, next.one_less, o.most)

    top : FixedFrom n s.mask (suc t.open_bits)
    top = subst (FixedFrom n s.mask) next.one_less o.top

    other_lt : 1 - bit word t.open_bits < 2
    other_lt = omega arith

    -- a number that meets the mask after a step met it before
    pub next_less : (x : ℕ) → Meets x t.mask → Meets x s.mask
    next_less x met = go next.chosen
      where
        fixed : (v : ℕ) → v < 2 → t.mask ≡ fix s.mask t.open_bits v → Meets x s.mask
        fixed v hv e = walk_less W n law s.mask o.formed t.open_bits k_lt v hv x (subst (Meets x) e met)

        go : FixedBit W word s t ⊎ WordBit W word s t ⊎ OtherBit W word s t → Meets x s.mask
        go (inl h) = subst (Meets x) h.mask met
        go (inr (inl h)) = fixed (bit word t.open_bits) (bit_lt word t.open_bits) h.mask
        go (inr (inr h)) = fixed (1 - bit word t.open_bits) other_lt h.mask

    pub next_invariant : WalkInvariant W n t.mask t.open_bits
    next_invariant = go next.chosen
      where
        fixed : (v : ℕ) → v < 2 → t.mask ≡ fix s.mask t.open_bits v → (c : W.Case) → W.Fits t.mask c → WalkInvariant W n t.mask t.open_bits
        fixed v hv e c f = record {
          formed = rw e (walk_formed W n law s.mask o.formed t.open_bits k_lt v hv);
          most = omega (arith, k_lt);
          top = subst (λ (m : Mask). FixedFrom n m t.open_bits) (sym e) (walk_top W n law s.mask o.formed t.open_bits k_lt v hv top);
          case = c;
          fits = f;
        }

        go : FixedBit W word s t ⊎ WordBit W word s t ⊎ OtherBit W word s t → WalkInvariant W n t.mask t.open_bits
        go (inl h) = subst (λ (m : Mask). WalkInvariant W n m t.open_bits) (sym h.mask) (record {
          formed = o.formed;
          most = omega (arith, k_lt);
          top = fixed_below n s.mask t.open_bits top h.fixed;
          case = o.case;
          fits = o.fits;
        })
        go (inr (inl h)) = fixed (bit word t.open_bits) (bit_lt word t.open_bits) h.mask h.case h.fits
        go (inr (inr h)) =
            let kept = other_left W n law s.mask o.formed t.open_bits k_lt (bit word t.open_bits) (bit_lt word t.open_bits) h.none o.case o.fits in
            fixed (1 - bit word t.open_bits) other_lt h.mask kept.case (subst (λ (m : Mask). W.Fits m kept.case) (sym h.mask) kept.fits)

    -- the walk below ends as the walk from here does
    pub next_end : (m : Mask) → EndsAt W word t.mask m → EndsAt W word s.mask m
    next_end m q = go next.chosen
      where
        go : FixedBit W word s t ⊎ WordBit W word s t ⊎ OtherBit W word s t → EndsAt W word s.mask m
        go (inl h) = subst (λ (m' : Mask). EndsAt W word m' m) h.mask q
        go (inr (inl h)) =
            let v = bit word t.open_bits in
            walk_step W n law s.mask o.formed t.open_bits k_lt v (bit_lt word t.open_bits) top word (inl refl) (subst (λ (m' : Mask). EndsAt W word m' m) h.mask q)
        go (inr (inr h)) =
            let v = bit word t.open_bits in
            walk_step W n law s.mask o.formed t.open_bits k_lt (1 - v) other_lt top word
            (inr (other_all W n law s.mask o.formed t.open_bits k_lt v (bit_lt word t.open_bits) h.none))
            (subst (λ (m' : Mask). EndsAt W word m' m) h.mask q)

  -- where a search finds one place, a step has one end
  module _ (one : (m : Mask) (p q : W.At) → W.Found m p → W.Found m q → p ≡ q) (s t u : WalkState W.At) where
    pub next_one_end : NextBit W word s t → NextBit W word s u → t ≡ u
    next_one_end x y = go x.chosen y.chosen
      where
        position : t.open_bits ≡ u.open_bits
        position = omega (arith, x.one_less, y.one_less)

        same : t.mask ≡ u.mask → t.at ≡ u.at → t ≡ u
        same e f = λ i. record { mask = e i; open_bits = position i; at = f i }

        bits : bit s.mask.care t.open_bits ≡ bit s.mask.care u.open_bits
        bits = ap (bit s.mask.care) position

        tried : fix s.mask t.open_bits (bit word t.open_bits) ≡ fix s.mask u.open_bits (bit word u.open_bits)
        tried = ap (λ (k : ℕ). fix s.mask k (bit word k)) position

        other : fix s.mask t.open_bits (1 - bit word t.open_bits) ≡ fix s.mask u.open_bits (1 - bit word u.open_bits)
        other = ap (λ (k : ℕ). fix s.mask k (1 - bit word k)) position

        go : FixedBit W word s t ⊎ WordBit W word s t ⊎ OtherBit W word s t → FixedBit W word s u ⊎ WordBit W word s u ⊎ OtherBit W word s u → t ≡ u
        go (inl h) (inl g) = same (h.mask ∙ sym g.mask) (h.at ∙ sym g.at)
        go (inl h) (inr (inl g)) = absurd (omega (arith, bits, h.fixed, g.free))
        go (inl h) (inr (inr g)) = absurd (omega (arith, bits, h.fixed, g.free))
        go (inr (inl h)) (inl g) = absurd (omega (arith, bits, h.free, g.fixed))
        go (inr (inl h)) (inr (inl g)) =
            let e : t.mask ≡ u.mask = h.mask ∙ tried ∙ sym g.mask in
            same e (one u.mask t.at u.at (subst (λ (m : Mask). W.Found m t.at) e h.found) g.found)
        go (inr (inl h)) (inr (inr g)) = absurd (g.none h.case (subst (λ (m : Mask). W.Fits m h.case) (h.mask ∙ tried) h.fits))
        go (inr (inr h)) (inl g) = absurd (omega (arith, bits, h.free, g.fixed))
        go (inr (inr h)) (inr (inl g)) = absurd (h.none g.case (subst (λ (m : Mask). W.Fits m g.case) (g.mask ∙ sym tried) g.fits))
        go (inr (inr h)) (inr (inr g)) = same (h.mask ∙ other ∙ sym g.mask) (h.at ∙ sym g.at)

-- ---- one step as a program takes it: the highest open bit, at position open-bits - 1, is first tested for being free

module _ (W : BitWalk) (word : ℕ) (s : WalkState W.At) (some-open : 0 < s.open_bits) {f : Bool} (is : f ≡ free s.mask (s.open_bits - 1)) where
  below : s.open_bits ≡ suc (s.open_bits - 1)
  below = omega arith

  pub next_fixed : f ≡ false → NextBit W word s (record { mask = s.mask; open_bits = s.open_bits - 1; at = s.at })
  next_fixed held =
      let some = eqb-false (bit s.mask.care (s.open_bits - 1)) 0 (sym is ∙ held) in
      record {
        one_less = below;
        chosen = inl (record { fixed = omega (arith, some, bit_lt s.mask.care (s.open_bits - 1)); mask = refl; at = refl });
      }

  module _ (frees : f ≡ true) (v : ℕ) (asked : v ≡ bit word (s.open_bits - 1)) (m : Mask) (tried : m ≡ fix s.mask (s.open_bits - 1) v) where
    none_fixed : bit s.mask.care (s.open_bits - 1) ≡ 0
    none_fixed = eqb-true (bit s.mask.care (s.open_bits - 1)) 0 (sym is ∙ frees)

    by_word : m ≡ fix s.mask (s.open_bits - 1) (bit word (s.open_bits - 1))
    by_word = tried ∙ ap (fix s.mask (s.open_bits - 1)) asked

    -- a case is left
    pub next_word : (c : W.Case) → W.Fits m c → (p : W.At) → W.Found m p
        → NextBit W word s (record { mask = m; open_bits = s.open_bits - 1; at = p })
    next_word c fits p found = record {
      one_less = below;
      chosen = inr (inl (record { free = none_fixed; mask = by_word; case = c; fits = fits; found = found }));
    }

    -- no case is left
    pub next_other : ((c : W.Case) → W.Fits m c → ⊥) → (m' : Mask) → m' ≡ fix s.mask (s.open_bits - 1) (1 - v)
        → NextBit W word s (record { mask = m'; open_bits = s.open_bits - 1; at = s.at })
    next_other none m' other = record {
      one_less = below;
      chosen = inr (inr (record {
        free = none_fixed;
        none = λ c fits. none c (subst (λ (u : Mask). W.Fits u c) (sym by_word) fits);
        mask = other ∙ ap (λ (u : ℕ). fix s.mask (s.open_bits - 1) (1 - u)) asked;
        at = refl;
      }));
    }

-- ---- so many steps, over any kind of state that holds that of a bit walk

module _ (W : BitWalk) (word : ℕ) (S : Type 0) (walk_state : S → WalkState W.At) where
  -- as many as there are open bits end the walk, and a case is left
  pub walk_ends : (n : ℕ) → Lawful W n → (b : ℕ) (s t : S) → Leads S (λ u v. NextBit W word (walk_state u) (walk_state v)) b s t
      → WalkInvariant W n (walk_state s).mask b → (walk_state s).open_bits ≡ b → WalkInvariant W n (walk_state t).mask 0 × EndsAt W word (walk_state s).mask (walk_state t).mask
  unfolding Leads
  walk_ends n law zero s t e o is =
      let m = (walk_state s).mask in
      subst (λ (u : S). WalkInvariant W n (walk_state u).mask 0 × EndsAt W word (walk_state s).mask (walk_state u).mask) (sym e)
      (o, walk_done W n law m o.formed o.top word o.case o.fits)
  walk_ends n law (suc b) s t p o is =
      let u = p.0 in
      let below : (walk_state u).open_bits ≡ b = omega (arith, p.1.one_less) in
      let o' : WalkInvariant W n (walk_state s).mask (walk_state s).open_bits = subst (WalkInvariant W n (walk_state s).mask) (sym is) o in
      let q = walk_ends n law b u t p.2 (subst (WalkInvariant W n (walk_state u).mask) below (next_invariant W word n law (walk_state s) (walk_state u) p.1 o')) below in
      (q.0, next_end W word n law (walk_state s) (walk_state u) p.1 o' (walk_state t).mask q.1)

  -- a walk cut at any position and taken up again ends as the uncut one does, where a search finds one place, and states that hand on the
  -- same are one
  pub bit_walk_resumes : ((m : Mask) (p q : W.At) → W.Found m p → W.Found m q → p ≡ q) → ((s t : S) → walk_state s ≡ walk_state t → s ≡ t)
      → Resumes S (Leads S (λ s t. NextBit W word (walk_state s) (walk_state t)))
  bit_walk_resumes one back =
      leads_resume S (λ s t. NextBit W word (walk_state s) (walk_state t))
      (λ s t u x y. back t u (next_one_end W word one (walk_state s) (walk_state t) (walk_state u) x y))
