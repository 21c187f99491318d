-- The bit walk, over any kind of case: fixing the highest open bit to the bit of the random word, or to the other where no case would be
-- left, keeps the closest number among what is left. By `narrowed_closest`. Assumes nothing.
use mathlib.Core.Path.{◌≡◌, refl, sym, ◌∙◌, subst}
use mathlib.Core.Logic.{◌⊎◌, inl, inr}
use Prim.Native.Nat.{ℕ, suc, ◌-◌, ◌^◌, ◌≤◌, ◌<◌}
use native.Mathlib.Decide.{ℕ_discrete}
use native.Mathlib.Omega.{arith}
use Rattle.bits.specs.Bit.{bit}
use Rattle.mask.specs.declared.Mask.{Mask}
use Rattle.mask.specs.Mask.{WellFormed, Meets, fix}
use Rattle.mask.proofs.ByBits.{meets_bits, meets_full}
use Rattle.choice.specs.Choice.{AgreeFrom}
use Rattle.choice.proofs.Closest.{agree_from, closest_done}
use Rattle.choice.proofs.Narrow.{Narrowed, narrowed_all, narrowed_none, narrowed_closest}
use Rattle.choice.specs.Walk.{BitWalk, FixedFrom, Has, EndOfWalk}
use Rattle.choice.proofs.Fixing.{fix_cares, fix_keeps, fix_formed, fix_narrows}

-- what a walk asks of its cases: they have numbers of n bits, 64 at most, that meet the mask; and one whose number meets another mask fits
-- with that in its place
pub record Lawful (W : BitWalk) (n : ℕ) : Type 0 where
  pub short : n ≤ 64
  pub small : (m : Mask) (c : W.Case) → W.Fits m c → W.number c < 2 ^ n
  pub meets : (m : Mask) (c : W.Case) → W.Fits m c → Meets (W.number c) m
  pub replaced : (m m' : Mask) (c : W.Case) → W.Fits m c → Meets (W.number c) m' → W.Fits m' c

-- what holds at each state: the mask is well formed, its bits from position b on are fixed, and a case is left
pub record WalkInvariant (W : BitWalk) (n : ℕ) (m : Mask) (b : ℕ) : Type 0 where
  pub formed : WellFormed n m
  pub most : b ≤ n
  pub top : FixedFrom n m b
  pub case : W.Case
  pub fits : W.Fits m case

-- the walk from mask m to mask m' fixes the number to its closest value
abbrev pub EndsAt : BitWalk → ℕ → Mask → Mask → Type 0
EndsAt W word m m' = EndOfWalk W.Case W.number (W.Fits m) word (W.Fits m') m'.value

-- where the bit below those that are fixed is fixed too, one bit less is open
pub fixed_below : (n : ℕ) (m : Mask) (k : ℕ) → FixedFrom n m (suc k) → bit m.care k ≡ 1 → FixedFrom n m k
fixed_below n m k top one i l h = go (ℕ_discrete k i)
  where
    go : Dec (k ≡ i) → bit m.care i ≡ 1
    go (yes e) = subst (λ (u : ℕ). bit m.care u ≡ 1) e one
    go (no ne) = top i (omega arith) h

-- what holds of the number of each case that is left holds of v
has_all : {C : Type 0} {number : C → ℕ} {P : C → Type 0} (A : ℕ → Type 0) → ((c : C) → P c → A (number c)) → (v : ℕ) → Has C number P v → A v
has_all A all v p = subst A p.is (all p.case p.fits)

module _ (W : BitWalk) (n : ℕ) (law : Lawful W n) where
  -- the numbers that are left with a mask
  abbrev NumberLeft : Mask → ℕ → Type 0
  NumberLeft m = Has W.Case W.number (W.Fits m)

  left_meets : (m : Mask) (v : ℕ) → NumberLeft m v → Meets v m
  left_meets m = has_all (λ u. Meets u m) (law.meets m)

  module _ (m : Mask) (formed : WellFormed n m) where
    -- they agree from the lowest fixed bit of the top up
    agree : (b : ℕ) → FixedFrom n m b → AgreeFrom (NumberLeft m) b
    agree b top =
        agree_from (NumberLeft m) n b (has_all (λ u. u < 2 ^ n) (law.small m))
        (λ x y i px py l h. agrees x px i l h ∙ sym (agrees y py i l h))
      where
        agrees : (v : ℕ) → NumberLeft m v → (i : ℕ) → b ≤ i → i < n → bit v i ≡ bit m.value i
        agrees v p i l h = (meets_bits v m formed.inside).0 (left_meets m v p) i (top i l h)

    -- ---- nothing is open

    pub walk_done : FixedFrom n m 0 → (word : ℕ) (c : W.Case) → W.Fits m c → EndsAt W word m m
    walk_done top word c f = record {
      closest = closest_done (NumberLeft m) (agree 0 top) word m.value (record { case = c; fits = f; is = full c f });
      same = λ d. (λ g. (g, full d g), λ g. g.0);
    }
      where
        full : (d : W.Case) → W.Fits m d → W.number d ≡ m.value
        full d g = (meets_full n (W.number d) m formed (λ i h. top i (omega arith) h) (law.small m d g)).0 (law.meets m d g)

    -- ---- bit k is the highest open one, and is fixed to v

    module _ (k : ℕ) (hk : suc k ≤ n) (v : ℕ) (hv : v < 2) where
      k_lt : k < 64
      k_lt = omega (arith, law.short)

      pub walk_formed : WellFormed n (fix m k v)
      walk_formed = fix_formed m k v k_lt hv n formed (omega arith)

      pub walk_top : FixedFrom n m (suc k) → FixedFrom n (fix m k v) k
      walk_top top = fixed_below n (fix m k v) k (λ i l j. fix_keeps m k v k_lt hv i (top i l j)) (fix_cares m k v k_lt hv)

      met : Narrowed (λ x. Meets x m) (λ x. Meets x (fix m k v)) k v
      met = fix_narrows m k v k_lt hv formed.inside

      -- a number that meets the mask with the bit fixed meets the mask
      pub walk_less : (x : ℕ) → Meets x (fix m k v) → Meets x m
      walk_less x h = ((met.same x).0 h).0

      -- fixing more never gains a case
      walk_back : (c : W.Case) → W.Fits (fix m k v) c → W.Fits m c
      walk_back c f = law.replaced (fix m k v) m c f (walk_less (W.number c) (law.meets (fix m k v) c f))

      walk_narrows : Narrowed (NumberLeft m) (NumberLeft (fix m k v)) k v
      walk_narrows = record { is = met.is; same = λ y. (to y, from y); why = why met.why }
        where
          to : (y : ℕ) → NumberLeft (fix m k v) y → NumberLeft m y × (bit y k ≡ met.is)
          to y p = (record { case = p.case; fits = walk_back p.case p.fits; is = p.is }, ((met.same y).0 (left_meets (fix m k v) y p)).1)

          from : (y : ℕ) → NumberLeft m y × (bit y k ≡ met.is) → NumberLeft (fix m k v) y
          from y p =
              let q = p.0 in
              let e = (met.same y).1 (left_meets m y q, p.1) in
              record { case = q.case; fits = law.replaced m (fix m k v) q.case q.fits (subst (λ (u : ℕ). Meets u (fix m k v)) (sym q.is) e); is = q.is }

          why : (met.is ≡ v) ⊎ ((x : ℕ) → Meets x m → bit x k ≡ met.is) → (met.is ≡ v) ⊎ ((y : ℕ) → NumberLeft m y → bit y k ≡ met.is)
          why (inl e) = inl e
          why (inr only) = inr (λ y p. only y (left_meets m y p))

      -- the walk below fixes the number
      pub walk_step : FixedFrom n m (suc k) → (word : ℕ) {m' : Mask} → (v ≡ bit word k) ⊎ ((y : ℕ) → NumberLeft m y → bit y k ≡ v) → EndsAt W word (fix m k v) m' → EndsAt W word m m'
      walk_step top word {m' = m'} asked q = record {
        closest = narrowed_closest (NumberLeft m) (NumberLeft (fix m k v)) k v walk_narrows (agree (suc k) top) word m'.value asked q.closest;
        same = λ c. (
          λ f. let e = (q.same c).0 f in (walk_back c e.0, e.1),
          λ p. (q.same c).1 (law.replaced m (fix m k v) c p.0 (subst (λ (u : ℕ). Meets u (fix m k v)) (sym p.1) (left_meets (fix m k v) m'.value q.closest.member)), p.1),
        );
      }

    -- ---- no case is left with the bit v

    module _ (k : ℕ) (hk : suc k ≤ n) (v : ℕ) (hv : v < 2) (none : (c : W.Case) → W.Fits (fix m k v) c → ⊥) where
      -- every number that is left has the other bit
      pub other_all : (y : ℕ) → NumberLeft m y → bit y k ≡ 1 - v
      other_all = narrowed_none (NumberLeft m) (NumberLeft (fix m k v)) k v (walk_narrows k hk v hv) hv (λ y p. none p.case p.fits)

      -- so a case that was left is left
      pub other_left : (c : W.Case) → W.Fits m c → NumberLeft (fix m k (1 - v)) (W.number c)
      other_left c f =
          narrowed_all (NumberLeft m) (NumberLeft (fix m k (1 - v))) k (1 - v) (walk_narrows k hk (1 - v) (omega arith)) other_all (W.number c) (record { case = c; fits = f; is = refl })
