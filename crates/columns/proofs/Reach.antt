-- Reachable sets, for any step: a state is in the i-th set exactly where two numbers of i bits drive the machine to it. By induction on
-- the columns; a run reads only the bits of the columns passed. Assumes nothing.
use mathlib.Core.Path.{◌≡◌, refl, sym, ap, ap₂, ◌∙◌, subst}
use mathlib.Core.Bool.{Bool, true, ◌&&◌, and-eq-true_iff}
use Prim.Native.Nat.{ℕ, zero, suc, ◌+◌, ◌*◌, ◌/◌, ◌%◌, ◌^◌, ◌<◌}
use native.Mathlib.Nat.{mod-lt, le_refl, le_trans, le-suc, add-zero, add-suc}
use borrow.Author.Tests.{eqb-true, eq-eqb}
use lib.Dec.{eqb}
use lib.Pow.{pow_pos}
use Rattle.bits.specs.Bit.{bit}
use Rattle.bits.proofs.Laws.{bit_lt, bit_mod, bit_shr, top_bit_lem, low_bit, more_lt}
use Rattle.columns.specs.Machine.{some, run, into, sets, Reached}
use Rattle.columns.proofs.Some.{some_sound, some_complete, some_cong}

module _ (step : ℕ → ℕ → ℕ → ℕ → ℕ) where
  -- ---- runs

  -- a run of i columns goes by the low i bits
  pub run_bits : (s i L L' R R' : ℕ) → ((j : ℕ) → j < i → bit L j ≡ bit L' j) → ((j : ℕ) → j < i → bit R j ≡ bit R' j)
      → run step s i L R ≡ run step s i L' R'
  unfolding run
  run_bits s zero L L' R R' p q = refl
  run_bits s (suc i) L L' R R' p q =
      let old = run_bits s i L L' R R' (λ j h. p j (le_trans h (le-suc i))) (λ j h. q j (le_trans h (le-suc i))) in
      ap₂ (λ (a b : ℕ). step i a b (bit R i)) old (p i (le_refl (suc i)))
      ∙ ap (λ (b : ℕ). step i (run step s i L' R') (bit L' i) b) (q i (le_refl (suc i)))

  pub run_mod : (s i L R : ℕ) → run step s i (L % 2 ^ i) (R % 2 ^ i) ≡ run step s i L R
  run_mod s i L R = run_bits s i (L % 2 ^ i) L (R % 2 ^ i) R (λ j h. bit_mod L j i h) (λ j h. bit_mod R j i h)

  -- one column more, at the bits l and r
  pub run_more : (s i L R l r : ℕ) → L < 2 ^ i → R < 2 ^ i → l < 2 → r < 2
      → run step s (suc i) (l * 2 ^ i + L) (r * 2 ^ i + R) ≡ step i (run step s i L R) l r
  unfolding run
  run_more s i L R l r hL hR hl hr =
      rw (top_bit_lem l L i hl hL, top_bit_lem r R i hr hR)
      (ap (λ (a : ℕ). step i a l r) (run_bits s i (l * 2 ^ i + L) L (r * 2 ^ i + R) R (low_bit l L i hl hL) (low_bit r R i hr hR)))

  -- a run of i + j columns is one of i, and then one of j from the state left there
  pub run_append : (s i j L R : ℕ) → run step s (i + j) L R ≡ run (λ k. step (i + k)) (run step s i L R) j (L / 2 ^ i) (R / 2 ^ i)
  unfolding run
  run_append s i zero L R = ap (λ (k : ℕ). run step s k L R) (add-zero i)
  run_append s i (suc j) L R =
      ap (λ (k : ℕ). run step s k L R) (add-suc i j)
      ∙ ap (λ (a : ℕ). step (i + j) a (bit L (i + j)) (bit R (i + j))) (run_append s i j L R)
      ∙ ap₂ (λ (l r : ℕ). step (i + j) (run (λ k. step (i + k)) (run step s i L R) j (L / 2 ^ i) (R / 2 ^ i)) l r)
      (sym (bit_shr L i j))
      (sym (bit_shr R i j))

  -- ---- sets

  module _ (S : ℕ) where
    -- the sets go by the values of `init` below S
    pub sets_cong : (init init' : ℕ → Bool) → ((s : ℕ) → s < S → init s ≡ init' s) → (i t : ℕ) → t < S
        → sets step S init i t ≡ sets step S init' i t
    unfolding sets
    sets_cong init init' same zero t h = same t h
    sets_cong init init' same (suc i) t h =
        some_cong S (λ s. sets step S init i s && into step i s t) (λ s. sets step S init' i s && into step i s t)
        (λ s l. ap (λ (b : Bool). b && into step i s t) (sets_cong init init' same i s l))

    -- a walk of i + j columns is one of i, and then one of j from the set left there
    pub sets_append : (init : ℕ → Bool) (i j t : ℕ) → sets step S init (i + j) t ≡ sets (λ k. step (i + k)) S (sets step S init i) j t
    unfolding sets into
    sets_append init i zero t = ap (λ (k : ℕ). sets step S init k t) (add-zero i)
    sets_append init i (suc j) t =
        ap (λ (k : ℕ). sets step S init k t) (add-suc i j)
        ∙ some_cong S (λ s. sets step S init (i + j) s && into step (i + j) s t)
        (λ s. sets (λ k. step (i + k)) S (sets step S init i) j s && into step (i + j) s t)
        (λ s l. ap (λ (b : Bool). b && into step (i + j) s t) (sets_append init i j s))

    module _ (init : ℕ → Bool) where
      pub reach_sound : (i t : ℕ) → t < S → sets step S init i t ≡ true → Reached step S init i t
      unfolding run into sets
      reach_sound zero t h e =
          record { from = t; L = 0; R = 0; from_lt = h; from_in = e; L-lt = pow_pos 0; R-lt = pow_pos 0; ends = refl }
      reach_sound (suc i) t h e =
          let w = some_sound S (λ s. sets step S init i s && into step i s t) e in
          let b = (and-eq-true_iff (sets step S init i w.0) (into step i w.0 t)).0 w.2 in
          let u = reach_sound i w.0 w.1 b.0 in
          let p = some_sound 2 (λ l. some 2 (λ r. eqb (step i w.0 l r) t)) b.1 in
          let q = some_sound 2 (λ r. eqb (step i w.0 p.0 r) t) p.2 in
          record {
            from = u.from;
            L = p.0 * 2 ^ i + u.L;
            R = q.0 * 2 ^ i + u.R;
            from_lt = u.from_lt;
            from_in = u.from_in;
            L-lt = more_lt p.0 u.L i p.1 u.L-lt;
            R-lt = more_lt q.0 u.R i q.1 u.R-lt;
            ends =
                run_more u.from i u.L u.R p.0 q.0 u.L-lt u.R-lt p.1 q.1
                ∙ ap (λ (a : ℕ). step i a p.0 q.0) u.ends
                ∙ eqb-true (step i w.0 p.0 q.0) t q.2;
          }

      -- from a dead state only dead ones are reached
      pub reach_complete : ((i s l r : ℕ) → step i s l r < S → s < S) → (i t : ℕ) → t < S → Reached step S init i t → sets step S init i t ≡ true
      unfolding run into sets
      reach_complete live zero t h u = subst (λ (s : ℕ). init s ≡ true) u.ends u.from_in
      reach_complete live (suc i) t h u =
          let s = run step u.from i u.L u.R in
          let l = bit u.L i in
          let r = bit u.R i in
          let hs : s < S = live i s l r (subst (λ (k : ℕ). k < S) (sym u.ends) h) in
          let old : Reached step S init i s = record {
            from = u.from;
            L = u.L % 2 ^ i;
            R = u.R % 2 ^ i;
            from_lt = u.from_lt;
            from_in = u.from_in;
            L-lt = mod-lt u.L (pow_pos i);
            R-lt = mod-lt u.R (pow_pos i);
            ends = run_mod u.from i u.L u.R;
          } in
          some_complete S (λ s. sets step S init i s && into step i s t) s hs
          ((and-eq-true_iff (sets step S init i s) (into step i s t)).1 (
            reach_complete live i s hs old,
            some_complete 2 (λ l. some 2 (λ r. eqb (step i s l r) t)) l (bit_lt u.L i)
                (some_complete 2 (λ r. eqb (step i s l r) t) r (bit_lt u.R i) (eq-eqb (step i s l r) t u.ends)),
          ))
