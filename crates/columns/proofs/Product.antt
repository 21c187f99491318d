-- A run of a product is the two runs side by side, by induction on the columns; so a pair is in the product's i-th set exactly where the
-- same two numbers drive each machine to its state. From a dead state only dead ones are reached, in each machine and so in the product.
-- Assumes nothing.
use mathlib.Core.Path.{◌≡◌, refl, sym, ap, ap₂, ◌∙◌, subst}
use mathlib.Core.Bool.{Bool, true, cond, ◌&&◌}
use mathlib.Core.Logic.{◌↔◌}
use Prim.Native.Nat.{ℕ, zero, suc, ◌+◌, ◌*◌, ◌/◌, ◌%◌, ◌<◌}
use native.Mathlib.Nat.{mod-lt, mod-eq_of_lt, div-eq_of_lt, mod-add-div, zero-mul, mul_comm, mul-suc, mul-le-mul_left, add-mul-mod_self_left, add-mul-div_left, div-lt_iff_lt-mul}
use native.Mathlib.Decide.{dec_lt}
use native.Mathlib.Omega.{arith}
use borrow.Author.Tests.{lt-ltb, le-ltb}
use lib.Dec.{ltb}
use Rattle.bits.specs.Bit.{bit}
use Rattle.columns.specs.Machine.{run, sets, Reached}
use Rattle.columns.specs.Product.{paired, product, pairs, ReachedBoth}
use Rattle.columns.proofs.Reach.{reach_sound, reach_complete}

-- ---- states

module _ (S T : ℕ) where
  pub paired_live : (s t : ℕ) → s < S → t < T → paired S T s t ≡ s + S * t
  unfolding paired
  paired_live s t h k = rw (lt-ltb s S h, lt-ltb t T k)

  pub paired_dead : (s t : ℕ) → (s < S → t < T → ⊥) → paired S T s t ≡ S * T
  unfolding paired
  paired_dead s t n = go (dec_lt s S) (dec_lt t T)
    where
      go : Dec (s < S) → Dec (t < T) → cond (ltb s S && ltb t T) (s + S * t) (S * T) ≡ S * T
      go (yes h) (yes k) = absurd (n h k)
      go (yes h) (no k) = rw (lt-ltb s S h, le-ltb t T (omega arith))
      go (no h) k = rw (le-ltb s S (omega arith))

  pub paired_lt : (s t : ℕ) → s < S → t < T → s + S * t < S * T
  paired_lt s t h k = omega (arith, mul-le-mul_left S k, mul-suc S t)

  pub paired_first : (s t : ℕ) → s < S → (s + S * t) % S ≡ s
  paired_first s t h = add-mul-mod_self_left s S t ∙ mod-eq_of_lt h

  pub paired_second : (s t : ℕ) → s < S → (s + S * t) / S ≡ t
  paired_second s t h = add-mul-div_left s t (omega arith) ∙ omega (arith, div-eq_of_lt h)

  -- every live state is that of a pair
  pub paired_parts : (u : ℕ) → u < S * T → (u % S < S) × (u / S < T) × (u ≡ paired S T (u % S) (u / S))
  paired_parts u h =
      let some : 0 < S = positive S h in
      let a : u % S < S = mod-lt u some in
      let b : u / S < T = (div-lt_iff_lt-mul some).1 (subst (λ (n : ℕ). u < n) (mul_comm S T) h) in
      (a, b, sym (mod-add-div u S) ∙ sym (paired_live (u % S) (u / S) a b))
    where
      positive : (n : ℕ) → u < n * T → 0 < n
      positive zero l = omega (arith, zero-mul T)
      positive (suc n) l = omega arith

module _ (S T : ℕ) (first second : ℕ → ℕ → ℕ → ℕ → ℕ) where
  -- ---- the machine

  alive : ((i s l r : ℕ) → second i s l r < T → s < T) → (i u l r : ℕ) → first i (u % S) l r < S → second i (u / S) l r < T → u < S * T
  alive live i u l r h k =
      subst (λ (n : ℕ). u < n) (mul_comm T S) ((div-lt_iff_lt-mul {k = S} (omega arith)).0 (live i (u / S) l r k))

  -- from a dead state only dead ones are reached
  pub product_live : ((i s l r : ℕ) → second i s l r < T → s < T) → (i u l r : ℕ) → product S T first second i u l r < S * T → u < S * T
  unfolding product
  product_live live i u l r h = go (dec_lt (first i (u % S) l r) S) (dec_lt (second i (u / S) l r) T)
    where
      go : Dec (first i (u % S) l r < S) → Dec (second i (u / S) l r < T) → u < S * T
      go (yes a) (yes b) = alive live i u l r a b
      go (yes a) (no b) = absurd (omega (arith, paired_dead S T (first i (u % S) l r) (second i (u / S) l r) (λ _ k. b k)))
      go (no a) d = absurd (omega (arith, paired_dead S T (first i (u % S) l r) (second i (u / S) l r) (λ k _. a k)))

  module _ (live : (i s l r : ℕ) → first i s l r < S → s < S) (live' : (i s l r : ℕ) → second i s l r < T → s < T) where
    -- from a pair, each machine steps from its own state
    pub product_step : (i s t l r : ℕ) → product S T first second i (paired S T s t) l r ≡ paired S T (first i s l r) (second i t l r)
    unfolding product
    product_step i s t l r = go (dec_lt s S) (dec_lt t T)
      where
        dead : (s < S → t < T → ⊥) → product S T first second i (paired S T s t) l r ≡ paired S T (first i s l r) (second i t l r)
        dead n =
            let u = paired S T s t in
            let e : u ≡ S * T = paired_dead S T s t n in
            paired_dead S T (first i (u % S) l r) (second i (u / S) l r) (λ a b. omega (arith, alive live' i u l r a b))
            ∙ sym (paired_dead S T (first i s l r) (second i t l r) (λ a b. n (live i s l r a) (live' i t l r b)))

        go : Dec (s < S) → Dec (t < T) → product S T first second i (paired S T s t) l r ≡ paired S T (first i s l r) (second i t l r)
        go (yes h) (yes k) =
            ap (λ (u : ℕ). product S T first second i u l r) (paired_live S T s t h k)
            ∙ ap₂ (λ (a b : ℕ). paired S T (first i a l r) (second i b l r)) (paired_first S T s t h) (paired_second S T s t h)
        go (yes h) (no k) = dead (λ _ b. k b)
        go (no h) d = dead (λ a _. h a)

    -- ---- runs

    -- a run of the product is the two runs
    pub run_product : (s t i L R : ℕ) → run (product S T first second) (paired S T s t) i L R ≡ paired S T (run first s i L R) (run second t i L R)
    unfolding run
    run_product s t zero L R = refl
    run_product s t (suc i) L R =
        ap (λ (u : ℕ). product S T first second i u (bit L i) (bit R i)) (run_product s t i L R)
        ∙ product_step i (run first s i L R) (run second t i L R) (bit L i) (bit R i)

    -- ---- sets

    module _ (init : ℕ → ℕ → Bool) (i s t : ℕ) (hs : s < S) (ht : t < T) where
      both_sound : Reached (product S T first second) (S * T) (pairs S init) i (s + S * t) → ReachedBoth S T first second init i s t
      both_sound u =
          let p = paired_parts S T u.from u.from_lt in
          let a = run first (u.from % S) i u.L u.R in
          let b = run second (u.from / S) i u.L u.R in
          let e : paired S T a b ≡ s + S * t =
          sym (run_product (u.from % S) (u.from / S) i u.L u.R)
          ∙ ap (λ (v : ℕ). run (product S T first second) v i u.L u.R) (sym p.2)
          ∙ u.ends in
          let q = parts a b e (dec_lt a S) (dec_lt b T) in
          record {
            from = u.from % S;
            from' = u.from / S;
            L = u.L;
            R = u.R;
            from_lt = p.0;
            from'_lt = p.1;
            from_in = u.from_in;
            L-lt = u.L-lt;
            R-lt = u.R-lt;
            ends = q.0;
            ends' = q.1;
          }
        where
          parts : (a b : ℕ) → paired S T a b ≡ s + S * t → Dec (a < S) → Dec (b < T) → (a ≡ s) × (b ≡ t)
          parts a b e (yes h) (yes k) =
              let f : a + S * b ≡ s + S * t = sym (paired_live S T a b h k) ∙ e in (
                sym (paired_first S T a b h) ∙ ap (λ (v : ℕ). v % S) f ∙ paired_first S T s t hs,
                sym (paired_second S T a b h) ∙ ap (λ (v : ℕ). v / S) f ∙ paired_second S T s t hs,
              )
          parts a b e (yes h) (no k) = absurd (omega (arith, paired_dead S T a b (λ _ n. k n), paired_lt S T s t hs ht))
          parts a b e (no h) d = absurd (omega (arith, paired_dead S T a b (λ n _. h n), paired_lt S T s t hs ht))

      both_complete : ReachedBoth S T first second init i s t → Reached (product S T first second) (S * T) (pairs S init) i (s + S * t)
      both_complete u = record {
        from = u.from + S * u.from';
        L = u.L;
        R = u.R;
        from_lt = paired_lt S T u.from u.from' u.from_lt u.from'_lt;
        from_in =
            ap₂ init (paired_first S T u.from u.from' u.from_lt) (paired_second S T u.from u.from' u.from_lt) ∙ u.from_in;
        L-lt = u.L-lt;
        R-lt = u.R-lt;
        ends =
            ap (λ (v : ℕ). run (product S T first second) v i u.L u.R) (sym (paired_live S T u.from u.from' u.from_lt u.from'_lt))
            ∙ run_product u.from u.from' i u.L u.R
            ∙ ap₂ (paired S T) u.ends u.ends'
            ∙ paired_live S T s t hs ht;
      }

      -- a pair is in the product's set exactly where the same two numbers drive each machine to its state
      pub sets_product : (sets (product S T first second) (S * T) (pairs S init) i (s + S * t) ≡ true) ↔ ReachedBoth S T first second init i s t
      sets_product =
          let l = paired_lt S T s t hs ht in (
            λ e. both_sound (reach_sound (product S T first second) (S * T) (pairs S init) i (s + S * t) l e),
            λ u. reach_complete (product S T first second) (S * T) (pairs S init) (product_live live') i (s + S * t) l (both_complete u),
          )
