-- Where membership is decidable, a choice exists as soon as a member does: among the numbers x below 2^n, as the least value of x
-- exclusive-or r; among pairs, as that of the first number and then of the second. Assumes nothing.
use mathlib.Core.Path.{◌≡◌, sym, ap, ◌∙◌, subst}
use mathlib.Core.Logic.{◌⊎◌, inl, inr}
use Prim.Native.Nat.{ℕ, zero, suc, ◌^◌, ◌<◌}
use native.Mathlib.Decide.{dec_lt}
use native.Mathlib.Omega.{arith}
use lib.Bits.{bit_xor, xor_lt, xor_add_and}
use Rattle.bits.specs.Bit.{bit}
use Rattle.bits.proofs.Laws.{bit_lt, by_bits}
use Rattle.bits.proofs.Logic.{bit_of_xor}
use Rattle.choice.specs.Choice.{Closest, ClosestPair}
use Rattle.choice.proofs.Pair.{First, pair_of}

-- the least number below n in P
pub record Least (P : ℕ → Type 0) (n : ℕ) : Type 0 where
  pub k : ℕ
  pub k_lt : k < n
  pub member : P k
  pub least : (i : ℕ) → i < k → P i → ⊥

pub least_or_none : (P : ℕ → Type 0) → ((x : ℕ) → Dec (P x)) → (n : ℕ) → Least P n ⊎ ((x : ℕ) → x < n → P x → ⊥)
least_or_none P decided zero = inr (λ x h p. omega arith)
least_or_none P decided (suc n) = go (least_or_none P decided n) (decided n)
  where
    go : Least P n ⊎ ((x : ℕ) → x < n → P x → ⊥) → Dec (P n) → Least P (suc n) ⊎ ((x : ℕ) → x < suc n → P x → ⊥)
    go (inl w) d = inl (record { k = w.k; k_lt = omega (arith, w.k_lt); member = w.member; least = w.least })
    go (inr none) (yes p) = inl (record { k = n; k_lt = omega arith; member = p; least = none })
    go (inr none) (no np) = inr (λ x h p. below x p (dec_lt x n) h)
      where
        below : (x : ℕ) → P x → Dec (x < n) → x < suc n → ⊥
        below x p (yes l) h = none x l p
        below x p (no l) h = np (subst P (let e : x ≡ n = omega arith in e) p)

-- taking r out again
pub xor_back : (n x r : ℕ) → x < 2 ^ n → r < 2 ^ n → bit_xor (bit_xor x r) r ≡ x
xor_back n x r hx hr =
    by_bits n (xor_lt n (bit_xor x r) r (xor_lt n x r hx hr) hr) hx
    (λ i h. bit_of_xor (bit_xor x r) r i ∙ ap (λ (u : ℕ). bit_xor u (bit r i)) (bit_of_xor x r i) ∙ one (bit x i) (bit r i) (bit_lt x i) (bit_lt r i))
  where
    one : (p q : ℕ) → p < 2 → q < 2 → bit_xor (bit_xor p q) q ≡ p
    one p q hp hq =
        let u = bit_xor p q in
        let l : u < 2 = xor_lt 1 p q hp hq in
        omega (arith, xor_add_and p q, xor_add_and u q, xor_lt 1 u q l hq)

-- a choice among numbers of n bits
pub closest_or_none : (P : ℕ → Type 0) → ((x : ℕ) → Dec (P x)) → (n : ℕ) → ((x : ℕ) → P x → x < 2 ^ n) → (r : ℕ) → r < 2 ^ n
    → ((x : ℕ) × Closest P r x) ⊎ ((x : ℕ) → P x → ⊥)
closest_or_none P decided n small r hr = go (least_or_none (λ k. P (bit_xor k r)) (λ k. decided (bit_xor k r)) (2 ^ n))
  where
    go : Least (λ k. P (bit_xor k r)) (2 ^ n) ⊎ ((k : ℕ) → k < 2 ^ n → P (bit_xor k r) → ⊥) → ((x : ℕ) × Closest P r x) ⊎ ((x : ℕ) → P x → ⊥)
    go (inr none) = inr (λ y p. none (bit_xor y r) (xor_lt n y r (small y p) hr) (subst P (sym (xor_back n y r (small y p) hr)) p))
    go (inl w) = inl (bit_xor w.k r, record { member = w.member; least = λ y p. farther y p (dec_lt w.k (bit_xor y r)) })
      where
        key : bit_xor (bit_xor w.k r) r ≡ w.k
        key = xor_back n w.k r w.k_lt hr

        farther : (y : ℕ) → P y → Dec (w.k < bit_xor y r) → (y ≡ bit_xor w.k r) ⊎ (bit_xor (bit_xor w.k r) r < bit_xor y r)
        farther y p (yes l) = inr (omega (arith, key))
        farther y p (no l) =
            let back = xor_back n y r (small y p) hr in
            let not_less : bit_xor y r < w.k → ⊥ = λ h. w.least (bit_xor y r) h (subst P (sym back) p) in
            let same : bit_xor y r ≡ w.k = omega arith in
            inl (sym back ∙ ap (λ (u : ℕ). bit_xor u r) same)

-- a choice among pairs of numbers of n bits
module _ (P : ℕ → ℕ → Type 0) (decided : (x y : ℕ) → Dec (P x y)) (n : ℕ) (small : (x y : ℕ) → P x y → (x < 2 ^ n) × (y < 2 ^ n)) where
  first_decided : (x : ℕ) → Dec (First P x)
  first_decided x = go (least_or_none (P x) (decided x) (2 ^ n))
    where
      go : Least (P x) (2 ^ n) ⊎ ((y : ℕ) → y < 2 ^ n → P x y → ⊥) → Dec (First P x)
      go (inl w) = yes (w.k, w.member)
      go (inr none) = no (λ m. none m.0 (small x m.0 m.1).1 m.1)

  pub pair_or_none : (r s : ℕ) → r < 2 ^ n → s < 2 ^ n → ((x : ℕ) × (y : ℕ) × ClosestPair P r s x y) ⊎ ((x y : ℕ) → P x y → ⊥)
  pair_or_none r s hr hs = go (closest_or_none (First P) first_decided n (λ x m. (small x m.0 m.1).0) r hr)
    where
      second : (x : ℕ) → Closest (First P) r x → ((y : ℕ) × Closest (P x) s y) ⊎ ((y : ℕ) → P x y → ⊥) → ((x : ℕ) × (y : ℕ) × ClosestPair P r s x y) ⊎ ((x y : ℕ) → P x y → ⊥)
      second x c (inl w) = inl (x, w.0, pair_of P r s x w.0 c w.1)
      second x c (inr none) = absurd (none c.member.0 c.member.1)

      go : ((x : ℕ) × Closest (First P) r x) ⊎ ((x : ℕ) → First P x → ⊥) → ((x : ℕ) × (y : ℕ) × ClosestPair P r s x y) ⊎ ((x y : ℕ) → P x y → ⊥)
      go (inr none) = inr (λ x y p. none x (y, p))
      go (inl c) = second c.0 c.1 (closest_or_none (P c.0) (decided c.0) n (λ y p. (small c.0 y p).1) s hs)
