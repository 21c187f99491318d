-- The choice of one number: the member whose exclusive-or with r is smallest is found by fixing the bits from the top, each to that of
-- r where a member is left. Two members compare by the first bit, from the top, in which they differ. Assumes nothing.
use mathlib.Core.Path.{◌≡◌, sym, ap, ◌∙◌}
use mathlib.Core.Logic.{◌⊎◌, inl, inr}
use Prim.Native.Nat.{ℕ, suc, ◌+◌, ◌*◌, ◌/◌, ◌^◌, ◌≤◌, ◌<◌}
use native.Mathlib.Nat.{div-one, lt_of_le_of_lt, lt_of_lt_of_le}
use native.Mathlib.Numerals.{add-one}
use native.Mathlib.Decide.{dec_lt, ℕ_discrete}
use native.Mathlib.Omega.{arith}
use lib.Bits.{bit_xor, xor_self, xor_shr, xor_lt, xor_add_and, and_le_l, and_le_r}
use lib.Pow.{shr-shr, shr_mono, shr_le, pow_mono}
use Rattle.bits.specs.Bit.{bit}
use Rattle.bits.proofs.Laws.{bit_lt, bit_above, bit_shr, by_bits}
use Rattle.bits.proofs.Logic.{bit_of_xor}
use Rattle.choice.specs.Choice.{Closest, Farther, AgreeFrom}

-- ---- numbers from bit k up

-- bit k on the right of what stands above it
pub shr_suc : (x k : ℕ) → x / 2 ^ k ≡ x / 2 ^ suc k * 2 + bit x k
shr_suc x k =
    let half : x / 2 ^ k / 2 ≡ x / 2 ^ suc k = shr-shr x k 1 ∙ ap (λ (j : ℕ). x / 2 ^ j) (add-one k) in
    omega arith

lt_of_shr : (x y k : ℕ) → x / 2 ^ k < y / 2 ^ k → x < y
lt_of_shr x y k h = go (dec_lt x y)
  where
    go : Dec (x < y) → x < y
    go (yes l) = l
    go (no l) = absurd (omega (arith, shr_mono {a = y} {b = x} k (omega arith)))

-- numbers that are the same above bit k, where only x has the bit of r
pub first_difference : (k x y r : ℕ) → x / 2 ^ suc k ≡ y / 2 ^ suc k → bit x k ≡ bit r k → (bit y k ≡ bit r k → ⊥) → bit_xor x r < bit_xor y r
first_difference k x y r above same differ =
    let up : bit_xor x r / 2 ^ suc k ≡ bit_xor y r / 2 ^ suc k = xor_shr x r (suc k) ∙ ap (λ (u : ℕ). bit_xor u (r / 2 ^ suc k)) above ∙ sym (xor_shr y r (suc k)) in
    let at_x : bit (bit_xor x r) k ≡ 0 = bit_of_xor x r k ∙ ap (λ (u : ℕ). bit_xor u (bit r k)) same ∙ xor_self (bit r k) in
    let at_y : bit (bit_xor y r) k ≡ 1 = bit_of_xor y r k ∙ omega (arith, bit_lt y k, bit_lt r k, xor_add_and (bit y k) (bit r k), xor_lt 1 (bit y k) (bit r k) (bit_lt y k) (bit_lt r k)) in
    lt_of_shr (bit_xor x r) (bit_xor y r) k (omega (arith, shr_suc (bit_xor x r) k, shr_suc (bit_xor y r) k))

pub xor_zero : (x y : ℕ) → bit_xor x y ≡ 0 → x ≡ y
xor_zero x y e = omega (arith, xor_add_and x y, and_le_l x y, and_le_r x y)

-- ---- the order that a word gives

-- a number is at the closest one, where the rest decides, or farther
pub farther : (r a b : ℕ) {A : Type 0} → (b ≡ a) ⊎ (bit_xor a r < bit_xor b r) → (b ≡ a → A) → Farther r a b A
farther r a b (inl e) rest = inr (e, rest e)
farther r a b (inr l) rest = inl l

-- neither of two is farther than the other only where the rest decides for both
pub farther_both : (r a b : ℕ) {A B C : Type 0} → Farther r a b A → Farther r b a B → (A → B → C) → C
farther_both r a b (inl l) (inl m) both = absurd (omega arith)
farther_both r a b (inl l) (inr p) both = absurd (omega (arith, ap (λ (u : ℕ). bit_xor u r) p.0))
farther_both r a b (inr p) (inl m) both = absurd (omega (arith, ap (λ (u : ℕ). bit_xor u r) p.0))
farther_both r a b (inr p) (inr q) both = both p.1 q.1

-- ---- the choice

module _ (P : ℕ → Type 0) where
  -- members of n bits with the same bits from k up agree from bit k up
  pub agree_from : (n k : ℕ) → ((x : ℕ) → P x → x < 2 ^ n) → ((x y i : ℕ) → P x → P y → k ≤ i → i < n → bit x i ≡ bit y i) → AgreeFrom P k
  agree_from n k small same x y px py =
      by_bits n (lt_of_le_of_lt (shr_le x k) (small x px)) (lt_of_le_of_lt (shr_le y k) (small y py))
      (λ i h. bit_shr x k i ∙ go i (dec_lt (k + i) n) ∙ sym (bit_shr y k i))
    where
      go : (i : ℕ) → Dec (k + i < n) → bit x (k + i) ≡ bit y (k + i)
      go i (yes h) = same x y (k + i) px py (omega arith) h
      go i (no h) =
          let up : 2 ^ n ≤ 2 ^ (k + i) = pow_mono {i = n} {j = k + i} (omega arith) in
          bit_above (k + i) (lt_of_lt_of_le (small x px) up) ∙ sym (bit_above (k + i) (lt_of_lt_of_le (small y py) up))

  pub closest_unique : (r x y : ℕ) → Closest P r x → Closest P r y → x ≡ y
  closest_unique r x y cx cy = go (cx.least y cy.member) (cy.least x cx.member)
    where
      go : (y ≡ x) ⊎ (bit_xor x r < bit_xor y r) → (x ≡ y) ⊎ (bit_xor y r < bit_xor x r) → x ≡ y
      go (inl e) q = sym e
      go (inr l) (inl e) = e
      go (inr l) (inr m) = absurd (omega arith)

  -- every member is the choice of some word
  pub closest_self : (x : ℕ) → P x → Closest P x x
  closest_self x m = record { member = m; least = λ y _. go y (ℕ_discrete y x) }
    where
      go : (y : ℕ) → Dec (y ≡ x) → (y ≡ x) ⊎ (bit_xor x x < bit_xor y x)
      go y (yes e) = inl e
      go y (no n) = inr (away (ℕ_discrete (bit_xor y x) 0))
        where
          away : Dec (bit_xor y x ≡ 0) → bit_xor x x < bit_xor y x
          away (yes e) = absurd (n (xor_zero y x e))
          away (no f) = omega (arith, xor_self x)

  -- the choice goes by the members
  pub closest_cong : (Q : ℕ → Type 0) → ((y : ℕ) → P y → Q y) → ((y : ℕ) → Q y → P y) → (r x : ℕ) → Closest P r x → Closest Q r x
  closest_cong Q to from r x c = record { member = to x c.member; least = λ y m. c.least y (from y m) }

  -- with every bit fixed, a member is the choice
  pub closest_done : AgreeFrom P 0 → (r x : ℕ) → P x → Closest P r x
  closest_done agree r x m = record { member = m; least = λ y n. inl (sym (div-one y) ∙ agree y x n m ∙ div-one x) }

  module _ (k v : ℕ) (agree : AgreeFrom P (suc k)) where
    -- bit k fixed to v, which is the bit of r, or the only one that a member has
    pub closest_step : (r x : ℕ) → Closest (λ y. P y × (bit y k ≡ v)) r x → ((v ≡ bit r k) ⊎ ((y : ℕ) → P y → bit y k ≡ v)) → Closest P r x
    closest_step r x c kept = record { member = c.member.0; least = λ y m. go y m kept (ℕ_discrete (bit y k) v) }
      where
        go : (y : ℕ) → P y → ((v ≡ bit r k) ⊎ ((z : ℕ) → P z → bit z k ≡ v)) → Dec (bit y k ≡ v) → (y ≡ x) ⊎ (bit_xor x r < bit_xor y r)
        go y m s (yes e) = c.least y (m, e)
        go y m (inl e) (no n) =
            inr (first_difference k x y r (agree x y c.member.0 m) (c.member.1 ∙ e) (λ f. n (f ∙ sym e)))
        go y m (inr all) (no n) = absurd (n (all y m))
