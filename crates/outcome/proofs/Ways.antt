-- The ways in which a number of so many digits has dropped bits that meet a mask are all there are, and each is one. Assumes nothing.
use mathlib.Core.Logic.{◌↔◌, inl, inr, ⊎_elim}
use mathlib.Core.Path.{◌≡◌, refl, sym, ap, ap₂, ◌∙◌, subst}
use Prim.Native.Nat.{ℕ, zero, suc, ◌+◌, ◌-◌, ◌*◌, ◌/◌, ◌%◌, ◌^◌, ◌≤◌, ◌<◌}
use native.Mathlib.Nat.{zero-add, zero-div, mul_assoc, mul_comm, mul-one, mul-zero, zero-mul, mod-lt, mod-eq_of_lt}
use native.Mathlib.Decide.{dec_le, dec_lt, ℕ_discrete}
use native.Mathlib.Omega.{arith}
use borrow.Author.Tests.{le-leb, lt-leb, le-ltb, lt-ltb, eq-eqb, ne_eqb}
use lib.Arith.{digits_div, digits_mod}
use lib.Bits.{bit_and, and_mask, and_zero_r}
use lib.Ieee.{size}
use lib.Ieee.Digits.{size-le}
use lib.Pow.{pow_pos, pow-add, mod-pow-add}
use Rattle.bits.specs.Bit.{bit}
use Rattle.bits.proofs.Division.{mod_scale}
use Rattle.bits.proofs.Laws.{bit_mod}
use Rattle.format.specs.declared.Format.{Format}
use Rattle.mask.specs.declared.Mask.{Mask}
use Rattle.mask.specs.Mask.{WellFormed, Meets, low, high, raised, free_mask}
use Rattle.mask.proofs.ByParts.{meets_parts, meets_within, high_formed}
use Rattle.job.specs.declared.Dropped.{Dropped}
use Rattle.job.specs.Dropped.{ValidDropped}
use Rattle.word.specs.declared.Unit as exponent
use Rattle.rounding.specs.Rounding.{dropped}
use Rattle.rounding.specs.Dropped.{sticky, with_sticky, dropped_word}
use Rattle.rounding.specs.Width.{aligned_bits}
use Rattle.rounding.proofs.Size.{size_top}
use Rattle.rounding.proofs.Sticky.{sticky_zero, sticky_one, sticky_lt, with_sticky_scale, with_sticky_none}
use Rattle.making.specs.Question.{one_bit}
use Rattle.making.proofs.Rounds.{quotient_meets, zeros_meets}
use Rattle.making.proofs.Last.{one_meets}
use Rattle.outcome.specs.Ways.{ways_of, upper_of, lower_of, ways_at, InWay}
use Rattle.outcome.specs.Outcome.{DropsAs}
use Rattle.outcome.proofs.Topped.{size_quotient}

-- ---- the dropped bits of a number that has j bits below the last kept one

-- a bit is its own sticky bit
sticky_bit : (r : ℕ) → r < 2 → sticky r ≡ r
sticky_bit zero h = refl
sticky_bit (suc zero) h = refl
sticky_bit (suc (suc r)) h = absurd (omega arith)

module _ (g j x : ℕ) where
  -- no more than g + 1
  sticky_near : j ≤ g + 1 → with_sticky (2 ^ g * x) j ≡ x * 2 ^ (g + 1 - j)
  unfolding with_sticky
  sticky_near h = go (dec_le j g)
    where
      few : j ≤ g → with_sticky (2 ^ g * x) j ≡ x * 2 ^ (g + 1 - j)
      few l =
          let parts : 2 ^ g ≡ 2 ^ (g - j) * 2 ^ j = ap (λ (n : ℕ). 2 ^ n) (omega arith) ∙ pow-add 2 (g - j) j in
          let whole : 2 ^ g * x ≡ x * 2 ^ (g - j) * 2 ^ j = mul_comm (2 ^ g) x ∙ ap (◌*◌ x) parts ∙ sym (mul_assoc x (2 ^ (g - j)) (2 ^ j)) in
          let up : 2 ^ (g + 1 - j) ≡ 2 ^ (g - j) * 2 = ap (λ (n : ℕ). 2 ^ n) (omega arith) ∙ pow-add 2 (g - j) 1 in
          ap₂ with_sticky whole (sym (zero-add j)) ∙ with_sticky_scale (x * 2 ^ (g - j)) 0 j ∙ with_sticky_none (x * 2 ^ (g - j))
          ∙ mul_comm 2 (x * 2 ^ (g - j)) ∙ mul_assoc x (2 ^ (g - j)) 2 ∙ ap (◌*◌ x) (sym up)

      go : Dec (j ≤ g) → with_sticky (2 ^ g * x) j ≡ x * 2 ^ (g + 1 - j)
      go (yes l) = few l
      go (no l) =
          let e : j ≡ 1 + g = omega arith in
          let z : g + 1 - j ≡ 0 = omega arith in
          ap₂ with_sticky (mul_comm (2 ^ g) x) e ∙ with_sticky_scale x 1 g
          ∙ ap (λ (b : ℕ). x / 2 * 2 + b) (sticky_bit (x % 2) (omega arith)) ∙ omega arith
          ∙ sym (ap (λ (n : ℕ). x * 2 ^ n) z ∙ mul-one x)

  pub dropped_near : (F : Format) → dropped F x ≡ j → j ≤ g + 1 → dropped_word F g x ≡ x % 2 ^ j * 2 ^ (g + 1 - j)
  unfolding dropped_word
  dropped_near F e h =
      let all : g + 1 ≡ j + (g + 1 - j) = omega arith in
      ap (λ (n : ℕ). n % 2 ^ (g + 1)) (ap (with_sticky (2 ^ g * x)) e ∙ sticky_near h)
      ∙ ap (λ (n : ℕ). x * 2 ^ (g + 1 - j) % 2 ^ n) all ∙ mod_scale x j (g + 1 - j)

  -- or more
  pub dropped_far : (F : Format) → dropped F x ≡ j → g ≤ j → dropped_word F g x ≡ x / 2 ^ (j - g) % 2 ^ g * 2 + sticky (x % 2 ^ (j - g))
  unfolding dropped_word with_sticky
  dropped_far F e h =
      let m : ℕ = j - g in
      let all : j ≡ m + g = omega arith in
      let s = sticky_lt (x % 2 ^ m) in
      ap (λ (n : ℕ). n % 2 ^ (g + 1)) (ap₂ with_sticky (mul_comm (2 ^ g) x) (e ∙ all) ∙ with_sticky_scale x m g)
      ∙ mod-pow-add (x / 2 ^ m * 2 + sticky (x % 2 ^ m)) g 1
      ∙ ap₂ (λ (a b : ℕ). a % 2 ^ g * 2 + b) (digits_div (x / 2 ^ m) s) (digits_mod (x / 2 ^ m) s)

-- ---- masks of few bits

again : (k x : ℕ) → x % 2 ^ k % 2 ^ k ≡ x % 2 ^ k
again k x = mod-eq_of_lt (mod-lt x (pow_pos k))

-- a mask of k bits asks nothing of the others
meets_low : (k x : ℕ) (m : Mask) → WellFormed k m → Meets (x % 2 ^ k) m ↔ Meets x m
meets_low k x m w = (
  (λ p. (meets_within k x m w).1 (subst (λ (n : ℕ). Meets n (low k m)) (again k x) ((meets_within k (x % 2 ^ k) m w).0 p))),
  λ p. (meets_within k (x % 2 ^ k) m w).1 (subst (λ (n : ℕ). Meets n (low k m)) (sym (again k x)) ((meets_within k x m w).0 p)),
)

-- ---- what the sticky bit asks of the m bits that it tells of

-- a number that is not 0 has a bit
some_bit : (m n : ℕ) → n < 2 ^ m → 0 < n → (t : ℕ) × (t < m) × (bit n t ≡ 1)
some_bit m n below pos =
    let top = size_top n pos in
    let t = top.0 in
    (t, omega (arith, size-le n m below, top.1), ap (λ (k : ℕ). k % 2) ((size_quotient n t).0 top.1))

-- it is 1 exactly where one of the bits is
sticky_some : (m x : ℕ) → (sticky (x % 2 ^ m) ≡ 1) ↔ ((t : ℕ) × (t < m) × Meets x (one_bit t 1))
sticky_some m x = (λ e. there (ℕ_discrete (x % 2 ^ m) 0) e, back)
  where
    there : Dec (x % 2 ^ m ≡ 0) → sticky (x % 2 ^ m) ≡ 1 → (t : ℕ) × (t < m) × Meets x (one_bit t 1)
    there (yes z) e = absurd (omega (arith, sticky_zero {s = x % 2 ^ m} z))
    there (no z) e =
        let b = some_bit m (x % 2 ^ m) (mod-lt x (pow_pos m)) (omega (arith, z)) in
        (b.0, b.1, (one_meets b.0 1 (omega arith) x).1 (sym (bit_mod x b.0 m b.1) ∙ b.2))

    back : (t : ℕ) × (t < m) × Meets x (one_bit t 1) → sticky (x % 2 ^ m) ≡ 1
    back p = go (ℕ_discrete (x % 2 ^ m) 0)
      where
        at : bit (x % 2 ^ m) p.0 ≡ 1
        at = bit_mod x p.0 m p.1 ∙ (one_meets p.0 1 (omega arith) x).0 p.2

        go : Dec (x % 2 ^ m ≡ 0) → sticky (x % 2 ^ m) ≡ 1
        go (yes z) = absurd (omega (arith, sym (ap (λ (n : ℕ). bit n p.0) z ∙ ap (λ (n : ℕ). n % 2) (zero-div (2 ^ p.0))) ∙ at))
        go (no z) = sticky_one {s = x % 2 ^ m} (omega (arith, z))

-- and 0 exactly where all of them are
sticky_none : (m x : ℕ) → (sticky (x % 2 ^ m) ≡ 0) ↔ (x % 2 ^ m ≡ 0)
sticky_none m x = (λ e. go (ℕ_discrete (x % 2 ^ m) 0) e, λ z. sticky_zero z)
  where
    go : Dec (x % 2 ^ m ≡ 0) → sticky (x % 2 ^ m) ≡ 0 → x % 2 ^ m ≡ 0
    go (yes z) e = z
    go (no z) e = absurd (omega (arith, sticky_one {s = x % 2 ^ m} (omega (arith, z))))

-- ---- the ways, by cases
module _ (D : Dropped) (j : ℕ) where
  module _ (h : j ≤ D.g + 1) where
    pub ways_near : D.mask.value % 2 ^ (D.g + 1 - j) ≡ 0 → ways_of D j ≡ 1
    unfolding ways_of
    ways_near z = rw (le-leb j (D.g + 1) h, eq-eqb _ _ z)

    pub ways_none : (D.mask.value % 2 ^ (D.g + 1 - j) ≡ 0 → ⊥) → ways_of D j ≡ 0
    unfolding ways_of
    ways_none n = rw (le-leb j (D.g + 1) h, ne_eqb _ _ n)

    pub upper_near : upper_of D j ≡ high (D.g + 1 - j) D.mask
    unfolding upper_of
    upper_near = rw (le-leb j (D.g + 1) h)

    pub lower_near : (t : ℕ) → lower_of D j t ≡ free_mask
    unfolding lower_of
    lower_near t = rw (le-leb j (D.g + 1) h)

  module _ (h : D.g + 1 < j) where
    pub ways_some : D.mask.value % 2 ≡ 1 → ways_of D j ≡ j - D.g
    unfolding ways_of
    ways_some o = rw (lt-leb j (D.g + 1) h, eq-eqb _ _ o)

    pub ways_one : (D.mask.value % 2 ≡ 1 → ⊥) → ways_of D j ≡ 1
    unfolding ways_of
    ways_one n = rw (lt-leb j (D.g + 1) h, ne_eqb _ _ n)

    pub upper_far : upper_of D j ≡ raised (j - D.g) (high 1 D.mask)
    unfolding upper_of
    upper_far = rw (lt-leb j (D.g + 1) h)

    pub lower_some : (t : ℕ) → D.mask.value % 2 ≡ 1 → lower_of D j t ≡ one_bit t 1
    unfolding lower_of
    lower_some t o = rw (lt-leb j (D.g + 1) h, eq-eqb _ _ o)

    pub lower_zeros : (t : ℕ) → (D.mask.value % 2 ≡ 1 → ⊥) → lower_of D j t ≡ record { care = (2 ^ (j - D.g) - 1) * (D.mask.care % 2); value = 0 }
    unfolding lower_of
    lower_zeros t n = rw (lt-leb j (D.g + 1) h, ne_eqb _ _ n)

-- a number that has j bits below the last kept one
module _ (F : Format) (D : Dropped) (valid : ValidDropped D) (j x : ℕ) (e : dropped F x ≡ j) where
  -- no more than g + 1
  module _ (h : j ≤ D.g + 1) where
    formed_near : WellFormed j (high (D.g + 1 - j) D.mask)
    formed_near = let k : D.g + 1 ≡ j + (D.g + 1 - j) = omega arith in high_formed j (D.g + 1 - j) D.mask (subst (λ (n : ℕ). WellFormed n D.mask) k valid.mask)

    parts_near : Meets (dropped_word F D.g x) D.mask ↔ ((D.mask.value % 2 ^ (D.g + 1 - j) ≡ 0) × Meets (x % 2 ^ j) (high (D.g + 1 - j) D.mask))
    parts_near = rw (dropped_near D.g j x F e h) (zeros_meets (D.g + 1 - j) (x % 2 ^ j) D.mask)

    in_way_near : Meets (dropped_word F D.g x) D.mask ↔ ((t : ℕ) × (t < ways_of D j) × InWay D j t x)
    in_way_near = (there, λ p. back (ℕ_discrete (D.mask.value % 2 ^ (D.g + 1 - j)) 0) p)
      where
        there : Meets (dropped_word F D.g x) D.mask → (t : ℕ) × (t < ways_of D j) × InWay D j t x
        there met =
            let p = parts_near.0 met in (
              0,
              rw (ways_near D j h p.0) (omega arith),
              record { upper = rw (upper_near D j h) ((meets_low j x (high (D.g + 1 - j) D.mask) formed_near).0 p.1); lower = rw (lower_near D j h 0) (and_zero_r x) },
            )

        back : Dec (D.mask.value % 2 ^ (D.g + 1 - j) ≡ 0) → (t : ℕ) × (t < ways_of D j) × InWay D j t x → Meets (dropped_word F D.g x) D.mask
        back (yes z) p = parts_near.1 (z, (meets_low j x (high (D.g + 1 - j) D.mask) formed_near).1 (rw (upper_near D j h) at p.2.upper))
        back (no n) p = absurd (omega (arith, p.1, ways_none D j h n))

  -- or more
  module _ (h : D.g + 1 < j) where
    formed_far : WellFormed D.g (high 1 D.mask)
    formed_far = high_formed D.g 1 D.mask valid.mask

    -- the sticky bit alone
    Sticky : Type 0
    Sticky = Meets (sticky (x % 2 ^ (j - D.g))) (low 1 D.mask)

    parts_far : Meets (dropped_word F D.g x) D.mask ↔ (Sticky × Meets x (upper_of D j))
    unfolding Sticky
    parts_far =
        let m : ℕ = j - D.g in
        let p = rw (digits_div (x / 2 ^ m % 2 ^ D.g) (sticky_lt (x % 2 ^ m)), digits_mod (x / 2 ^ m % 2 ^ D.g) (sticky_lt (x % 2 ^ m))) at
        (meets_parts 1 (x / 2 ^ m % 2 ^ D.g * 2 + sticky (x % 2 ^ m)) D.mask) in
        let l = meets_low D.g (x / 2 ^ m) (high 1 D.mask) formed_far in
        let u = quotient_meets m x (high 1 D.mask) in
        rw (dropped_far D.g j x F e (omega arith), upper_far D j h)
        ((λ met. let r = p.0 met in (r.0, u.1 (l.0 r.1))), λ r. p.1 (r.0, l.1 (u.0 r.1)))

    -- its ways
    sticky_way : Sticky ↔ ((t : ℕ) × (t < ways_of D j) × Meets x (lower_of D j t))
    unfolding Sticky
    sticky_way = go (ℕ_discrete (D.mask.value % 2) 1) (ℕ_discrete (D.mask.care % 2) 0)
      where
        m : ℕ
        m = j - D.g

        inside : bit_and (D.mask.value % 2) (D.mask.care % 2) ≡ D.mask.value % 2
        inside = ((meets_parts 1 D.mask.value D.mask).0 valid.mask.inside).0

        kept : (b : ℕ) → b < 2 → bit_and b 1 ≡ b
        kept b l = and_mask b 1 ∙ mod-eq_of_lt l

        go : Dec (D.mask.value % 2 ≡ 1) → Dec (D.mask.care % 2 ≡ 0) → Meets (sticky (x % 2 ^ (j - D.g))) (low 1 D.mask) ↔ ((t : ℕ) × (t < ways_of D j) × Meets x (lower_of D j t))
        go (yes o) (yes c) = absurd (omega (arith, o, sym inside ∙ ap (bit_and (D.mask.value % 2)) c ∙ and_zero_r (D.mask.value % 2)))
        go (yes o) (no c) =
            let one : D.mask.care % 2 ≡ 1 = omega (arith, c) in
            let s = sticky_some (j - D.g) x in
            let k = kept (sticky (x % 2 ^ (j - D.g))) (sticky_lt (x % 2 ^ (j - D.g))) in (
              (λ met. let b = s.0 (sym k ∙ ap (bit_and (sticky (x % 2 ^ (j - D.g)))) (sym one) ∙ met ∙ o) in (b.0, rw (ways_some D j h o) b.1, rw (lower_some D j h b.0 o) b.2)),
              λ p. ap (bit_and (sticky (x % 2 ^ (j - D.g)))) one ∙ k ∙ s.1 (p.0, rw (ways_some D j h o) at p.1, rw (lower_some D j h p.0 o) at p.2) ∙ sym o,
            )
        go (no n) (yes c) =
            let z : D.mask.value % 2 ≡ 0 = omega (arith, n) in
            let none : (2 ^ (j - D.g) - 1) * (D.mask.care % 2) ≡ 0 = ap (◌*◌ (2 ^ (j - D.g) - 1)) c ∙ mul-zero (2 ^ (j - D.g) - 1) in (
              (λ met. (0, rw (ways_one D j h n) (omega arith), rw (lower_zeros D j h 0 n, none) (and_zero_r x))),
              λ p. ap (bit_and (sticky (x % 2 ^ (j - D.g)))) c ∙ and_zero_r (sticky (x % 2 ^ (j - D.g))) ∙ sym z,
            )
        go (no n) (no c) =
            let one : D.mask.care % 2 ≡ 1 = omega (arith, c) in
            let z : D.mask.value % 2 ≡ 0 = omega (arith, n) in
            let all : (2 ^ (j - D.g) - 1) * (D.mask.care % 2) ≡ 2 ^ (j - D.g) - 1 = ap (◌*◌ (2 ^ (j - D.g) - 1)) one ∙ mul-one (2 ^ (j - D.g) - 1) in
            let s = sticky_none (j - D.g) x in
            let k = kept (sticky (x % 2 ^ (j - D.g))) (sticky_lt (x % 2 ^ (j - D.g))) in (
              (λ met. (0, rw (ways_one D j h n) (omega arith), rw (lower_zeros D j h 0 n, all) (and_mask x (j - D.g) ∙ s.0 (sym k ∙ ap (bit_and (sticky (x % 2 ^ (j - D.g)))) (sym one) ∙ met ∙ z)))),
              λ p. ap (bit_and (sticky (x % 2 ^ (j - D.g)))) one ∙ k ∙ s.1 (sym (and_mask x (j - D.g)) ∙ (rw (lower_zeros D j h p.0 n, all) at p.2)) ∙ sym z,
            )

    in_way_far : Meets (dropped_word F D.g x) D.mask ↔ ((t : ℕ) × (t < ways_of D j) × InWay D j t x)
    in_way_far = (
      (λ met. let p = parts_far.0 met in let w = sticky_way.0 p.0 in (w.0, w.1, record { upper = p.1; lower = w.2 })),
      λ p. parts_far.1 (sticky_way.1 (p.0, p.1, p.2.lower), p.2.upper),
    )

  -- the dropped bits of x meet the mask exactly in these ways
  pub in_way : Meets (dropped_word F D.g x) D.mask ↔ ((t : ℕ) × (t < ways_of D j) × InWay D j t x)
  in_way = go (dec_le j (D.g + 1))
    where
      go : Dec (j ≤ D.g + 1) → Meets (dropped_word F D.g x) D.mask ↔ ((t : ℕ) × (t < ways_of D j) × InWay D j t x)
      go (yes h) = in_way_near h
      go (no h) = in_way_far (omega arith)

-- where nothing is fixed, every number is in each way
module _ (D : Dropped) (valid : ValidDropped D) where
  free_value : D.mask.care ≡ 0 → D.mask.value ≡ 0
  free_value z = sym (sym (ap (bit_and D.mask.value) z ∙ and_zero_r D.mask.value) ∙ valid.mask.inside)

  pub free_in_way : D.mask.care ≡ 0 → (j t n : ℕ) → InWay D j t n
  free_in_way z j t n = go (dec_le j (D.g + 1))
    where
      v : D.mask.value ≡ 0
      v = free_value z

      moved : (k : ℕ) → high k D.mask ≡ free_mask
      moved k = ap₂ (λ (a b : ℕ). record { care = a / 2 ^ k; value = b / 2 ^ k }) z v ∙ ap₂ (λ (a b : ℕ). record { care = a; value = b }) (zero-div (2 ^ k)) (zero-div (2 ^ k))

      nothing : raised (j - D.g) free_mask ≡ free_mask
      nothing = ap₂ (λ (a b : ℕ). record { care = a; value = b }) (zero-mul (2 ^ (j - D.g))) (zero-mul (2 ^ (j - D.g)))

      even : D.mask.value % 2 ≡ 1 → ⊥
      even o = omega (arith, o, v)

      none : (2 ^ (j - D.g) - 1) * (D.mask.care % 2) ≡ 0
      none = ap (λ (c : ℕ). (2 ^ (j - D.g) - 1) * (c % 2)) z ∙ mul-zero (2 ^ (j - D.g) - 1)

      go : Dec (j ≤ D.g + 1) → InWay D j t n
      go (yes h) = record {
        upper = subst (Meets n) (sym (upper_near D j h ∙ moved (D.g + 1 - j))) (and_zero_r n);
        lower = subst (Meets n) (sym (lower_near D j h t)) (and_zero_r n);
      }
      go (no h) =
          let l : D.g + 1 < j = omega arith in
          record {
            upper = subst (Meets n) (sym (upper_far D j l ∙ ap (raised (j - D.g)) (moved 1) ∙ nothing)) (and_zero_r n);
            lower = rw (lower_zeros D j l t even, none) (and_zero_r n);
          }

-- a number of N digits, not 0, by the ways that are left for it
module _ (F : Format) (q : ℕ) (u : exponent.Unit) (D : Dropped) where
  module _ (N : ℕ) where
    ways_at_free : D.mask.care ≡ 0 → ways_at q F.f u D N ≡ 1
    unfolding ways_at
    ways_at_free z = rw (eq-eqb _ _ z)

    ways_at_none : (D.mask.care ≡ 0 → ⊥) → N + u.0 < aligned_bits q F.f → ways_at q F.f u D N ≡ 0
    unfolding ways_at
    ways_at_none n l = rw (ne_eqb _ _ n, lt-ltb _ _ l)

    ways_at_some : (D.mask.care ≡ 0 → ⊥) → aligned_bits q F.f ≤ N + u.0 → ways_at q F.f u D N ≡ ways_of D (N - (F.f + 1))
    unfolding ways_at
    ways_at_some n l = rw (ne_eqb _ _ n, le-ltb _ _ l)

    pub ways_at_of : (t : ℕ) → (D.mask.care ≡ 0 → ⊥) → t < ways_at q F.f u D N → t < ways_of D (N - (F.f + 1))
    ways_at_of t fixed lt = go (dec_lt (N + u.0) (aligned_bits q F.f))
      where
        go : Dec (N + u.0 < aligned_bits q F.f) → t < ways_of D (N - (F.f + 1))
        go (yes l) = absurd (omega (arith, lt, ways_at_none fixed l))
        go (no l) = rw (ways_at_some fixed (omega arith)) at lt

    pub drops_in_way : ValidDropped D → (x : ℕ) → 0 < x → size x ≡ N → DropsAs F q u D x ↔ ((t : ℕ) × (t < ways_at q F.f u D N) × InWay D (N - (F.f + 1)) t x)
    drops_in_way valid x pos digits = go (ℕ_discrete D.mask.care 0) (dec_lt (N + u.0) (aligned_bits q F.f))
      where
        j : ℕ
        j = N - (F.f + 1)

        ways : Meets (dropped_word F D.g x) D.mask ↔ ((t : ℕ) × (t < ways_of D (N - (F.f + 1))) × InWay D (N - (F.f + 1)) t x)
        ways = in_way F D valid (N - (F.f + 1)) x (ap (λ (n : ℕ). n - (F.f + 1)) digits)

        go : Dec (D.mask.care ≡ 0) → Dec (N + u.0 < aligned_bits q F.f) → DropsAs F q u D x ↔ ((t : ℕ) × (t < ways_at q F.f u D N) × InWay D (N - (F.f + 1)) t x)
        go (yes z) l = ((λ p. (0, rw (ways_at_free z) (omega arith), free_in_way D valid z (N - (F.f + 1)) 0 x)), λ p. inl z)
        go (no n) (yes l) = (
          (λ p. absurd (⊎_elim n (λ r. omega (arith, r.0.reaches, l, digits)) p)),
          λ p. absurd (omega (arith, p.1, ways_at_none n l)),
        )
        go (no n) (no l) =
            let le : aligned_bits q F.f ≤ N + u.0 = omega arith in (
              (λ p. ⊎_elim (λ z. absurd (n z)) (λ r. let w = ways.0 r.1 in (w.0, rw (ways_at_some n le) w.1, w.2)) p),
              λ p. inr (record { some = pos; reaches = omega (arith, le, digits) }, ways.1 (p.0, rw (ways_at_some n le) at p.1, p.2)),
            )
