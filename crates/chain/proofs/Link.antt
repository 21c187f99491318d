-- The two adders' ways, joined at the wire x, are the steps of the machine: the bits of a way are those that the step computes.
-- Assumes nothing.
use mathlib.Core.Path.{◌≡◌, refl, sym, ap, ap₂, ◌∙◌, subst}
use mathlib.Core.Bool.{Bool, true, false, ◌&&◌, ◌||◌, cond}
use Prim.Native.Nat.{ℕ, zero, suc, ◌+◌, ◌-◌, ◌*◌, ◌/◌, ◌%◌, ◌^◌, ◌<◌}
use native.Mathlib.Nat.{div-eq_of_lt}
use native.Mathlib.Omega.{arith}
use borrow.Author.Tests.{eqb-true, eq-eqb}
use lib.Bits.{bit_and, and_zero_r}
use lib.Dec.{eqb}
use lib.Pow.{pow_pos}
use Rattle.bits.specs.Bit.{bit}
use Rattle.bits.proofs.Laws.{bit_lt}
use Rattle.columns.specs.Column.{allows}
use Rattle.columns.specs.Machine.{some, into}
use Rattle.columns.proofs.Some.{some_sound, some_complete}
use Rattle.mask.specs.Mask.{high}
use Rattle.mask.specs.declared.Mask.{Mask}
use Rattle.chain.specs.declared.Wires.{Wires}
use Rattle.chain.specs.declared.ways.Places.{Places}
use Rattle.chain.specs.declared.ways.Ways.{Ways}
use Rattle.chain.specs.declared.walk.States.{States}
use Rattle.chain.specs.declared.walk.Table.{Table}
use Rattle.chain.specs.Ways.{mem, digit, lets, may, way, either, way_of, second_of, linked}
use Rattle.chain.specs.Walk.{first_sum, l_bit, x_bit, second_sum, step, state, state_word, ways_to}
use Rattle.chain.proofs.Words.{digit_lt, as_test, ones_bit}
use Rattle.chain.proofs.Column.{same_test, both, and_both, either_sound, either_complete, Way, way_sound, way_complete, way_cong, lets_next}
use Rattle.chain.proofs.Step.{Fine, step_is, step_fine, next_state}

-- ---- masks of the second adder

lets_fixed : (k i : ℕ) → i < 64 → (b : Bool) → lets (record { care = 2 ^ 64 - 1; value = k }) i b ≡ eqb (digit b) (bit k i)
lets_fixed k i h b = ap (λ (u : ℕ). eqb (bit_and (digit b) u) (bit k i)) (ones_bit 64 i h) ∙ go b
  where
    go : (b : Bool) → eqb (bit_and (digit b) 1) (bit k i) ≡ eqb (digit b) (bit k i)
    go true = refl
    go false = refl

lets_free : (i : ℕ) (b : Bool) → lets (record { care = 0; value = 0 }) i b ≡ true
lets_free i b =
    let none : bit 0 i ≡ 0 = ap (λ (u : ℕ). u % 2) (div-eq_of_lt (pow_pos i)) in
    rw (none, and_zero_r (digit b))

pub second_way : (z : Mask) (k i : ℕ) → i < 64 → (cin cout b : Bool)
    → way_of true (lets z i) (lets (record { care = 2 ^ 64 - 1; value = k }) i) (lets (record { care = 0; value = 0 }) i) (lets (record { care = 0; value = 0 }) i) cin cout b
    ≡ second_of z k i cin cout b
unfolding second_of
second_way z k i h = way_cong true _ _ _ _ _ _ _ _ (λ a. refl) (lets_fixed k i h) (lets_free i) (lets_free i)

-- ---- bits as tests and as numbers

-- l and x are the number read and the sum, or the other way round
pick_l : (s a b : Bool) → cond s (digit (cond s a b)) (digit (cond s b a)) ≡ digit a
pick_l true a b = refl
pick_l false a b = refl

pick_x : (s a b : Bool) → cond s (digit (cond s b a)) (digit (cond s a b)) ≡ digit b
pick_x true a b = refl
pick_x false a b = refl

read : (s a b : Bool) (p q : ℕ) → digit a ≡ cond s q p → digit b ≡ cond s p q → (digit (cond s b a) ≡ p) × (digit (cond s a b) ≡ q)
read true a b p q ea eb = (eb, ea)
read false a b p q ea eb = (ea, eb)

cond_lt : (s : Bool) (p q : ℕ) → p < 2 → q < 2 → cond s p q < 2
cond_lt true p q hp hq = hp
cond_lt false p q hp hq = hq

module _ (w : Wires) (i : ℕ) (c d e f : Bool) where
  abbrev first : Bool → Bool
  first b = way_of w.subtract (lets w.l i) (lets w.t i) (lets w.x i) (lets (high 1 w.carries) i) c d b

  abbrev second : Bool → Bool
  second b = second_of w.z w.constant i e f b

  abbrev First : Bool → Type 0
  First b = Way w.subtract (lets w.l i) (lets w.t i) (lets w.x i) (lets (high 1 w.carries) i) c d b

  abbrev Second : Bool → Type 0
  Second b = Way true (lets w.z i) (λ r. eqb (digit r) (bit w.constant i)) (λ x. true) (λ c. true) e f b

  state_lt : (c e : Bool) → state c e < 4
  state_lt c e = omega (arith, digit_lt c, digit_lt e)

  state_low : state c e % 2 ≡ digit c
  state_low = omega (arith, digit_lt c, digit_lt e)

  state_high : state c e / 2 ≡ digit e
  state_high = omega (arith, digit_lt c, digit_lt e)

  steps : (b : Bool) → First b → Second b → into (step w) i (state c e) (state d f) ≡ true
  unfolding into
  steps b u v =
      let sub = w.subtract in
      let s = state c e in
      let p = digit (cond sub b u.a) in
      let q = digit (cond sub u.a b) in
      let r = digit u.r in
      let sum : first_sum s p r ≡ q + 2 * digit d = ap (λ (k : ℕ). p + r + k) state_low ∙ u.adds in
      let rest : first_sum s p r % 2 ≡ q = omega (arith, sum, digit_lt (cond sub u.a b)) in
      let carry : first_sum s p r / 2 ≡ digit d = omega (arith, sum, digit_lt (cond sub u.a b)) in
      let l : l_bit sub s p r ≡ digit u.a = ap (λ (k : ℕ). cond sub k p) rest ∙ pick_l sub u.a b in
      let x : x_bit sub s p r ≡ digit b = ap (λ (k : ℕ). cond sub p k) rest ∙ pick_x sub u.a b in
      let k : digit v.r ≡ bit w.constant i = eqb-true (digit v.r) (bit w.constant i) v.at_t in
      let sum2 : second_sum w i s p r ≡ digit v.a + 2 * digit f = ap₂ (λ (m n : ℕ). m + bit w.constant i + n) x state_high ∙ omega (arith, k, v.adds) in
      let rest2 : second_sum w i s p r % 2 ≡ digit v.a = omega (arith, sum2, digit_lt v.a) in
      let carry2 : second_sum w i s p r / 2 ≡ digit f = omega (arith, sum2, digit_lt v.a) in
      let fine : Fine w i s p r = record {
        at_l = rw l u.at_l;
        at_t = u.at_t;
        at_x = rw x u.at_x;
        at_carries = rw carry (sym (lets_next w.carries i d) ∙ u.at_c);
        at_z = rw rest2 v.at_l;
      } in
      let there : step w i s p r ≡ state d f = step_is w i s p r (state_lt c e) fine ∙ ap₂ (λ (m n : ℕ). m * 2 + n) carry2 carry in
      some_complete 2 (λ p. some 2 (λ r. eqb (step w i s p r) (state d f))) p (digit_lt (cond sub b u.a))
      (some_complete 2 (λ r. eqb (step w i s p r) (state d f)) r (digit_lt u.r) (eq-eqb (step w i s p r) (state d f) there))

  ways : into (step w) i (state c e) (state d f) ≡ true → (b : Bool) × First b × Second b
  unfolding into
  ways h =
      let sub = w.subtract in
      let s = state c e in
      let t = state d f in
      let u = some_sound 2 (λ p. some 2 (λ r. eqb (step w i s p r) t)) h in
      let p = u.0 in
      let v = some_sound 2 (λ r. eqb (step w i s p r) t) u.2 in
      let r = v.0 in
      let there : step w i s p r ≡ t = eqb-true (step w i s p r) t v.2 in
      let fine : Fine w i s p r = step_fine w i s p r (subst (λ (k : ℕ). k < 4) (sym there) (state_lt d f)) in
      let next : next_state w i s p r ≡ t = sym (step_is w i s p r (state_lt c e) fine) ∙ there in
      let carries = parts (first_sum s p r / 2) (second_sum w i s p r / 2) (first_lt p r u.1 v.1) next in
      let a = as_test (l_bit sub s p r) (cond_lt sub (first_sum s p r % 2) p (omega arith) u.1) in
      let b = as_test (x_bit sub s p r) (cond_lt sub p (first_sum s p r % 2) u.1 (omega arith)) in
      let k = as_test (bit w.constant i) (bit_lt w.constant i) in
      let r' = as_test r v.1 in
      let z = as_test (second_sum w i s p r % 2) (omega arith) in
      let pq = read sub a.0 b.0 p (first_sum s p r % 2) a.1 b.1 in (
        b.0,
        record {
          a = a.0;
          r = r'.0;
          adds = added pq.0 pq.1 r'.1 carries.0;
          at_l = rw a.1 fine.at_l;
          at_t = rw r'.1 fine.at_t;
          at_x = rw b.1 fine.at_x;
          at_c = lets_next w.carries i d ∙ ap (λ (n : ℕ). allows w.carries.care w.carries.value (suc i) n) (sym carries.0) ∙ fine.at_carries;
        },
        record {
          a = z.0;
          r = k.0;
          adds = added2 b.1 k.1 z.1 carries.1;
          at_l = rw z.1 fine.at_z;
          at_t = eq-eqb (digit k.0) (bit w.constant i) k.1;
          at_x = refl;
          at_c = refl;
        },
      )
    where
      first_lt : (p r : ℕ) → p < 2 → r < 2 → first_sum (state c e) p r / 2 < 2
      first_lt p r hp hr = omega arith

      parts : (n m : ℕ) → n < 2 → m * 2 + n ≡ state d f → (n ≡ digit d) × (m ≡ digit f)
      parts n m h g = (omega (arith, digit_lt d), omega (arith, digit_lt d))

      added : {P R Q p r : ℕ} → P ≡ p → Q ≡ first_sum (state c e) p r % 2 → R ≡ r → first_sum (state c e) p r / 2 ≡ digit d → P + R + digit c ≡ Q + 2 * digit d
      added g q h k = omega (arith, state_low)

      added2 : {B K Z x k : ℕ} → B ≡ x → K ≡ k → Z ≡ (x + k + state c e / 2) % 2 → (x + k + state c e / 2) / 2 ≡ digit f → B + K + digit e ≡ Z + 2 * digit f
      added2 g h q k = omega (arith, state_high)

  pub link_into : either (λ b. first b && second b) ≡ into (step w) i (state c e) (state d f)
  unfolding second_of
  link_into =
      same_test (either (λ b. first b && second b)) (into (step w) i (state c e) (state d f))
      (λ h.
      let b = either_sound (λ b. first b && second b) h in
      let o = both b.1 in
      steps b.0 (way_sound w.subtract (lets w.l i) (lets w.t i) (lets w.x i) (lets (high 1 w.carries) i) c d b.0 o.0)
      (way_sound true (lets w.z i) (λ r. eqb (digit r) (bit w.constant i)) (λ x. true) (λ c. true) e f b.0 o.1))
      (λ h.
      let b = ways h in
      either_complete (λ b. first b && second b) b.0
      (and_both (way_complete w.subtract (lets w.l i) (lets w.t i) (lets w.x i) (lets (high 1 w.carries) i) c d b.0 b.1)
      (way_complete true (lets w.z i) (λ r. eqb (digit r) (bit w.constant i)) (λ x. true) (λ c. true) e f b.0 b.2)))

-- ---- a table of such ways

way_cond : (f : Ways) (c d : Bool) → cond c (way f true d) (way f false d) ≡ way f c d
way_cond f true d = refl
way_cond f false d = refl

as_state : (s : ℕ) → s < 4 → (c e : Bool) × (state c e ≡ s)
as_state zero h = (false, false, refl)
as_state (suc zero) h = (true, false, refl)
as_state (suc (suc zero)) h = (false, true, refl)
as_state (suc (suc (suc zero))) h = (true, true, refl)
as_state (suc (suc (suc (suc s)))) h = absurd (omega arith)

module _ (w : Wires) (f g : Ways) (i : ℕ)
    (of-f : (c d b : Bool) → may (way f c d) i b ≡ way_of w.subtract (lets w.l i) (lets w.t i) (lets w.x i) (lets (high 1 w.carries) i) c d b)
    (of-g : (c d b : Bool) → may (way g c d) i b ≡ second_of w.z w.constant i c d b) where
  linked_into : (c d e k : Bool) → linked (way f c d) (way g e k) i ≡ into (step w) i (state c e) (state d k)
  linked_into c d e k =
      let at : (b : Bool) → (may (way f c d) i b && may (way g e k) i b) ≡ (first w i c d e k b && second w i c d e k b) =
      λ b. ap₂ (λ (p q : Bool). p && q) (of-f c d b) (of-g e k b) in
      ap₂ (λ (p q : Bool). p || q) (at false) (at true) ∙ link_into w i c d e k

  -- v are the columns that lead to the carries out d and k
  abbrev Leading : Bool → Bool → States → Type 0
  Leading d k v = (c e : Bool) → mem (state_word v (state c e)) i ≡ linked (cond c (way f true d) (way f false d)) (cond e (way g true k) (way g false k)) i

  leading_into : (v : States) (d k : Bool) → Leading d k v → (s : ℕ) → s < 4 → mem (state_word v s) i ≡ into (step w) i s (state d k)
  leading_into v d k leads s h =
      let o = as_state s h in
      subst (λ (s : ℕ). mem (state_word v s) i ≡ into (step w) i s (state d k)) o.2
      (leads o.0 o.1 ∙ ap₂ (λ (p q : Places). linked p q i) (way_cond f o.0 d) (way_cond g o.1 k) ∙ linked_into o.0 d o.1 k)

  pub table_into : (v : Table) → Leading false false v.to0 → Leading true false v.to1 → Leading false true v.to2 → Leading true true v.to3
      → (s t : ℕ) → s < 4 → t < 4 → mem (state_word (ways_to v t) s) i ≡ into (step w) i s t
  table_into v r0 r1 r2 r3 s zero hs ht = leading_into v.to0 false false r0 s hs
  table_into v r0 r1 r2 r3 s (suc zero) hs ht = leading_into v.to1 true false r1 s hs
  table_into v r0 r1 r2 r3 s (suc (suc zero)) hs ht = leading_into v.to2 false true r2 s hs
  table_into v r0 r1 r2 r3 s (suc (suc (suc zero))) hs ht = leading_into v.to3 true true r3 s hs
  table_into v r0 r1 r2 r3 s (suc (suc (suc (suc t)))) hs ht = absurd (omega arith)
