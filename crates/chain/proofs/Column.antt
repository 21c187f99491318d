-- One adder's columns. A test of a way holds exactly where two bits make the column add up; a difference is the sum with l and x turned
-- over, since b + r + cin = a + 2 cout is (1 - a) + r + cin = (1 - b) + 2 cout. Assumes nothing.
use mathlib.Core.Path.{◌≡◌, refl, sym, ap, ap₂, ◌∙◌, fun_ext}
use mathlib.Core.Bool.{Bool, true, false, not, ◌&&◌, cond, and-eq-true_iff, or-false}
use mathlib.Core.Logic.{⊎_elim}
use Prim.Native.Nat.{ℕ, suc, ◌+◌, ◌*◌}
use native.Mathlib.Omega.{arith}
use borrow.Author.Tests.{eqb-true, eq-eqb}
use lib.Bits.{bit_and, bit_or}
use lib.Dec.{eqb}
use Rattle.bits.proofs.Laws.{bit_shr}
use Rattle.columns.specs.Column.{allows}
use Rattle.columns.proofs.Some.{or_cases, or_left, or_right}
use Rattle.mask.specs.Mask.{high}
use Rattle.mask.specs.declared.Mask.{Mask}
use Rattle.chain.specs.declared.ways.Places.{Places}
use Rattle.chain.specs.declared.ways.Ways.{Ways}
use Rattle.chain.specs.Ways.{mem, digit, lets, side, may, way, turned_of, either, balanced, way_of}
use Rattle.chain.proofs.Words.{mem_and, mem_or, mem_zero}

-- ---- tests

pub same_test : (a b : Bool) → (a ≡ true → b ≡ true) → (b ≡ true → a ≡ true) → a ≡ b
same_test true b p q = sym (p refl)
same_test false true p q = q refl
same_test false false p q = refl

pub both : {a b : Bool} → (a && b) ≡ true → (a ≡ true) × (b ≡ true)
both {a} {b} e = (and-eq-true_iff a b).0 e

pub and_both : {a b : Bool} → a ≡ true → b ≡ true → (a && b) ≡ true
and_both {a} {b} p q = (and-eq-true_iff a b).1 (p, q)

pub either_sound : (f : Bool → Bool) → either f ≡ true → (b : Bool) × (f b ≡ true)
either_sound f e = ⊎_elim (λ h. (false, h)) (λ h. (true, h)) (or_cases (f false) (f true) e)

pub either_complete : (f : Bool → Bool) (b : Bool) → f b ≡ true → either f ≡ true
either_complete f false e = or_left (f false) (f true) e
either_complete f true e = or_right (f false) (f true) e

-- ---- ways

pub record Way (subtract : Bool) (l t x c : Bool → Bool) (cin cout b : Bool) : Type 0 where
  pub a : Bool
  pub r : Bool
  pub adds : digit (cond subtract b a) + digit r + digit cin ≡ digit (cond subtract a b) + 2 * digit cout
  pub at_l : l a ≡ true
  pub at_t : t r ≡ true
  pub at_x : x b ≡ true
  pub at_c : c cout ≡ true

module _ (subtract : Bool) (l t x c : Bool → Bool) (cin cout b : Bool) where
  test : Bool → Bool → Bool
  test a r = balanced subtract cin cout b a r && (l a && t r)

  pub way_sound : way_of subtract l t x c cin cout b ≡ true → Way subtract l t x c cin cout b
  unfolding way_of test
  way_sound e =
      let o = both e in
      let o' = both o.1 in
      let p = either_sound (λ a. either (test a)) o.0 in
      let q = either_sound (test p.0) p.1 in
      let k = both q.1 in
      let k' = both k.1 in
      record { a = p.0; r = q.0; adds = eqb-true _ _ k.0; at_l = k'.0; at_t = k'.1; at_x = o'.0; at_c = o'.1 }

  pub way_complete : Way subtract l t x c cin cout b → way_of subtract l t x c cin cout b ≡ true
  unfolding way_of test
  way_complete w =
      and_both
      (either_complete (λ a. either (test a)) w.a
      (either_complete (test w.a) w.r (and_both (eq-eqb _ _ w.adds) (and_both w.at_l w.at_t))))
      (and_both w.at_x w.at_c)

-- ---- turning over

digit_not : (b : Bool) → digit (not b) + digit b ≡ 1
digit_not true = refl
digit_not false = refl

not_not : (f : Bool → Bool) (b : Bool) → f b ≡ true → f (not (not b)) ≡ true
not_not f true e = e
not_not f false e = e

pub way_turned : (l t x c : Bool → Bool) (cin cout b : Bool)
    → way_of false (λ a. l (not a)) t (λ a. x (not a)) c cin cout (not b) ≡ way_of true l t x c cin cout b
way_turned l t x c cin cout b =
    same_test (way_of false l' t x' c cin cout (not b)) (way_of true l t x c cin cout b)
    (λ e.
    let w = way_sound false l' t x' c cin cout (not b) e in
    way_complete true l t x c cin cout b (record {
      a = not w.a;
      r = w.r;
      adds = omega (arith, w.adds, digit_not b, digit_not w.a);
      at_l = w.at_l;
      at_t = w.at_t;
      at_x = back x b w.at_x;
      at_c = w.at_c;
    }))
    (λ e.
    let w = way_sound true l t x c cin cout b e in
    way_complete false l' t x' c cin cout (not b) (record {
      a = not w.a;
      r = w.r;
      adds = omega (arith, w.adds, digit_not b, digit_not w.a);
      at_l = not_not l w.a w.at_l;
      at_t = w.at_t;
      at_x = not_not x b w.at_x;
      at_c = w.at_c;
    }))
  where
    l' : Bool → Bool
    l' a = l (not a)

    x' : Bool → Bool
    x' a = x (not a)

    back : (f : Bool → Bool) (b : Bool) → f (not (not b)) ≡ true → f b ≡ true
    back f true e = e
    back f false e = e

-- ---- what the code makes

module _ (u t y c : Places) (i : ℕ) where
  abbrev none : ℕ
  none = bit_and u.zero t.zero

  abbrev one : ℕ
  one = bit_or (bit_and u.zero t.one) (bit_and u.one t.zero)

  abbrev two : ℕ
  two = bit_and u.one t.one

  abbrev sums : Ways
  sums = record {
    c00 = record { zero = bit_and none (bit_and y.zero c.zero); one = bit_and one (bit_and y.one c.zero) };
    c01 = record { zero = bit_and two (bit_and y.zero c.one); one = 0 };
    c10 = record { zero = 0; one = bit_and none (bit_and y.one c.zero) };
    c11 = record { zero = bit_and one (bit_and y.zero c.one); one = bit_and two (bit_and y.one c.one) };
  }

  pub sums_way : (cin cout b : Bool)
      → may (way sums cin cout) i b
      ≡ way_of false (may u i) (may t i) (may y i) (may c i) cin cout b
  unfolding way_of
  sums_way false false false = simp (mem_and, or-false)
  sums_way false false true = simp (mem_and, mem_or, or-false)
  sums_way false true false = simp mem_and
  sums_way false true true = mem_zero i
  sums_way true false false = mem_zero i
  sums_way true false true = simp (mem_and, or-false)
  sums_way true true false = simp (mem_and, mem_or, or-false)
  sums_way true true true = simp mem_and

-- the ways of an adder go by its wires' tests
pub way_cong : (s : Bool) (l l' t t' x x' c c' : Bool → Bool) → ((a : Bool) → l a ≡ l' a) → ((a : Bool) → t a ≡ t' a) → ((a : Bool) → x a ≡ x' a)
    → ((a : Bool) → c a ≡ c' a) → (cin cout b : Bool) → way_of s l t x c cin cout b ≡ way_of s l' t' x' c' cin cout b
way_cong s l l' t t' x x' c c' pl pt px pc cin cout b =
    ap₂ (λ (f g : Bool → Bool). way_of s f g x c cin cout b) (fun_ext pl) (fun_ext pt)
    ∙ ap₂ (λ (f g : Bool → Bool). way_of s l' t' f g cin cout b) (fun_ext px) (fun_ext pc)

side_turned : (p : Places) (b : Bool) → side (turned_of true p) b ≡ side p (not b)
side_turned p true = refl
side_turned p false = refl

-- the mask of the carries out: bit i of the mask without its lowest bit is bit i + 1
pub lets_next : (m : Mask) (i : ℕ) (b : Bool) → lets (high 1 m) i b ≡ allows m.care m.value (suc i) (digit b)
lets_next m i b =
    let e : 1 + i ≡ suc i = omega arith in
    ap₂ (λ (u v : ℕ). eqb (bit_and (digit b) u) v) (bit_shr m.care 1 i) (bit_shr m.value 1 i)
    ∙ ap (λ (j : ℕ). allows m.care m.value j (digit b)) e

-- the places p are those that the mask m leaves in column i
abbrev pub PlacesOf : Mask → ℕ → Places → Type 0
PlacesOf m i p = (b : Bool) → may p i b ≡ lets m i b

module _ (l t x c : Mask) (pl pt px pc : Places) (w : Ways) (i : ℕ) (hl : PlacesOf l i pl) (ht : PlacesOf t i pt) (hx : PlacesOf x i px) (hc : PlacesOf c i pc) where
  pub adder_way : (subtract : Bool)
      → ((cin cout b : Bool) → may (way w cin cout) i b ≡ way_of false (may (turned_of subtract pl) i) (may pt i) (may (turned_of subtract px) i) (may pc i) cin cout b)
      → (cin cout b : Bool)
      → may (turned_of subtract (way w cin cout)) i b ≡ way_of subtract (lets l i) (lets t i) (lets x i) (lets c i) cin cout b
  adder_way false e cin cout b =
      e cin cout b
      ∙ way_cong false (may pl i) (lets l i) (may pt i) (lets t i) (may px i) (lets x i) (may pc i) (lets c i) hl ht hx hc cin cout b
  adder_way true e cin cout b =
      let over : (m : Mask) (p : Places) → PlacesOf m i p → (a : Bool) → may (turned_of true p) i a ≡ lets m i (not a) =
      λ m p h a. ap (λ (v : ℕ). mem v i) (side_turned p a) ∙ h (not a) in
      ap (λ (v : ℕ). mem v i) (side_turned (way w cin cout) b)
      ∙ e cin cout (not b)
      ∙ way_cong false (may (turned_of true pl) i) (λ a. lets l i (not a)) (may pt i) (lets t i) (may (turned_of true px) i) (λ a. lets x i (not a)) (may pc i) (lets c i) (over l pl hl) ht (over x px hx) hc cin cout (not b)
      ∙ way_turned (lets l i) (lets t i) (lets x i) (lets c i) cin cout b
