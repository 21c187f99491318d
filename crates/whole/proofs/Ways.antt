-- The ways of the adder are the steps of the machine: a column leads from one carry to another exactly where z may be 0 or 1 at these
-- carries. A set of carries that stands in its column goes by them to the next. Assumes nothing.
use mathlib.Core.Path.{◌≡◌, sym, ap, ap₂, ◌∙◌, subst}
use mathlib.Core.Bool.{Bool, true, false, not, ◌&&◌, ◌||◌}
use Prim.Native.Nat.{ℕ, suc, ◌+◌, ◌/◌, ◌%◌, ◌<◌}
use native.Mathlib.Omega.{arith}
use borrow.Author.Tests.{eqb-true, eq-eqb}
use lib.Bits.{bit_and, bit_or}
use lib.Dec.{eqb}
use Rattle.columns.specs.Machine.{some, into}
use Rattle.columns.proofs.Some.{some_sound, some_complete}
use Rattle.mask.specs.Mask.{high}
use Rattle.chain.specs.declared.ways.Ways.{Ways}
use Rattle.chain.specs.Ways.{mem, digit, lets, may, way, either, way_of}
use Rattle.chain.specs.Walk.{flag}
use Rattle.chain.proofs.Words.{digit_lt, as_test, flag_and, flag_or, flag_test}
use Rattle.chain.proofs.Column.{same_test, either_sound, either_complete, Way, way_sound, way_complete, lets_next}
use Rattle.whole.specs.declared.Masks.{Masks}
use Rattle.whole.specs.declared.left.Carries.{Carries}
use Rattle.whole.specs.declared.left.Table.{Table}
use Rattle.whole.specs.Column.{at, step}
use Rattle.whole.specs.Carries.{carry_word, ways_to, flags}
use Rattle.whole.proofs.Exact.{Column, step_live, step_next}

-- ---- ways and steps

module _ (s : Masks) (i : ℕ) where
  -- z may be b in column i, at the carry c into it and the carry d out of it
  abbrev pub way_at : Bool → Bool → Bool → Bool
  way_at c d b = way_of false (lets s.x i) (lets s.y i) (lets s.z i) (lets (high 1 s.carries) i) c d b

  abbrev WayAt : Bool → Bool → Bool → Type 0
  WayAt c d b = Way false (lets s.x i) (lets s.y i) (lets s.z i) (lets (high 1 s.carries) i) c d b

  module _ (c d : Bool) where
    steps : (b : Bool) → WayAt c d b → into (step s) i (digit c) (digit d) ≡ true
    unfolding into
    steps b w =
        let l = digit w.a in
        let r = digit w.r in
        let rest : (l + r + digit c) % 2 ≡ digit b = omega (arith, w.adds, digit_lt b) in
        let carry : (l + r + digit c) / 2 ≡ digit d = omega (arith, w.adds, digit_lt b) in
        let col : Column s i (digit c) l r = record {
          at_x = w.at_l;
          at_y = w.at_t;
          at_z = rw rest w.at_x;
          at_carries = rw carry (sym (lets_next s.carries i d) ∙ w.at_c);
        } in
        some_complete 2 (λ l. some 2 (λ r. eqb (step s i (digit c) l r) (digit d))) l (digit_lt w.a)
        (some_complete 2 (λ r. eqb (step s i (digit c) l r) (digit d)) r (digit_lt w.r)
        (eq-eqb (step s i (digit c) l r) (digit d) (step_next s i (digit c) l r (digit_lt c) col ∙ carry)))

    ways : into (step s) i (digit c) (digit d) ≡ true → (b : Bool) × WayAt c d b
    unfolding into
    ways e =
        let u = some_sound 2 (λ l. some 2 (λ r. eqb (step s i (digit c) l r) (digit d))) e in
        let v = some_sound 2 (λ r. eqb (step s i (digit c) u.0 r) (digit d)) u.2 in
        let l = as_test u.0 u.1 in
        let r = as_test v.0 v.1 in
        let sum = u.0 + v.0 + digit c in
        let b = as_test (sum % 2) (omega arith) in
        let there : step s i (digit c) u.0 v.0 ≡ digit d = eqb-true (step s i (digit c) u.0 v.0) (digit d) v.2 in
        let col = (step_live s i (digit c) u.0 v.0 (subst (λ (k : ℕ). k < 2) (sym there) (digit_lt d))).1 in
        let carry : sum / 2 ≡ digit d = sym (step_next s i (digit c) u.0 v.0 (digit_lt c) col) ∙ there in (
          b.0,
          record {
            a = l.0;
            r = r.0;
            adds = omega (arith, l.1, r.1, b.1, carry);
            at_l = rw l.1 col.at_x;
            at_t = rw r.1 col.at_y;
            at_x = rw b.1 col.at_z;
            at_c = lets_next s.carries i d ∙ ap (at s.carries (suc i)) (sym carry) ∙ col.at_carries;
          },
        )

    ways_into : either (way_at c d) ≡ into (step s) i (digit c) (digit d)
    ways_into =
        same_test (either (way_at c d)) (into (step s) i (digit c) (digit d))
        (λ e. let b = either_sound (way_at c d) e in steps b.0 (way_sound false _ _ _ _ c d b.0 b.1))
        (λ e. let b = ways e in either_complete (way_at c d) b.0 (way_complete false _ _ _ _ c d b.0 b.1))

  -- so a table of the columns where z may be 0 or 1 tells the steps
  module _ (w : Ways) (of : (c d b : Bool) → may (way w c d) i b ≡ way_at c d b) (v : Table)
      (e00 : mem v.to0.zero i ≡ either (may w.c00 i)) (e10 : mem v.to0.one i ≡ either (may w.c10 i))
      (e01 : mem v.to1.zero i ≡ either (may w.c01 i)) (e11 : mem v.to1.one i ≡ either (may w.c11 i)) where
    tells : (c d : Bool) → mem (carry_word (ways_to v (digit d)) (digit c)) i ≡ either (may (way w c d) i)
    tells false false = e00
    tells true false = e10
    tells false true = e01
    tells true true = e11

    told : (c d : Bool) → mem (carry_word (ways_to v (digit d)) (digit c)) i ≡ into (step s) i (digit c) (digit d)
    told c d = tells c d ∙ ap₂ (λ (p q : Bool). p || q) (of c d false) (of c d true) ∙ ways_into c d

    pub table_into : (c t : ℕ) → c < 2 → t < 2 → mem (carry_word (ways_to v t) c) i ≡ into (step s) i c t
    table_into c t hc ht =
        let p = as_test c hc in
        let q = as_test t ht in
        subst (λ (c : ℕ). mem (carry_word (ways_to v t) c) i ≡ into (step s) i c t) p.1
        (subst (λ (t : ℕ). mem (carry_word (ways_to v t) (digit p.0)) i ≡ into (step s) i (digit p.0) t) q.1 (told p.0 q.0))

-- ---- a set in its column

module _ (i : ℕ) (b : ℕ → Bool) (set : Carries) (e : set ≡ flags b i) where
  pub lead_flag : (to : Carries) → bit_or (bit_and set.zero to.zero) (bit_and set.one to.one) ≡ flag (some 2 (λ c. b c && mem (carry_word to c) i)) i
  lead_flag to =
      ap (λ (v : Carries). bit_or (bit_and v.zero to.zero) (bit_and v.one to.one)) e
      ∙ ap₂ bit_or (flag_and i (b 0) to.zero) (flag_and i (b 1) to.one)
      ∙ flag_or i (b 0 && mem to.zero i) (b 1 && mem to.one i)

  pub any_flag : not (eqb (bit_or set.zero set.one) 0) ≡ some 2 b
  any_flag =
      ap (λ (v : Carries). not (eqb (bit_or v.zero v.one) 0)) e
      ∙ ap (λ (u : ℕ). not (eqb u 0)) (flag_or i (b 0) (b 1))
      ∙ flag_test i (b 0 || b 1)
