-- The replies of joining: what the joined mask of a reply is met by, that masks are refused only where no word meets both, and that
-- joining well-formed masks in any order or grouping comes to the same reply, and with itself changes nothing. Assumes nothing.
use mathlib.Core.Logic.{◌↔◌}
use mathlib.Core.Path.{◌≡◌, refl, sym, ap, ap₂, ◌∙◌, subst, fun_ext}
use mathlib.Core.Bool.{Bool, true, false, ◌&&◌, and_comm, and-eq-true_iff}
use Prim.Native.Nat.{ℕ}
use native.Mathlib.Omega.{arith}
use borrow.Author.Tests.{eqb-true, eq-eqb}
use lib.Bits.{bit_and, or_self}
use Rattle.format.specs.declared.cause.Cause.TheVariants as cause
use Rattle.format.specs.declared.cause.Cause.{Cause}
use Rattle.format.specs.Cause.{unless, first}
use Rattle.mask.specs.declared.Mask.{Mask}
use Rattle.std.specs.Prelude.{Result, Ok, Err}
use Rattle.mask.specs.Mask.{Inside, inside, Meets}
use Rattle.mask.specs.Join.{Agree, agree, joined, join}
use Rattle.mask.proofs.ByBits.{meets_inside}
use Rattle.mask.proofs.Checks.{inside_true}
use Rattle.mask.proofs.Joining.{or_assoc, agree_comm, joined_comm, joined_inside, joined_meets, meets_agree, agree_joined}

pub agree_true : (m n : Mask) → (agree m n ≡ true) ↔ Agree m n
agree_true m n =
    let both : ℕ = bit_and m.care n.care in
    (eqb-true (bit_and m.value both) (bit_and n.value both), eq-eqb (bit_and m.value both) (bit_and n.value both))

-- two tests that hold together are the same
same_test : (s t : Bool) → (s ≡ true) ↔ (t ≡ true) → s ≡ t
same_test true true e = refl
same_test true false e = sym (e.0 refl)
same_test false true e = e.1 refl
same_test false false e = refl

-- ---- one reply

-- where both values lie inside care
pub join_inside : (m n : Mask) → Inside m → Inside n → join m n ≡ first (unless (agree m n) cause.Clash) (Ok (joined m n))
unfolding join
join_inside m n hm hn = simp ((inside_true m).1 hm, (inside_true n).1 hn)

-- a reply with a mask
pub record Whole (m n j : Mask) : Type 0 where
  pub first : Inside m
  pub second : Inside n
  pub agrees : Agree m n
  pub mask : joined m n ≡ j

pub join_mask : (m n j : Mask) → join m n ≡ Ok j → Whole m n j
unfolding join
join_mask m n j = go (inside m && inside n) (agree m n) refl refl
  where
    go : (s t : Bool) → inside m && inside n ≡ s → agree m n ≡ t
        → first (unless s cause.Mask) (first (unless t cause.Clash) (Ok (joined m n))) ≡ Ok j → Whole m n j
    go false t p q e = absurd (let z : ◌≡◌ {A = ℕ} 0 1 = cc in omega arith)
    go true false p q e = absurd (let z : ◌≡◌ {A = ℕ} 0 1 = cc in omega arith)
    go true true p q e =
        let both = (and-eq-true_iff (inside m) (inside n)).0 p in
        record { first = (inside_true m).0 both.0; second = (inside_true n).0 both.1; agrees = (agree_true m n).0 q; mask = cc }

-- a word meets the mask of the reply exactly when it meets both
pub join_meets : (m n j : Mask) (x : ℕ) → join m n ≡ Ok j → Meets x j ↔ (Meets x m × Meets x n)
join_meets m n j x e =
    let h = join_mask m n j e in
    subst (λ (k : Mask). Meets x k ↔ (Meets x m × Meets x n)) h.mask (joined_meets m n h.first h.second h.agrees x)

-- masks are refused only where no word meets both
pub join_refused : (m n : Mask) (x : ℕ) (k : Cause) → join m n ≡ Err k → Meets x m → Meets x n → ⊥
join_refused m n x k e p q =
    let hm = meets_inside x m p in
    let hn = meets_inside x n q in
    let alike = (agree_true m n).1 (meets_agree m n hm hn x p q) in
    let is : join m n ≡ Ok (joined m n) = join_inside m n hm hn ∙ simp alike in
    let z : ◌≡◌ {A = ℕ} 0 1 = cc in
    omega arith

-- so too where the number is that of a clash
pub join_clash : (m n : Mask) (x : ℕ) → join m n ≡ Err cause.Clash → Meets x m → Meets x n → ⊥
join_clash m n x = join_refused m n x cause.Clash

-- ---- order and grouping
agree_swap : (m n : Mask) → agree m n ≡ agree n m
agree_swap m n =
    same_test (agree m n) (agree n m)
    ((λ e. (agree_true n m).1 (agree_comm m n ((agree_true m n).0 e))), λ e. (agree_true m n).1 (agree_comm n m ((agree_true n m).0 e)))

pub join_comm : (m n : Mask) → join m n ≡ join n m
unfolding join
join_comm m n = rw (and_comm (inside m) (inside n), joined_comm m n, agree_swap m n)

pub join_self : (m : Mask) → Inside m → join m m ≡ Ok m
join_self m h =
    join_inside m m h h ∙ ap (λ (t : Bool). first (unless t cause.Clash) (Ok (joined m m))) ((agree_true m m).1 refl)
    ∙ ap₂ (λ (c v : ℕ). Ok (record { care = c; value = v })) (or_self m.care) (or_self m.value)

-- go on with the mask of a reply; a refusal stays
abbrev pub and_then : Result Mask Cause → (Mask → Result Mask Cause) → Result Mask Cause
and_then (Ok m) f = f m
and_then (Err k) f = Err k

-- a third mask after two that agree
joined_agree : (m n o : Mask) → Inside m → Inside n → agree m n ≡ true → agree (joined m n) o ≡ agree m o && agree n o
joined_agree m n o hm hn e =
    let law = agree_joined m n o hm hn ((agree_true m n).0 e) in
    let both = and-eq-true_iff (agree m o) (agree n o) in
    same_test (agree (joined m n) o) (agree m o && agree n o) (
      (λ t. let p = law.0 ((agree_true (joined m n) o).0 t) in both.1 ((agree_true m o).1 p.0, (agree_true n o).1 p.1)),
      λ t. (agree_true (joined m n) o).1 (law.1 ((agree_true m o).0 (both.0 t).0, (agree_true n o).0 (both.0 t).1)),
    )

pub joined_assoc : (m n o : Mask) → joined (joined m n) o ≡ joined m (joined n o)
joined_assoc m n o = ap₂ (λ (c v : ℕ). record { care = c; value = v }) (or_assoc m.care n.care o.care) (or_assoc m.value n.value o.value)

-- the reply for three masks: all joined where each two agree, else a clash
three : Mask → Mask → Mask → Result Mask Cause
three m n o = first (unless (agree m n && (agree m o && agree n o)) cause.Clash) (Ok (joined m (joined n o)))

join_three : (m n o : Mask) → Inside m → Inside n → Inside o → and_then (join m n) (λ j. join j o) ≡ three m n o
unfolding three
join_three m n o hm hn ho = ap (λ (r : Result Mask Cause). and_then r (λ j. join j o)) (join_inside m n hm hn) ∙ go (agree m n) refl
  where
    go : (t : Bool) → agree m n ≡ t
        → and_then (first (unless t cause.Clash) (Ok (joined m n))) (λ j. join j o)
        ≡ first (unless (t && (agree m o && agree n o)) cause.Clash) (Ok (joined m (joined n o)))
    go false e = refl
    go true e =
        join_inside (joined m n) o (joined_inside m n hm hn) ho
        ∙ ap₂ (λ (t : Bool) (j : Mask). first (unless t cause.Clash) (Ok j)) (joined_agree m n o hm hn e) (joined_assoc m n o)

-- the three may go round
turn : (s t u : Bool) → s && (t && u) ≡ t && (u && s)
turn true true true = refl
turn true true false = refl
turn true false u = refl
turn false true true = refl
turn false true false = refl
turn false false u = refl

three_turn : (m n o : Mask) → three n o m ≡ three m n o
unfolding three
three_turn m n o =
    ap₂ (λ (t : Bool) (j : Mask). first (unless t cause.Clash) (Ok j))
    (turn (agree n o) (agree n m) (agree o m) ∙ ap₂ (λ (s t : Bool). s && (t && agree n o)) (agree_swap n m) (agree_swap o m))
    (sym (joined_assoc n o m) ∙ joined_comm (joined n o) m)

pub join_assoc : (m n o : Mask) → Inside m → Inside n → Inside o → and_then (join m n) (λ j. join j o) ≡ and_then (join n o) (λ j. join m j)
join_assoc m n o hm hn ho =
    join_three m n o hm hn ho
    ∙ sym (three_turn m n o)
    ∙ sym (join_three n o m hn ho hm)
    ∙ ap (and_then (join n o)) (fun_ext (λ j. join_comm j m))
