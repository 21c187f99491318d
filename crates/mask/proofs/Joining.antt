-- Joining: a word meets the joined mask exactly when it meets both; two masks clash exactly where no word meets both; and joining
-- comes to the same in any order and grouping. By bits: where one mask fixes a bit, the joined mask fixes it alike. Assumes nothing.
use mathlib.Core.Logic.{◌↔◌}
use mathlib.Core.Path.{◌≡◌, sym, ap, ap₂, ◌∙◌}
use Prim.Native.Nat.{ℕ}
use native.Mathlib.Omega.{arith}
use lib.Bits.{bit_and, bit_or, or_zero_r, or_self, or_comm, or_lt}
use Rattle.bits.specs.Bit.{bit}
use Rattle.bits.proofs.Logic.{bit_of_or}
use Rattle.mask.specs.declared.Mask.{Mask}
use Rattle.mask.specs.Mask.{Inside, WellFormed, Meets}
use Rattle.mask.specs.Join.{Agree, joined}
use Rattle.mask.proofs.Bitwise.{bit_case, all_bits}
use Rattle.mask.proofs.ByBits.{AgreesAt, and_free, and_fixed, inside_bits, meets_bits}

-- ---- a bit of a bitwise or
or_left : (x y i : ℕ) → bit y i ≡ 0 → bit (bit_or x y) i ≡ bit x i
or_left x y i e = bit_of_or x y i ∙ ap (bit_or (bit x i)) e ∙ or_zero_r (bit x i)

or_same : (x y i : ℕ) → bit x i ≡ bit y i → bit (bit_or x y) i ≡ bit x i
or_same x y i e = bit_of_or x y i ∙ ap (bit_or (bit x i)) (sym e) ∙ or_self (bit x i)

-- a bit that stands in x stands in the or
or_one : (x y i : ℕ) → bit x i ≡ 1 → bit (bit_or x y) i ≡ 1
or_one x y i e = bit_case y i (λ n. or_left x y i n ∙ e) (λ n. or_same x y i (e ∙ sym n) ∙ e)

pub or_assoc : (x y z : ℕ) → bit_or (bit_or x y) z ≡ bit_or x (bit_or y z)
or_assoc x y z =
    all_bits (bit_or (bit_or x y) z) (bit_or x (bit_or y z)) (λ i. bit_case z i
    (λ e. or_left (bit_or x y) z i e ∙ bit_of_or x y i ∙ ap (bit_or (bit x i)) (sym (or_left y z i e)) ∙ sym (bit_of_or x (bit_or y z) i))
    (λ e. ap (λ (u : ℕ). bit u i) (or_comm (bit_or x y) z) ∙ or_one z (bit_or x y) i e
    ∙ sym (ap (λ (u : ℕ). bit u i) (or_comm x (bit_or y z) ∙ ap (λ (u : ℕ). bit_or u x) (or_comm y z)) ∙ or_one (bit_or z y) x i (or_one z y i e))))

-- ---- agreement and the joined mask, by bits

-- the values are alike at every bit that both fix
abbrev pub AlikeAt : Mask → Mask → Type 0
AlikeAt m n = (i : ℕ) → bit m.care i ≡ 1 → bit n.care i ≡ 1 → bit m.value i ≡ bit n.value i

pub agree_bits : (m n : Mask) → Agree m n ↔ AlikeAt m n
agree_bits m n = (there, λ alike. all_bits (bit_and m.value both) (bit_and n.value both) (λ i. bit_case both i (none i) (back alike i)))
  where
    both : ℕ
    both = bit_and m.care n.care

    there : Agree m n → AlikeAt m n
    there e i p q =
        let one : bit both i ≡ 1 = and_fixed m.care n.care i q ∙ p in
        sym (and_fixed m.value both i one) ∙ ap (λ (u : ℕ). bit u i) e ∙ and_fixed n.value both i one

    none : (i : ℕ) → bit both i ≡ 0 → bit (bit_and m.value both) i ≡ bit (bit_and n.value both) i
    none i e = and_free m.value both i e ∙ sym (and_free n.value both i e)

    back : AlikeAt m n → (i : ℕ) → bit both i ≡ 1 → bit (bit_and m.value both) i ≡ bit (bit_and n.value both) i
    back alike i e =
        let q : bit n.care i ≡ 1 = bit_case n.care i (λ z. absurd (omega (arith, and_free m.care n.care i z))) (λ z. z) in
        and_fixed m.value both i e ∙ alike i (sym (and_fixed m.care n.care i q) ∙ e) q ∙ sym (and_fixed n.value both i e)

pub agree_comm : (m n : Mask) → Agree m n → Agree n m
agree_comm m n h = (agree_bits n m).1 (λ i p q. sym ((agree_bits m n).0 h i q p))

pub joined_comm : (m n : Mask) → joined m n ≡ joined n m
joined_comm m n = ap₂ (λ (c v : ℕ). record { care = c; value = v }) (or_comm m.care n.care) (or_comm m.value n.value)

-- what one mask fixes the joined mask fixes alike
joined_left : (m n : Mask) → Inside n → Agree m n → (i : ℕ) → bit m.care i ≡ 1 → bit (joined m n).value i ≡ bit m.value i
joined_left m n h agrees i e =
    bit_case n.care i (λ z. or_left m.value n.value i ((inside_bits n).0 h i z)) (λ z. or_same m.value n.value i ((agree_bits m n).0 agrees i e z))

joined_right : (m n : Mask) → Inside m → Agree m n → (i : ℕ) → bit n.care i ≡ 1 → bit (joined m n).value i ≡ bit n.value i
joined_right m n h agrees i e =
    ap (λ (j : Mask). bit j.value i) (joined_comm m n) ∙ joined_left n m h (agree_comm m n agrees) i e

care_left : (m n : Mask) (i : ℕ) → bit m.care i ≡ 1 → bit (joined m n).care i ≡ 1
care_left m n i = or_one m.care n.care i

care_right : (m n : Mask) (i : ℕ) → bit n.care i ≡ 1 → bit (joined m n).care i ≡ 1
care_right m n i e = ap (λ (j : Mask). bit j.care i) (joined_comm m n) ∙ care_left n m i e

-- what the joined mask fixes one of the two fixes
care_cases {ℓ} : {A : Type ℓ} (m n : Mask) (i : ℕ) → bit (joined m n).care i ≡ 1 → (bit m.care i ≡ 1 → A) → (bit n.care i ≡ 1 → A) → A
care_cases m n i e left right =
    bit_case n.care i (λ z. left (sym (or_left m.care n.care i z) ∙ e)) right

pub joined_inside : (m n : Mask) → Inside m → Inside n → Inside (joined m n)
joined_inside m n hm hn = (inside_bits (joined m n)).1 none
  where
    none : (i : ℕ) → bit (joined m n).care i ≡ 0 → bit (joined m n).value i ≡ 0
    none i e =
        bit_case m.care i
        (λ p. bit_case n.care i
        (λ q. or_left m.value n.value i ((inside_bits n).0 hn i q) ∙ (inside_bits m).0 hm i p)
        (λ q. absurd (omega (arith, care_right m n i q))))
        (λ p. absurd (omega (arith, care_left m n i p)))

pub joined_formed : (width : ℕ) (m n : Mask) → WellFormed width m → WellFormed width n → WellFormed width (joined m n)
joined_formed width m n p q =
    record { below = or_lt width m.care n.care p.below q.below; inside = joined_inside m n p.inside q.inside }

-- ---- the joined mask and the words that meet it
module _ (m n : Mask) (hm : Inside m) (hn : Inside n) where
  pub joined_meets : Agree m n → (x : ℕ) → Meets x (joined m n) ↔ (Meets x m × Meets x n)
  joined_meets agrees x = (
    (λ met. let at : AgreesAt x (joined m n) = (meets_bits x (joined m n) (joined_inside m n hm hn)).0 met in (
      (meets_bits x m hm).1 (λ i e. at i (care_left m n i e) ∙ joined_left m n hn agrees i e),
      (meets_bits x n hn).1 (λ i e. at i (care_right m n i e) ∙ joined_right m n hm agrees i e),
    )),
    λ p. (meets_bits x (joined m n) (joined_inside m n hm hn)).1 (λ i e. care_cases m n i e
        (λ q. (meets_bits x m hm).0 p.0 i q ∙ sym (joined_left m n hn agrees i q))
        (λ q. (meets_bits x n hn).0 p.1 i q ∙ sym (joined_right m n hm agrees i q))),
  )

  -- a word that meets both shows that nothing clashes, and the joined value is one
  pub meets_agree : (x : ℕ) → Meets x m → Meets x n → Agree m n
  meets_agree x p q = (agree_bits m n).1 (λ i a b. sym ((meets_bits x m hm).0 p i a) ∙ (meets_bits x n hn).0 q i b)

-- a third mask agrees with the joined mask exactly when it agrees with both
pub agree_joined : (m n o : Mask) → Inside m → Inside n → Agree m n → Agree (joined m n) o ↔ (Agree m o × Agree n o)
agree_joined m n o hm hn agrees = (
  (λ e. let at : AlikeAt (joined m n) o = (agree_bits (joined m n) o).0 e in (
    (agree_bits m o).1 (λ i p q. sym (joined_left m n hn agrees i p) ∙ at i (care_left m n i p) q),
    (agree_bits n o).1 (λ i p q. sym (joined_right m n hm agrees i p) ∙ at i (care_right m n i p) q),
  )),
  λ p. (agree_bits (joined m n) o).1 (λ i e q. care_cases m n i e
      (λ z. joined_left m n hn agrees i z ∙ (agree_bits m o).0 p.0 i z q)
      (λ z. joined_right m n hm agrees i z ∙ (agree_bits n o).0 p.1 i z q)),
)
