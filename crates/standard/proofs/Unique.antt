-- What the standard asks of a rounded number leaves one answer, in every mode, and what it asks of the sum of two finite words leaves one
-- word: so it is a definition. Assumes nothing.
use mathlib.Core.Path.{◌≡◌, sym, ap, ◌∙◌, subst, subst₂}
use Prim.Native.Nat.{ℕ, zero, suc, ◌+◌, ◌*◌, ◌%◌, ◌^◌, ◌≤◌, ◌<◌}
use native.Mathlib.Nat.{le_antisymm}
use native.Mathlib.Decide.{dec_lt, ℕ_discrete}
use native.Mathlib.Omega.{arith}
use lib.Dec.{leb→le}
use lib.IntN.{ℤ, pos, negsuc, nat_abs, ℤ_discrete}
use lib.Signed.{◌≤ℤ◌}
use Rattle.format.specs.declared.Format.{Format}
use Rattle.format.specs.Format.{Supported, word_bits}
use Rattle.format.specs.Limits.{most_mode}
use Rattle.rounding.specs.declared.Direction.TheVariants.{TowardZero}
use Rattle.word.specs.Word.{sign}
use Rattle.word.specs.Operand.{finite_of, magnitude}
use Rattle.adder.specs.Result.{result_of}
use Rattle.adder.proofs.ResultLaws.{result_lt}
use Rattle.standard.specs.Representable.{Representable, magnitude_of, EvenWord, largest, rounded_magnitude}
use Rattle.standard.specs.Rounds.{GreatestNotAbove, LeastNotBelow, Closest, distance}
use Rattle.standard.specs.Number.{signed_number, FiniteWord, OfFormat, apart, EvenNumber, Nearest, RoundsTo}
use Rattle.standard.specs.Sum.{exact_number, sign_of, RoundedWord, SignOfSum}
use Rattle.standard.specs.Fields.{effective_sign}
use Rattle.standard.proofs.Fields.{overflow_unique}
use Rattle.standard.proofs.Magnitudes.{magnitude_representable, word_order}
use Rattle.standard.proofs.Rounding.{rounded_toward_zero, zero_representable, significand_parity}
use Rattle.standard.proofs.Integers.{signed_magnitude, signed_same, like_apart, unlike_apart, by_sign}
use Rattle.standard.proofs.Words.{encoding_unique}
use Rattle.standard.proofs.Sums.{result_rounded, result_sign}
use Rattle.standard.proofs.Signed.{signed_format, format_magnitude, signed_toward_zero}

-- ---- up and down
antisymmetric : (m n : ℤ) → m ≤ℤ n → n ≤ℤ m → m ≡ n
antisymmetric (pos m) (pos n) h g = ap pos (le_antisymm (leb→le m n h.le) (leb→le n m g.le))
antisymmetric (pos m) (negsuc n) h g = absurd h.le
antisymmetric (negsuc m) (pos n) h g = absurd g.le
antisymmetric (negsuc m) (negsuc n) h g = ap negsuc (le_antisymm (leb→le m n g.le) (leb→le n m h.le))

least_unique : {S : ℤ → Type 0} {z r q : ℤ} → LeastNotBelow ◌≤ℤ◌ S z r → LeastNotBelow ◌≤ℤ◌ S z q → r ≡ q
least_unique {S} {z} {r} {q} g h = antisymmetric r q (g.least q h.member h.not_below) (h.least r g.member g.not_below)

greatest_unique : {S : ℤ → Type 0} {z r q : ℤ} → GreatestNotAbove ◌≤ℤ◌ S z r → GreatestNotAbove ◌≤ℤ◌ S z q → r ≡ q
greatest_unique {S} {z} {r} {q} g h = antisymmetric r q (h.greatest r g.member g.not_above) (g.greatest q h.member h.not_above)

-- ---- toward zero: the closest number no greater in magnitude is the one rounded to
module _ (F : Format) (s X : ℕ) where
  toward_zero_only : (r : ℤ) → Closest apart (λ n. OfFormat F n × (nat_abs n ≤ nat_abs (signed_number s X))) (signed_number s X) r
      → r ≡ signed_number s (rounded_magnitude F TowardZero X)
  toward_zero_only =
      let R = rounded_magnitude F TowardZero X in
      let g = rounded_toward_zero F X in
      let b = signed_toward_zero F s X in
      by_sign s (λ r. Closest apart (λ n. OfFormat F n × (nat_abs n ≤ nat_abs (signed_number s X))) (signed_number s X) r → r ≡ signed_number s R)
      (λ m c.
      let h : m ≤ X = subst₂ (λ (i j : ℕ). i ≤ j) (signed_magnitude s m) (signed_magnitude s X) c.member.1 in
      let d : distance m X ≤ distance R X = subst₂ (λ (i j : ℕ). i ≤ j) (like_apart s m X) (like_apart s R X) (c.closest (signed_number s R) b.member) in
      let l = g.greatest m (format_magnitude F s m c.member.0) h in
      ap (signed_number s) (omega (arith, g.not_above)))
      (λ m c.
      let d : suc m + X ≤ distance R X = subst₂ (λ (i j : ℕ). i ≤ j) (unlike_apart s (suc m) X) (like_apart s R X) (c.closest (signed_number s R) b.member) in
      absurd (omega (arith, g.not_above)))

-- ---- nearest: two numbers as near are neighbours, and one of two neighbours is odd
middle : (a b X : ℕ) → a < b → distance a X ≡ distance b X → a + b ≡ 2 * X
middle a b X h e = omega arith

inside_nearer : (a n b X : ℕ) → a < n → n < b → a + b ≡ 2 * X → distance a X ≤ distance n X → ⊥
inside_nearer a n b X h g e d = omega arith

module _ (F : Format) (ok : Supported F) where
  -- of two words whose numbers are as near as any, not both are even
  one_odd : (v w X : ℕ) → v < w → distance (magnitude_of F v) X ≡ distance (magnitude_of F w) X
      → ((n : ℕ) → Representable F n → distance (magnitude_of F v) X ≤ distance n X) → EvenWord F v → EvenWord F w → ⊥
  one_odd v w X h e near ev ew = go (dec_lt (suc v) w)
    where
      go : Dec (suc v < w) → ⊥
      go (yes l) =
          inside_nearer (magnitude_of F v) (magnitude_of F (suc v)) (magnitude_of F w) X ((word_order F v (suc v)).0 (omega arith)) ((word_order F (suc v) w).0 l)
          (middle (magnitude_of F v) (magnitude_of F w) X ((word_order F v w).0 h) e) (near (magnitude_of F (suc v)) (magnitude_representable F (suc v)))
      go (no l) = last v w (sym (significand_parity F ok v) ∙ ev) (sym (significand_parity F ok w) ∙ ew) (omega arith)
        where
          last : (i j : ℕ) → i % 2 ≡ 0 → j % 2 ≡ 0 → j ≡ suc i → ⊥
          last i j p q k = omega arith

  both_even : (v w X : ℕ) → distance (magnitude_of F v) X ≡ distance (magnitude_of F w) X
      → ((n : ℕ) → Representable F n → distance (magnitude_of F v) X ≤ distance n X) → EvenWord F v → EvenWord F w → v ≡ w
  both_even v w X e near ev ew = go (dec_lt v w) (dec_lt w v)
    where
      go : Dec (v < w) → Dec (w < v) → v ≡ w
      go (yes l) g = absurd (one_odd v w X l e near ev ew)
      go (no l) (yes g) = absurd (one_odd w v X g (sym e) (λ n r. rw (sym e) (near n r)) ew ev)
      go (no l) (no g) = omega arith

-- of the numbers near a number of sign s the closest has that sign, and a magnitude that is the closest
closest_magnitude : (F : Format) (s X : ℕ) (P : ℤ → Type 0) → ((m : ℕ) → Closest distance (Representable F) X m → P (signed_number s m)) → (r : ℤ)
    → Closest apart (OfFormat F) (signed_number s X) r → P r
closest_magnitude F s X P like =
    by_sign s (λ r. Closest apart (OfFormat F) (signed_number s X) r → P r)
    (λ m c. like m (record {
      member = format_magnitude F s m c.member;
      closest = λ n r. subst₂ (λ (i j : ℕ). i ≤ j) (like_apart s m X) (like_apart s n X) (c.closest (signed_number s n) (signed_format F s n r));
    }))
    (λ m c.
    let d : suc m + X ≤ distance 0 X =
    subst₂ (λ (i j : ℕ). i ≤ j) (unlike_apart s (suc m) X) (like_apart s 0 X) (c.closest (signed_number s 0) (signed_format F s 0 (zero_representable F))) in
    absurd (omega arith))

-- of two numbers that are both the closest only one is preferred to the other: then there is one
module _ (F : Format) (s X : ℕ) (preferred : ℤ → ℤ → Type 0)
    (not-both : (m n : ℕ) → Closest distance (Representable F) X m → Closest distance (Representable F) X n
    → preferred (signed_number s m) (signed_number s n) → preferred (signed_number s n) (signed_number s m) → m ≡ n) where
  nearest_unique : (r q : ℤ) → Nearest preferred F (signed_number s X) r → Nearest preferred F (signed_number s X) q → r ≡ q
  nearest_unique r q g h =
      closest_magnitude F s X (λ r. Nearest preferred F (signed_number s X) r → r ≡ q)
      (λ m c g.
      closest_magnitude F s X (λ q. Nearest preferred F (signed_number s X) q → signed_number s m ≡ q) (λ n d h. ap (signed_number s) (same m n c d g h (ℕ_discrete m n))) q h.nearest h)
      r g.nearest g
    where
      same : (m n : ℕ) → Closest distance (Representable F) X m → Closest distance (Representable F) X n → Nearest preferred F (signed_number s X) (signed_number s m)
          → Nearest preferred F (signed_number s X) (signed_number s n) → Dec (m ≡ n) → m ≡ n
      same m n c d g h (yes e) = e
      same m n c d g h (no ne) =
          let near : distance m X ≡ distance n X = le_antisymm (c.closest n d.member) (d.closest m c.member) in
          let apart_is : apart (signed_number s n) (signed_number s X) ≡ apart (signed_number s m) (signed_number s X) = like_apart s n X ∙ sym near ∙ sym (like_apart s m X) in
          not-both m n c d
          (g.tie (signed_number s n) h.nearest.member (λ e. ne (sym (signed_same s n m e))) apart_is)
          (h.tie (signed_number s m) g.nearest.member (λ e. ne (signed_same s m n e)) (sym apart_is))

even_not_both : (F : Format) → Supported F → (s X m n : ℕ) → Closest distance (Representable F) X m → Closest distance (Representable F) X n
    → EvenNumber F (signed_number s m) → EvenNumber F (signed_number s n) → m ≡ n
even_not_both F ok s X m n c d em en =
    let v : magnitude_of F em.word ≡ m = em.is ∙ signed_magnitude s m in
    let w : magnitude_of F en.word ≡ n = en.is ∙ signed_magnitude s n in
    let near : distance m X ≡ distance n X = le_antisymm (c.closest n d.member) (d.closest m c.member) in
    sym v
    ∙ ap (magnitude_of F)
    (both_even F ok em.word en.word X (ap (λ (k : ℕ). distance k X) v ∙ near ∙ ap (λ (k : ℕ). distance k X) (sym w)) (λ k r. rw v (c.closest k r)) em.even en.even)
    ∙ w

larger_not_both : (s m n : ℕ) → nat_abs (signed_number s n) < nat_abs (signed_number s m) → nat_abs (signed_number s m) < nat_abs (signed_number s n) → m ≡ n
larger_not_both s m n h g = absurd (omega arith)

-- every number has a sign and a magnitude
by_magnitude : (P : ℤ → Type 0) → ((s X : ℕ) → P (signed_number s X)) → (z : ℤ) → P z
by_magnitude P at (pos n) = at 0 n
by_magnitude P at (negsuc n) = at 1 (suc n)

-- the standard's words leave one number
pub rounds_unique : (F : Format) → Supported F → (mode : ℕ) (z r q : ℤ) → RoundsTo F mode z r → RoundsTo F mode z q → r ≡ q
rounds_unique F ok zero z r q =
    by_magnitude (λ z. RoundsTo F 0 z r → RoundsTo F 0 z q → r ≡ q) (λ s X. nearest_unique F s X (λ r n. EvenNumber F r) (even_not_both F ok s X) r q) z
rounds_unique F ok (suc zero) z r q =
    by_magnitude (λ z. RoundsTo F 1 z r → RoundsTo F 1 z q → r ≡ q) (λ s X g h. toward_zero_only F s X r g ∙ sym (toward_zero_only F s X q h)) z
rounds_unique F ok (suc (suc zero)) z r q = least_unique
rounds_unique F ok (suc (suc (suc zero))) z r q = greatest_unique
rounds_unique F ok (suc (suc (suc (suc zero)))) z r q =
    by_magnitude (λ z. RoundsTo F 4 z r → RoundsTo F 4 z q → r ≡ q) (λ s X. nearest_unique F s X (λ r n. nat_abs n < nat_abs r) (λ m n c d. larger_not_both s m n) r q) z
rounds_unique F ok (suc (suc (suc (suc (suc m))))) z r q = absurd

-- ---- and one word
module _ (F : Format) (ok : Supported F) (operation mode a b c d : ℕ) where
  sign_unique : SignOfSum F operation mode a b c → SignOfSum F operation mode a b d → sign F c ≡ sign F d
  sign_unique g h = go (ℤ_discrete (exact_number F operation a b) (pos 0)) (ℕ_discrete (sign F a) (effective_sign F operation b)) (ℕ_discrete mode 3)
    where
      go : Dec (exact_number F operation a b ≡ pos 0) → Dec (sign F a ≡ effective_sign F operation b) → Dec (mode ≡ 3) → sign F c ≡ sign F d
      go (no n) l m = g.not_zero n ∙ sym (h.not_zero n)
      go (yes z) (yes l) m = g.like l ∙ sym (h.like l)
      go (yes z) (no l) (yes m) = g.unlike_down l z m ∙ sym (h.unlike_down l z m)
      go (yes z) (no l) (no m) = g.unlike_not_down l z m ∙ sym (h.unlike_not_down l z m)

  word_unique : c < 2 ^ word_bits F → d < 2 ^ word_bits F → RoundedWord F mode (exact_number F operation a b) c → RoundedWord F mode (exact_number F operation a b) d
      → SignOfSum F operation mode a b c → SignOfSum F operation mode a b d → c ≡ d
  word_unique hc hd g h sc sd = go (dec_lt (largest F) (nat_abs g.r))
    where
      same : g.r ≡ h.r
      same = rounds_unique F ok mode (exact_number F operation a b) g.r h.r g.rounds h.rounds

      go : Dec (largest F < nat_abs g.r) → c ≡ d
      go (yes l) =
          overflow_unique F mode (sign_of (exact_number F operation a b)) hc hd (g.past l) (h.past (subst (λ (n : ℤ). largest F < nat_abs n) same l))
      go (no l) =
          let p = g.within (omega arith) in
          let q = h.within (subst (λ (n : ℤ). nat_abs n ≤ largest F) same (omega arith)) in
          encoding_unique F c d hc hd p.0 q.0 (sign_unique sc sd)
          (sym (signed_magnitude (sign F c) (magnitude (finite_of F c))) ∙ ap nat_abs (p.1 ∙ same ∙ sym q.1) ∙ signed_magnitude (sign F d) (magnitude (finite_of F d)))

-- a word that is what the standard asks of the sum of two finite words is the rounded result
pub result_only : (F : Format) → Supported F → (operation mode a b c : ℕ) → operation < 2 → mode ≤ most_mode → FiniteWord F a → FiniteWord F b → c < 2 ^ word_bits F
    → RoundedWord F mode (exact_number F operation a b) c → SignOfSum F operation mode a b c → c ≡ result_of F operation mode a b
result_only F ok operation mode a b c ho hm fa fb hc g s =
    word_unique F ok operation mode a b c (result_of F operation mode a b) hc (result_lt F ok operation mode a b) g
    (result_rounded F ok operation mode a b ho fa fb hm) s (result_sign F ok operation mode a b ho fa fb)
