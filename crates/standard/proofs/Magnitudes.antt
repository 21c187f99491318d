-- The number that a magnitude's word stands for: from its fields, in the order of the words, and of a rounded magnitude. Assumes nothing.
use mathlib.Core.Path.{◌≡◌, refl, sym, ap, ap₂, ◌∙◌, subst}
use mathlib.Core.Logic.{◌↔◌}
use Prim.Native.Nat.{ℕ, zero, suc, ◌+◌, ◌-◌, ◌*◌, ◌/◌, ◌%◌, ◌^◌, ◌≤◌, ◌<◌}
use native.Mathlib.Nat.{mod-lt, mul-one, mul_assoc, mul-lt-mul_of_pos_right, pow-succ', lt_trans, div-eq_of_lt, suc-mul}
use native.Mathlib.Decide.{dec_lt, ℕ_discrete}
use native.Mathlib.Omega.{arith}
use lib.Pow.{pow_pos, pow-add, split, high, low}
use Rattle.format.specs.declared.Format.{Format}
use Rattle.format.specs.Format.{precision}
use Rattle.rounding.specs.declared.Direction.{Direction}
use Rattle.word.specs.Word.{significand}
use Rattle.rounding.specs.Rounding.{round_off, dropped, magnitude_word}
use Rattle.word.proofs.Canonical.{significand_bounds}
use Rattle.rounding.proofs.RoundedFields.{kept_le, kept_subnormal_dropped}
use Rattle.standard.specs.Representable.{Representable, magnitude_of, rounded_magnitude}

module _ (F : Format) where
  -- from an exponent field and a fraction
  pub magnitude_fields : (e t : ℕ) → t < 2 ^ F.f → magnitude_of F (e * 2 ^ F.f + t) ≡ significand F.f e t * 2 ^ (e - 1)
  magnitude_fields e t h = ap₂ (λ (a b : ℕ). significand F.f a b * 2 ^ (a - 1)) (high e F.f h) (low e F.f h)

  -- every such number is representable
  pub magnitude_representable : (m : ℕ) → Representable F (magnitude_of F m)
  magnitude_representable m = record {
    digits = significand F.f (m / 2 ^ F.f) (m % 2 ^ F.f);
    exponent = m / 2 ^ F.f - 1;
    digits_lt = (significand_bounds F.f (m / 2 ^ F.f) (m % 2 ^ F.f) (mod-lt m (pow_pos F.f))).0;
    is = refl;
  }

  -- the next word has a larger number: within a binade, and into the next
  next_within : (e t : ℕ) → suc t < 2 ^ F.f → magnitude_of F (e * 2 ^ F.f + t) < magnitude_of F (e * 2 ^ F.f + suc t)
  unfolding significand
  next_within e t h =
      rw (magnitude_fields e t (omega arith), magnitude_fields e (suc t) h) (mul-lt-mul_of_pos_right (go e) (pow_pos (e - 1)))
    where
      go : (n : ℕ) → significand F.f n t < significand F.f n (suc t)
      go zero = omega arith
      go (suc n) = omega arith

  next_binade : (e t : ℕ) → suc t ≡ 2 ^ F.f → magnitude_of F (e * 2 ^ F.f + t) < magnitude_of F (suc e * 2 ^ F.f + 0)
  unfolding significand
  next_binade e t h =
      let d : suc e - 1 ≡ e = omega arith in
      rw (magnitude_fields e t (omega arith), magnitude_fields (suc e) 0 (pow_pos F.f), d) (go e)
    where
      go : (n : ℕ) → significand F.f n t * 2 ^ (n - 1) < significand F.f (suc n) 0 * 2 ^ n
      go zero = omega (arith, mul-one t, mul-one (2 ^ F.f + 0))
      go (suc n) =
          let p : (2 ^ F.f + 0) * 2 ^ suc n ≡ (2 ^ F.f + 0) * 2 * 2 ^ n = ap (λ (x : ℕ). (2 ^ F.f + 0) * x) (pow-succ' 2 n) ∙ sym (mul_assoc (2 ^ F.f + 0) 2 (2 ^ n)) in
          let d : suc n - 1 ≡ n = omega arith in
          rw (d, p) (mul-lt-mul_of_pos_right (omega arith) (pow_pos n))

  next_word : (m : ℕ) → magnitude_of F m < magnitude_of F (suc m)
  next_word m =
      let e = m / 2 ^ F.f in
      let t = m % 2 ^ F.f in
      let whole : e * 2 ^ F.f + t ≡ m = split m F.f in
      go e t whole (mod-lt m (pow_pos F.f)) (ℕ_discrete (suc t) (2 ^ F.f))
    where
      go : (e t : ℕ) → e * 2 ^ F.f + t ≡ m → t < 2 ^ F.f → Dec (suc t ≡ 2 ^ F.f) → magnitude_of F m < magnitude_of F (suc m)
      go e t w h (yes q) =
          let n : suc e * 2 ^ F.f + 0 ≡ suc m = omega (arith, suc-mul e (2 ^ F.f)) in
          subst (λ (x : ℕ). magnitude_of F x < magnitude_of F (suc m)) w (subst (λ (x : ℕ). magnitude_of F (e * 2 ^ F.f + t) < magnitude_of F x) n (next_binade e t q))
      go e t w h (no q) =
          let n : e * 2 ^ F.f + suc t ≡ suc m = omega arith in
          subst (λ (x : ℕ). magnitude_of F x < magnitude_of F (suc m)) w (subst (λ (x : ℕ). magnitude_of F (e * 2 ^ F.f + t) < magnitude_of F x) n (next_within e t (omega arith)))

  word_rising : (m n : ℕ) → m < n → magnitude_of F m < magnitude_of F n
  word_rising m zero h = absurd (omega arith)
  word_rising m (suc n) h = go (ℕ_discrete m n) (word_rising m n)
    where
      go : Dec (m ≡ n) → (m < n → magnitude_of F m < magnitude_of F n) → magnitude_of F m < magnitude_of F (suc n)
      go (yes e) r = subst (λ (x : ℕ). magnitude_of F x < magnitude_of F (suc n)) (sym e) (next_word n)
      go (no e) r = lt_trans (r (omega arith)) (next_word n)

  -- words with the same number are the same
  pub word_by_magnitude : (m n : ℕ) → magnitude_of F m ≡ magnitude_of F n → m ≡ n
  word_by_magnitude m n e = go (dec_lt m n) (dec_lt n m)
    where
      go : Dec (m < n) → Dec (n < m) → m ≡ n
      go (yes h) d = let l = word_rising m n h in absurd (omega arith)
      go (no h) (yes g) = let l = word_rising n m g in absurd (omega arith)
      go (no h) (no g) = omega arith

  -- the order of the words is the order of their numbers
  pub word_order : (m n : ℕ) → (m < n) ↔ (magnitude_of F m < magnitude_of F n)
  word_order m n = (word_rising m n, λ l. go (dec_lt m n) (dec_lt n m) l)
    where
      go : Dec (m < n) → Dec (n < m) → magnitude_of F m < magnitude_of F n → m < n
      go (yes h) d l = h
      go (no h) (yes g) l = let r = word_rising n m g in absurd (omega arith)
      go (no h) (no g) l =
          let e : m ≡ n = omega arith in
          let q = ap (magnitude_of F) e in
          absurd (omega arith)

  pub word_order_le : (m n : ℕ) → (m ≤ n) ↔ (magnitude_of F m ≤ magnitude_of F n)
  word_order_le m n = (to (dec_lt (magnitude_of F n) (magnitude_of F m)), back (dec_lt n m))
    where
      to : Dec (magnitude_of F n < magnitude_of F m) → m ≤ n → magnitude_of F m ≤ magnitude_of F n
      to (yes l) h = absurd (omega (arith, (word_order n m).1 l))
      to (no l) h = omega arith

      back : Dec (n < m) → magnitude_of F m ≤ magnitude_of F n → m ≤ n
      back (yes l) h = absurd (omega (arith, (word_order n m).0 l))
      back (no l) h = omega arith

  -- Y units of 2^k steps, with p bits or one more, or fewer where k = 0
  pub magnitude_kept : (k Y : ℕ) → Y ≤ 2 ^ precision F → (Y < 2 ^ F.f → k ≡ 0) → magnitude_of F (k * 2 ^ F.f + Y) ≡ Y * 2 ^ k
  unfolding significand
  magnitude_kept k Y most short = go (dec_lt Y (2 ^ F.f)) (ℕ_discrete Y (2 ^ precision F))
    where
      p : 2 ^ precision F ≡ 2 ^ F.f * 2
      p = pow-add 2 F.f 1

      go : Dec (Y < 2 ^ F.f) → Dec (Y ≡ 2 ^ precision F) → magnitude_of F (k * 2 ^ F.f + Y) ≡ Y * 2 ^ k
      go (yes h) d =
          let z = short h in
          ap (λ (n : ℕ). magnitude_of F (n * 2 ^ F.f + Y)) z ∙ magnitude_fields 0 Y h ∙ ap (λ (n : ℕ). Y * 2 ^ n) (sym z)
      go (no h) (yes e) =
          let m : k * 2 ^ F.f + Y ≡ suc (suc k) * 2 ^ F.f + 0 = omega (arith, p, suc-mul (suc k) (2 ^ F.f), suc-mul k (2 ^ F.f)) in
          let u : suc (suc k) - 1 ≡ suc k = omega arith in
          let y : Y ≡ (2 ^ F.f + 0) * 2 = omega (arith, p) in
          ap (magnitude_of F) m ∙ magnitude_fields (suc (suc k)) 0 (pow_pos F.f)
          ∙ ap (λ (n : ℕ). (2 ^ F.f + 0) * 2 ^ n) u ∙ ap (λ (n : ℕ). (2 ^ F.f + 0) * n) (pow-succ' 2 k)
          ∙ sym (mul_assoc (2 ^ F.f + 0) 2 (2 ^ k)) ∙ ap (λ (n : ℕ). n * 2 ^ k) (sym y)
      go (no h) (no e) =
          let m : k * 2 ^ F.f + Y ≡ suc k * 2 ^ F.f + (Y - 2 ^ F.f) = omega (arith, suc-mul k (2 ^ F.f)) in
          let u : suc k - 1 ≡ k = omega arith in
          let y : 2 ^ F.f + (Y - 2 ^ F.f) ≡ Y = omega arith in
          ap (magnitude_of F) m ∙ magnitude_fields (suc k) (Y - 2 ^ F.f) (omega (arith, p)) ∙ ap₂ (λ (a n : ℕ). a * 2 ^ n) y u

  -- the rounded magnitude is what is kept, rounded, in units of 2^k
  pub rounded_kept : (d : Direction) (X : ℕ) → rounded_magnitude F d X ≡ round_off d X (dropped F X) * 2 ^ dropped F X
  unfolding magnitude_word
  rounded_kept d X =
      magnitude_kept (dropped F X) (round_off d X (dropped F X)) (kept_le F d X)
      (λ h. kept_subnormal_dropped F d X (div-eq_of_lt h))
