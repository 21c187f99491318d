-- Where a format has the parameters of an interchange format, the rounded sum and difference in mode 0 are those of `lib.Ieee`: a word's kind is
-- its value there, finite values being so many smallest steps, and each case of the sum is the same. Assumes nothing.
use mathlib.Core.Path.{◌≡◌, refl, sym, ap, ap₂, ◌∙◌, subst, subst₃}
use mathlib.Core.Bool.{Bool, true, false, not, ◌&&◌, beq, cond}
use Prim.Native.Nat.{ℕ, zero, suc, ◌+◌, ◌-◌, ◌*◌, ◌/◌, ◌%◌, ◌^◌, ◌≤◌, ◌<◌}
use native.Mathlib.Nat.{mul_assoc, mul_right_comm, mul-pos, add-mul, mod-lt, div-eq_of_lt, le-div_iff_mul-le}
use native.Mathlib.Decide.{dec_lt, dec_le}
use native.Mathlib.Omega.{arith}
use borrow.Author.Tests.{lt-ltb, le-ltb, le-leb, lt-leb, eq-eqb, ne_eqb}
use lib.Dec.{ltb, leb, eqb}
use lib.Pow.{pow_pos, field}
use lib.Ieee as ieee
use lib.Ieee.{Float, nan, inf, fin, binary32, binary64, prec, low, up, down, odd, round, sum, add, neg, sub, top, hid, of_fields, of_bits, to_bits}
use lib.Ieee.Fits.{down_pos}
use lib.Ieee.Exact.{HasValue, odd_sign}
use lib.Ieee.Scale.{round_same}
use Rattle.format.specs.declared.Format.{Format}
use Rattle.format.specs.Format.{word_bits}
use Rattle.word.specs.declared.Finite as record_of
use Rattle.word.specs.declared.Operand as kind
use Rattle.word.specs.declared.Operand.TheVariants.{Finite, Infinite, Nan}
use Rattle.rounding.specs.declared.Direction.TheVariants.{NearestEven}
use Rattle.word.specs.Word.{fraction, biased, sign, significand, all_ones, signed, effective}
use Rattle.word.specs.Operand.{operand_of, magnitude, Sound}
use Rattle.rounding.specs.Rounding.{direction, bounded_word, rounded, cancelled_sign}
use Rattle.adder.specs.Result.{infinity, finite_sum, infinite_sum, kind_sum, result_of}
use Rattle.bits.proofs.Division.{ltb_scale, mul_sub_right}
use Rattle.rounding.proofs.Rounded.{rounded_zero}
use Rattle.word.proofs.Bounds.{four_exponents}
use Rattle.word.proofs.Canonical.{operand_sound}
use Rattle.word.proofs.Fields.{sign_high, effective_sign_lem, effective_biased, effective_fraction, effective_add}
use Rattle.standard.specs.Ieee.{Interchange, single, double, ieee_add, ieee_sub}
use Rattle.standard.proofs.Interchange.{ones_is, hid_is, top_is, single_interchange, double_interchange}
use Rattle.standard.proofs.IeeeRounding.{sign_bit, rounded_bits, infinite_bits, nan_bits_lem}

-- ---- a word's kind and its value

-- a finite number of as many smallest steps, an infinity of the same sign, or a NaN
abbrev Same : ieee.Format → kind.Operand → Float → Type 0
Same B (Finite x) v = HasValue v (eqb x.sign 1) (magnitude x) (2 ^ low B)
Same B (Infinite s) v = v ≡ inf (eqb s 1)
Same B Nan v = v ≡ nan

-- the finite number, and the kind, from a sign, an exponent field and a fraction
abbrev finite_fields : Format → ℕ → ℕ → ℕ → record_of.Finite
finite_fields F g e t = record { sign = g; exponent = record { 0 = e }; significand = significand F.f e t }

abbrev kind_of : Format → ℕ → ℕ → ℕ → kind.Operand
kind_of F g e t = cond (eqb e (all_ones F)) (cond (eqb t 0) (Infinite g) Nan) (Finite (finite_fields F g e t))

module _ {F : Format} {B : ieee.Format} (tie : Interchange F B) where
  same_fields : (g e t : ℕ) → Same B (kind_of F g e t) (of_fields B (eqb g 1) e t)
  unfolding of_fields significand
  same_fields g zero t = rw (ne_eqb 0 (all_ones F) (λ e. omega (arith, four_exponents F tie.supported))) (odd_sign (prec B) (eqb g 1) t 0 (low B))
  same_fields g (suc e) t = rw (ones_is tie) (go (eqb (suc e) (all_ones F)) (eqb t 0))
    where
      unit : suc e - 1 ≡ e
      unit = omega arith

      go : (p q : Bool)
          → Same B (cond p (cond q (Infinite g) Nan) (Finite (finite_fields F g (suc e) t)))
          (cond p (cond q (inf (eqb g 1)) nan) (odd (prec B) (eqb g 1) (hid B + t) e (low B)))
      go true true = refl
      go true false = refl
      go false q = rw (unit, ← hid_is tie) (odd_sign (prec B) (eqb g 1) (hid B + t) e (low B))

  sign_test : (x : ℕ) → x < 2 ^ word_bits F → leb (top B) x ≡ eqb (sign F x) 1
  sign_test x h = rw (top_is tie, sign_high F x h) (go (dec_le (2 ^ (F.w + F.f)) x))
    where
      k : ℕ
      k = F.w + F.f

      small : x / 2 ^ k < 2
      small = subst (λ (n : ℕ). n < 2) (sign_high F x h) (mod-lt (x / 2 ^ k) (omega arith))

      go : Dec (2 ^ k ≤ x) → leb (2 ^ k) x ≡ eqb (x / 2 ^ k) 1
      go (yes l) =
          let one : 1 ≤ x / 2 ^ k = (le-div_iff_mul-le (pow_pos k)).1 (omega arith) in
          le-leb (2 ^ k) x l ∙ sym (eq-eqb (x / 2 ^ k) 1 (omega (arith, small)))
      go (no l) =
          let none : x / 2 ^ k ≡ 0 = div-eq_of_lt (omega arith) in
          lt-leb (2 ^ k) x (omega arith) ∙ sym (ne_eqb (x / 2 ^ k) 1 (λ e. omega arith))

  same_word : (x : ℕ) → x < 2 ^ word_bits F → Same B (operand_of F x) (of_bits B x)
  unfolding operand_of of_bits
  same_word x h =
      subst₃ (λ (b : Bool) (e t : ℕ). Same B (operand_of F x) (of_fields B b e t))
      (sym (sign_test x h)) (sym (ap₂ (λ (m n : ℕ). x % m / n) (top_is tie) (hid_is tie) ∙ field x F.w F.f)) (sym (ap (λ (n : ℕ). x % n) (hid_is tie)))
      (same_fields (sign F x) (biased F x).0 (fraction F x))

-- ---- the sum of two finite values: a / c and b / c are X and Y smallest steps, 2^L of which are 1
module _ (L a b c X Y : ℕ) (p : a * 2 ^ L ≡ X * c) (q : b * 2 ^ L ≡ Y * c) where
  same_order : 0 < c → ltb a b ≡ ltb X Y
  same_order pos = sym (ltb_scale (2 ^ L) (pow_pos L) a b) ∙ ap₂ ltb p q ∙ ltb_scale c pos X Y

  plus : (a + b) * 2 ^ L ≡ (X + Y) * c
  plus = add-mul a b (2 ^ L) ∙ ap₂ ◌+◌ p q ∙ sym (add-mul X Y c)

  less : (a - b) * 2 ^ L ≡ (X - Y) * c
  less = mul_sub_right a b (2 ^ L) ∙ ap₂ ◌-◌ p q ∙ sym (mul_sub_right X Y c)

sign_kept : (s : ℕ) → s < 2 → sign_bit (eqb s 1 && true) ≡ s
sign_kept zero h = refl
sign_kept (suc zero) h = refl
sign_kept (suc (suc s)) h = absurd (omega arith)

sign_dropped : (t : Bool) → sign_bit (t && false) ≡ 0
sign_dropped true = refl
sign_dropped false = refl

-- the word of X smallest steps, rounded to nearest, with a sign
abbrev nearest_word : Format → Bool → ℕ → ℕ
nearest_word F s X = signed F (sign_bit s) (bounded_word F NearestEven X)

module _ {F : Format} {B : ieee.Format} (tie : Interchange F B) where
  -- a fraction of X smallest steps, rounded and written
  steps_bits : (s : Bool) (n c X : ℕ) → 0 < c → n * 2 ^ low B ≡ X * c → to_bits B (round B s n c) ≡ nearest_word F s X
  steps_bits s n c X pos e = ap (to_bits B) (round_same B s n c X (2 ^ low B) pos (pow_pos (low B)) e) ∙ rounded_bits tie s X

  cond_bits : (t : Bool) (u v : Float) (m n : ℕ) → to_bits B u ≡ m → to_bits B v ≡ n → to_bits B (cond t u v) ≡ cond t m n
  cond_bits true u v m n hu hv = hu
  cond_bits false u v m n hu hv = hv

  sum_bits : (s t : Bool) (a b c X Y : ℕ) → 0 < c → a * 2 ^ low B ≡ X * c → b * 2 ^ low B ≡ Y * c
      → to_bits B (sum B s a t b c)
      ≡ cond (beq s t) (nearest_word F s (X + Y)) (cond (ltb X Y) (nearest_word F t (Y - X)) (nearest_word F (s && ltb Y X) (X - Y)))
  unfolding sum
  sum_bits s t a b c X Y pos p q =
      cond_bits (beq s t) _ _ _ _ (steps_bits s (a + b) c (X + Y) pos (plus (low B) a b c X Y p q))
      (cond_bits (ltb a b) _ _ _ _ (steps_bits t (b - a) c (Y - X) pos (less (low B) b a c Y X q p)) (steps_bits (s && ltb b a) (a - b) c (X - Y) pos (less (low B) a b c X Y p q)))
      ∙ ap₂ (λ (l g : Bool). cond (beq s t) (nearest_word F s (X + Y)) (cond l (nearest_word F t (Y - X)) (nearest_word F (s && g) (X - Y))))
      (same_order (low B) a b c X Y p q pos) (same_order (low B) b a c Y X q p pos)

  -- ---- the cases of the finite sum

  -- unlike signs, the second not the larger: an exact zero is +
  not_larger : (s P X Y : ℕ) → s < 2
      → cond (ltb X Y) P (nearest_word F (eqb s 1 && ltb Y X) (X - Y))
      ≡ cond (ltb X Y) P (cond (ltb Y X) (rounded F 0 s (X - Y)) (signed F (cancelled_sign 0) 0))
  unfolding direction cancelled_sign
  not_larger s P X Y hs = go (dec_lt X Y) (dec_lt Y X)
    where
      go : Dec (X < Y) → Dec (Y < X)
          → cond (ltb X Y) P (nearest_word F (eqb s 1 && ltb Y X) (X - Y))
          ≡ cond (ltb X Y) P (cond (ltb Y X) (signed F s (bounded_word F NearestEven (X - Y))) (signed F 0 0))
      go (yes l) g = rw (lt-ltb X Y l)
      go (no l) (yes g) = rw (le-ltb X Y (omega arith), lt-ltb Y X g) (ap (λ (n : ℕ). signed F n (bounded_word F NearestEven (X - Y))) (sign_kept s hs))
      go (no l) (no g) =
          let none : X - Y ≡ 0 = omega arith in
          rw (le-ltb X Y (omega arith), le-ltb Y X (omega arith))
          (ap₂ (λ (n m : ℕ). signed F n (bounded_word F NearestEven m)) (sign_dropped (eqb s 1)) none ∙ rounded_zero F tie.supported 0 0)

  finite_cases : (s t X Y : ℕ) → s < 2 → t < 2
      → cond (beq (eqb s 1) (eqb t 1)) (nearest_word F (eqb s 1) (X + Y)) (cond (ltb X Y) (nearest_word F (eqb t 1) (Y - X)) (nearest_word F (eqb s 1 && ltb Y X) (X - Y)))
      ≡ cond (eqb s t) (rounded F 0 s (X + Y))
      (cond (ltb X Y) (rounded F 0 t (Y - X)) (cond (ltb Y X) (rounded F 0 s (X - Y)) (signed F (cancelled_sign 0) 0)))
  unfolding direction
  finite_cases zero zero X Y hs ht = refl
  finite_cases zero (suc zero) X Y hs ht = not_larger 0 (rounded F 0 1 (Y - X)) X Y hs
  finite_cases (suc zero) zero X Y hs ht = not_larger 1 (rounded F 0 0 (Y - X)) X Y hs
  finite_cases (suc zero) (suc zero) X Y hs ht = refl
  finite_cases zero (suc (suc t)) X Y hs ht = absurd (omega arith)
  finite_cases (suc zero) (suc (suc t)) X Y hs ht = absurd (omega arith)
  finite_cases (suc (suc s)) t X Y hs ht = absurd (omega arith)

  finite_add : (x y : record_of.Finite) (u v : Float) → x.sign < 2 → y.sign < 2 → Same B (Finite x) u → Same B (Finite y) v
      → to_bits B (add B u v) ≡ finite_sum F 0 x y
  unfolding add finite_sum
  finite_add x y nan v sx sy hu hv = absurd hu
  finite_add x y (inf s) v sx sy hu hv = absurd hu
  finite_add x y (fin s m e) nan sx sy hu hv = absurd hv
  finite_add x y (fin s m e) (inf t) sx sy hu hv = absurd hv
  finite_add x y (fin s m e) (fin t n d) sx sy hu hv =
      ap₂ (λ (p q : Bool). to_bits B (sum B p (m * up e * down d) q (n * up d * down e) (down e * down d))) hu.0 hv.0
      ∙ sum_bits (eqb x.sign 1) (eqb y.sign 1) (m * up e * down d) (n * up d * down e) (down e * down d) (magnitude x) (magnitude y)
      (mul-pos (down_pos e) (down_pos d)) left right
      ∙ finite_cases x.sign y.sign (magnitude x) (magnitude y) sx sy
    where
      L : ℕ
      L = 2 ^ low B

      left : m * up e * down d * L ≡ magnitude x * (down e * down d)
      left = mul_right_comm (m * up e) (down d) L ∙ ap (λ (k : ℕ). k * down d) hu.1 ∙ mul_assoc (magnitude x) (down e) (down d)

      right : n * up d * down e * L ≡ magnitude y * (down e * down d)
      right =
          mul_right_comm (n * up d) (down e) L ∙ ap (λ (k : ℕ). k * down e) hv.1 ∙ mul_right_comm (magnitude y) (down d) (down e)
          ∙ mul_assoc (magnitude y) (down e) (down d)

  -- ---- every kind
  infinite_word : (s : ℕ) → s < 2 → to_bits B (inf (eqb s 1)) ≡ infinity F s
  infinite_word zero h = infinite_bits tie false
  infinite_word (suc zero) h = infinite_bits tie true
  infinite_word (suc (suc s)) h = absurd (omega arith)

  infinite_add : (s t : ℕ) → s < 2 → t < 2 → to_bits B (add B (inf (eqb s 1)) (inf (eqb t 1))) ≡ infinite_sum F s (Infinite t)
  unfolding add infinite_sum
  infinite_add zero zero hs ht = infinite_bits tie false
  infinite_add zero (suc zero) hs ht = nan_bits_lem tie
  infinite_add (suc zero) zero hs ht = nan_bits_lem tie
  infinite_add (suc zero) (suc zero) hs ht = infinite_bits tie true
  infinite_add zero (suc (suc t)) hs ht = absurd (omega arith)
  infinite_add (suc zero) (suc (suc t)) hs ht = absurd (omega arith)
  infinite_add (suc (suc s)) t hs ht = absurd (omega arith)

  kind_add : (x y : kind.Operand) (u v : Float) → Sound F x → Sound F y → Same B x u → Same B y v → to_bits B (add B u v) ≡ kind_sum F 0 x y
  unfolding add kind_sum infinite_sum
  kind_add Nan y u v sx sy hu hv = ap (λ (n : Float). to_bits B (add B n v)) hu ∙ nan_bits_lem tie
  kind_add (Infinite s) Nan u v sx sy hu hv = ap₂ (λ (m n : Float). to_bits B (add B m n)) hu hv ∙ nan_bits_lem tie
  kind_add (Infinite s) (Infinite t) u v sx sy hu hv = ap₂ (λ (m n : Float). to_bits B (add B m n)) hu hv ∙ infinite_add s t sx sy
  kind_add (Infinite s) (Finite y) u nan sx sy hu hv = absurd hv
  kind_add (Infinite s) (Finite y) u (inf t) sx sy hu hv = absurd hv
  kind_add (Infinite s) (Finite y) u (fin t n d) sx sy hu hv = ap (λ (m : Float). to_bits B (add B m (fin t n d))) hu ∙ infinite_word s sx
  kind_add (Finite x) Nan nan v sx sy hu hv = absurd hu
  kind_add (Finite x) Nan (inf s) v sx sy hu hv = absurd hu
  kind_add (Finite x) Nan (fin s m e) v sx sy hu hv = ap (λ (n : Float). to_bits B (add B (fin s m e) n)) hv ∙ nan_bits_lem tie
  kind_add (Finite x) (Infinite t) nan v sx sy hu hv = absurd hu
  kind_add (Finite x) (Infinite t) (inf s) v sx sy hu hv = absurd hu
  kind_add (Finite x) (Infinite t) (fin s m e) v sx sy hu hv = ap (λ (n : Float). to_bits B (add B (fin s m e) n)) hv ∙ infinite_word t sy
  kind_add (Finite x) (Finite y) u v sx sy hu hv = finite_add x y u v sx.sign_lt sy.sign_lt hu hv

-- ---- a word with its sign turned
sign_turned : (g : ℕ) → g < 2 → not (eqb g 1) ≡ eqb ((g + 1) % 2) 1
sign_turned zero h = refl
sign_turned (suc zero) h = refl
sign_turned (suc (suc g)) h = absurd (omega arith)

negated : (F : Format) (B : ieee.Format) (g e t : ℕ) (v : Float) → g < 2 → Same B (kind_of F g e t) v → Same B (kind_of F ((g + 1) % 2) e t) (neg v)
unfolding neg
negated F B g e t v hg = go (eqb e (all_ones F)) (eqb t 0) v
  where
    go : (p q : Bool) (u : Float) → Same B (cond p (cond q (Infinite g) Nan) (Finite (finite_fields F g e t))) u
        → Same B (cond p (cond q (Infinite ((g + 1) % 2)) Nan) (Finite (finite_fields F ((g + 1) % 2) e t))) (neg u)
    go true true u h = ap neg h ∙ ap inf (sign_turned g hg)
    go true false u h = ap neg h
    go false q nan h = absurd h
    go false q (inf s) h = absurd h
    go false q (fin s m k) h = (ap not h.0 ∙ sign_turned g hg, h.1)

module _ {F : Format} {B : ieee.Format} (tie : Interchange F B) where
  negated_word : (b : ℕ) → b < 2 ^ word_bits F → Same B (operand_of F (effective F 1 b)) (neg (of_bits B b))
  unfolding operand_of
  negated_word b h =
      subst₃ (λ (g e t : ℕ). Same B (kind_of F g e t) (neg (of_bits B b))) (sym (effective_sign_lem F 1 b)) (sym (effective_biased F 1 b)) (sym (effective_fraction F 1 b))
      (negated F B (sign F b) (biased F b).0 (fraction F b) (of_bits B b) (omega arith) (same_word tie b h))

  -- the rounded sum in mode 0
  pub result_is_ieee_add : (a b : ℕ) → a < 2 ^ word_bits F → b < 2 ^ word_bits F → result_of F 0 0 a b ≡ ieee_add B a b
  unfolding result_of
  result_is_ieee_add a b ha hb =
      ap (λ (n : ℕ). kind_sum F 0 (operand_of F a) (operand_of F n)) (effective_add F b hb)
      ∙ sym (kind_add tie (operand_of F a) (operand_of F b) (of_bits B a) (of_bits B b) (operand_sound F a) (operand_sound F b) (same_word tie a ha) (same_word tie b hb))

  -- and the difference
  pub result_is_ieee_sub : (a b : ℕ) → a < 2 ^ word_bits F → b < 2 ^ word_bits F → result_of F 1 0 a b ≡ ieee_sub B a b
  unfolding result_of sub
  result_is_ieee_sub a b ha hb =
      sym (kind_add tie (operand_of F a) (operand_of F (effective F 1 b)) (of_bits B a) (neg (of_bits B b))
      (operand_sound F a) (operand_sound F (effective F 1 b)) (same_word tie a ha) (negated_word b hb))

-- ---- in single and double precision
pub single_is_ieee_add : (a b : ℕ) → a < 2 ^ 32 → b < 2 ^ 32 → result_of single 0 0 a b ≡ ieee_add binary32 a b
single_is_ieee_add = result_is_ieee_add single_interchange

pub single_is_ieee_sub : (a b : ℕ) → a < 2 ^ 32 → b < 2 ^ 32 → result_of single 1 0 a b ≡ ieee_sub binary32 a b
single_is_ieee_sub = result_is_ieee_sub single_interchange

pub double_is_ieee_add : (a b : ℕ) → a < 2 ^ 64 → b < 2 ^ 64 → result_of double 0 0 a b ≡ ieee_add binary64 a b
double_is_ieee_add = result_is_ieee_add double_interchange

pub double_is_ieee_sub : (a b : ℕ) → a < 2 ^ 64 → b < 2 ^ 64 → result_of double 1 0 a b ≡ ieee_sub binary64 a b
double_is_ieee_sub = result_is_ieee_sub double_interchange
