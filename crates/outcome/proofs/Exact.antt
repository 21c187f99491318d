-- Where both significands have 0 in each bit that is rounded off, so does what they make, and every direction keeps the same part of it: a
-- question may be put in another direction. The difference of a reversed row is such (document 02, W-205). Assumes nothing.
use mathlib.Core.Logic.{◌↔◌}
use mathlib.Core.Path.{◌≡◌, sym, ap, ap₂, ◌∙◌, subst}
use mathlib.Core.Bool.{Bool, true, false, not}
use Prim.Native.Nat.{ℕ, zero, suc, ◌+◌, ◌-◌, ◌*◌, ◌/◌, ◌%◌, ◌^◌, ◌≤◌, ◌<◌}
use native.Mathlib.Nat.{zero-mod, mul_comm, mul-add, mul-sub, mul-mod_right}
use native.Mathlib.Omega.{arith}
use lib.Ieee.{size}
use lib.Pow.{split, mod-mod-pow}
use Rattle.mask.specs.declared.Mask.{Mask}
use Rattle.mask.specs.Mask.{Meets}
use Rattle.columns.specs.Carry.{combined}
use Rattle.word.specs.declared.Unit as exponent
use Rattle.rounding.specs.declared.Direction.{Direction}
use Rattle.rounding.proofs.RoundOff.{round_off_exact}
use Rattle.rounding.specs.Width.{aligned_bits, sum_bits}
use Rattle.rounding.specs.Outcome.{kept_of}
use Rattle.making.specs.declared.Aligned as pair
use Rattle.making.specs.Making.{Made, Making, most_digits, Formed}
use Rattle.making.proofs.Zeros.{zeros_below}
use Rattle.making.proofs.Making.{making_answer}
use Rattle.outcome.specs.Question.{NextQuotient, KeepAlike}
use Rattle.outcome.proofs.Kept.{rounded_bits, added_zeros, kept_shifted}
use Rattle.outcome.proofs.Range.{made_digits}

-- what is made of two multiples of 2^j is one
factor : (n j : ℕ) → n % 2 ^ j ≡ 0 → n ≡ 2 ^ j * (n / 2 ^ j)
factor n j e = omega (arith, split n j, mul_comm (n / 2 ^ j) (2 ^ j))

combined_zeros : (subtract : Bool) (l t j : ℕ) → l % 2 ^ j ≡ 0 → t % 2 ^ j ≡ 0 → combined subtract l t % 2 ^ j ≡ 0
combined_zeros true l t j hl ht =
    ap (λ (n : ℕ). n % 2 ^ j) (ap₂ ◌-◌ (factor l j hl) (factor t j ht) ∙ sym (mul-sub (2 ^ j) (l / 2 ^ j) (t / 2 ^ j)))
    ∙ mul-mod_right (2 ^ j) (l / 2 ^ j - t / 2 ^ j)
combined_zeros false l t j hl ht =
    ap (λ (n : ℕ). n % 2 ^ j) (ap₂ ◌+◌ (factor l j hl) (factor t j ht) ∙ sym (mul-add (2 ^ j) (l / 2 ^ j) (t / 2 ^ j)))
    ∙ mul-mod_right (2 ^ j) (l / 2 ^ j + t / 2 ^ j)

pub made_zeros : (A : pair.Aligned) (j : ℕ) → ((n : ℕ) → Meets n A.head → n % 2 ^ j ≡ 0) → ((n : ℕ) → Meets n A.tail → n % 2 ^ j ≡ 0)
    → (f : ℕ) → (x : ℕ) → Made f A x → x % 2 ^ j ≡ 0
made_zeros A j head tail f x made =
    subst (λ (n : ℕ). n % 2 ^ j ≡ 0) made.makes
    (combined_zeros (not A.like) made.H made.T j (head made.H made.head_meets) (tail made.T made.tail_meets))

-- so does the difference of a reversed row, in each bit that is rounded off
pub reversed_zeros : (f : ℕ) (u : exponent.Unit) (A : pair.Aligned) (N : ℕ) → Formed f A → A.reversed ≡ true → (x : ℕ) → Made f A x → size x ≡ N → x % 2 ^ rounded_bits A.below f N u ≡ 0
reversed_zeros f u A N formed reversed x made digits =
    let q = A.below in
    let one = formed.one_unit reversed in
    let most : size x ≤ aligned_bits q f = subst (λ (b : Bool). size x ≤ most_digits q f b) one.unlike (made_digits f A x made) in
    let few : rounded_bits q f N u ≤ q = omega (arith, most, digits) in
    let back : q - rounded_bits q f N u + rounded_bits q f N u ≡ q = omega (arith, few) in
    let all : x % 2 ^ q ≡ 0 = made_zeros A q (zeros_below q A.head one.head) (zeros_below q A.tail one.tail) f x made in
    sym (mod-mod-pow x (q - rounded_bits q f N u) (rounded_bits q f N u))
    ∙ ap (λ (k : ℕ). x % 2 ^ k % 2 ^ rounded_bits q f N u) back
    ∙ ap (λ (k : ℕ). k % 2 ^ rounded_bits q f N u) all
    ∙ zero-mod (2 ^ rounded_bits q f N u)

-- then all directions keep the same part
pub exact_alike : (f : ℕ) (d e : Direction) (u : exponent.Unit) (A : pair.Aligned) (N : ℕ) → 0 < N → N ≤ sum_bits A.below f
    → ((x : ℕ) → Made f A x → size x ≡ N → x % 2 ^ rounded_bits A.below f N u ≡ 0) → KeepAlike f d e u A N
exact_alike f d e u A zero some most zeros = absurd (omega arith)
exact_alike f d e u A (suc n) some most zeros = λ x made digits.
    let q = A.below in
    let whole = zeros x made digits in
    kept_shifted q f d x u n digits most
    ∙ ap (λ (k : ℕ). k * 2 ^ added_zeros q f (suc n) u) (round_off_exact d x (rounded_bits q f (suc n) u) whole ∙ sym (round_off_exact e x (rounded_bits q f (suc n) u) whole))
    ∙ sym (kept_shifted q f e x u n digits most)

-- a question on the part that is kept, put in a direction that keeps the same, of numbers with a property that tells their digits
module _ (f : ℕ) (d e : Direction) (u : exponent.Unit) (A : pair.Aligned) (N : ℕ) (alike : KeepAlike f d e u A N) where
  abbrev Keeps : (ℕ → Type 0) → Direction → ℕ → Mask → ℕ → Type 0
  Keeps P way h fraction n =
      P n × (kept_of A.below f way n u / 2 ^ f ≡ h) × Meets (kept_of A.below f way n u % 2 ^ f) fraction

  pub alike_asked : (P : ℕ → Type 0) → ((n : ℕ) → P n → size n ≡ N) → (h : ℕ) (fraction : Mask) (r : Bool)
      → ((r ≡ true) ↔ Making f A (Keeps P d h fraction)) → (r ≡ true) ↔ Making f A (Keeps P e h fraction)
  alike_asked P digits h fraction r asks =
      making_answer f A (Keeps P d h fraction) (Keeps P e h fraction) r
      (λ n made.
      let same : P n → kept_of A.below f d n u ≡ kept_of A.below f e n u = λ met. alike n made (digits n met) in (
        (λ p. (p.0, rw (same p.0) at p.1, rw (same p.0) at p.2)),
        λ p. (p.0, rw (same p.0) p.1, rw (same p.0) p.2),
      ))
      asks

  pub never_alike : (NextQuotient f d u A N → ⊥) → NextQuotient f e u A N → ⊥
  never_alike never m =
      never (record { x = m.x; made = m.made; holds = (m.holds.0, ap (λ (k : ℕ). k / 2 ^ f) (alike m.x m.made m.holds.0) ∙ m.holds.1) })
