-- A test of every word that meets a mask, without a walk over all words: from the top, only the bits that the mask allows are tried.
-- Assumes nothing.
use mathlib.Core.Path.{◌≡◌, sym, ap, ◌∙◌}
use mathlib.Core.Bool.{Bool, true, false, ◌&&◌, cond, and-eq-true_iff, false≢true}
use Prim.Native.Nat.{ℕ, zero, suc, ◌+◌, ◌*◌, ◌%◌, ◌^◌, ◌<◌}
use native.Mathlib.Nat.{mod-lt, mod-mod, mod-eq_of_lt}
use native.Mathlib.Omega.{arith}
use lib.Pow.{pow_pos}
use Rattle.bits.specs.Bit.{bit}
use Rattle.bits.proofs.Laws.{low_suc}
use Rattle.mask.specs.declared.Mask.{Mask}
use Rattle.mask.specs.Mask.{WellFormed, Meets}
use Rattle.mask.proofs.Bitwise.{bit_case}
use Rattle.mask.proofs.ByBits.{value_below}
use Rattle.columns.specs.Column.{allows}
use Rattle.columns.proofs.Agree.{MetLow, met_column, met_agree, met_whole}

abbrev pub implies : Bool → Bool → Bool
implies s t = cond s t true

pub implies_elim : (s t : Bool) → implies s t ≡ true → s ≡ true → t ≡ true
implies_elim true t e h = e
implies_elim false t e h = absurd (false≢true h)

-- whether a test holds of every word of k bits that meets a mask
unfoldable pub each_word : Mask → ℕ → (ℕ → Bool) → Bool
each_word m zero test = test 0
each_word m (suc k) test =
    implies (allows m.care m.value k 0) (each_word m k (λ x. test (0 * 2 ^ k + x)))
    && implies (allows m.care m.value k 1) (each_word m k (λ x. test (1 * 2 ^ k + x)))

module _ (m : Mask) where
  abbrev Low : ℕ → ℕ → Type 0
  Low x k = MetLow m.care m.value x k

  every_low : (k : ℕ) (test : ℕ → Bool) → each_word m k test ≡ true → (x : ℕ) → x < 2 ^ k → Low x k → test x ≡ true
  unfolding each_word
  every_low zero test e x h low = let z : x ≡ 0 = omega arith in rw z e
  every_low (suc k) test e x h low =
      let below = (met_column m.care m.value x k).0 low in
      let half : (b : ℕ) → bit x k ≡ b
      → implies (allows m.care m.value k b) (each_word m k (λ y. test (b * 2 ^ k + y))) ≡ true → test x ≡ true =
      λ b is t.
      let rest = implies_elim (allows m.care m.value k b) (each_word m k (λ y. test (b * 2 ^ k + y))) t (ap (allows m.care m.value k) (sym is) ∙ below.1) in
      let part : x ≡ b * 2 ^ k + x % 2 ^ k = sym (mod-eq_of_lt h) ∙ low_suc x k ∙ ap (λ (u : ℕ). u * 2 ^ k + x % 2 ^ k) is in
      ap test part
      ∙ every_low k (λ y. test (b * 2 ^ k + y)) rest (x % 2 ^ k) (mod-lt x (pow_pos k))
      (met_agree m.care m.value x (x % 2 ^ k) k (sym (mod-mod x (2 ^ k))) below.0)
      in
      let both = (and-eq-true_iff
      (implies (allows m.care m.value k 0) (each_word m k (λ y. test (0 * 2 ^ k + y))))
      (implies (allows m.care m.value k 1) (each_word m k (λ y. test (1 * 2 ^ k + y))))).0 e
      in
      bit_case x k (λ is. half 0 is both.0) (λ is. half 1 is both.1)

  pub every_word : (k : ℕ) (test : ℕ → Bool) → WellFormed k m → each_word m k test ≡ true → (x : ℕ) → x < 2 ^ k → Meets x m → test x ≡ true
  every_word k test formed e x h met = every_low k test e x h ((met_whole m.care m.value x k (value_below k m formed) h).1 met)
