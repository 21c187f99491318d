-- A set of states in its column, and the sets that a table leads to: those of the machine where the table tells its steps, and empty from
-- the first empty one on. Assumes nothing.
use mathlib.Core.Path.{◌≡◌, refl, sym, ap, ap₂, ◌∙◌}
use mathlib.Core.Bool.{Bool, true, false, not, ◌&&◌, ◌||◌, false≢true}
use Prim.Native.Nat.{ℕ, zero, suc, ◌+◌, ◌-◌, ◌*◌, ◌≤◌, ◌<◌}
use native.Mathlib.Nat.{div-one, add-zero, add-suc, le_trans, le-suc}
use native.Mathlib.Omega.{arith}
use lib.Bits.{bit_and, bit_or}
use lib.Dec.{eqb}
use Rattle.bits.specs.Bit.{bit}
use Rattle.bits.proofs.Laws.{bit_lt}
use Rattle.columns.specs.Machine.{some, into, sets}
use Rattle.columns.proofs.Some.{some_complete, some_cong}
use Rattle.mask.proofs.Bitwise.{of_bit}
use Rattle.chain.specs.declared.walk.States.{States}
use Rattle.chain.specs.declared.walk.Table.{Table}
use Rattle.chain.specs.Ways.{mem, digit}
use Rattle.chain.specs.Walk.{state_word, ways_to, flag, flags}
use Rattle.chain.proofs.Words.{digit_lt, digit_one, flag_and, flag_or, flag_test}

-- ---- in one column

module _ (i : ℕ) where
  or_four : (f : ℕ → Bool) → bit_or (bit_or (bit_or (flag (f 0) i) (flag (f 1) i)) (flag (f 2) i)) (flag (f 3) i) ≡ flag (some 4 f) i
  or_four f =
      ap (λ (u : ℕ). bit_or (bit_or u (flag (f 2) i)) (flag (f 3) i)) (flag_or i (f 0) (f 1))
      ∙ ap (λ (u : ℕ). bit_or u (flag (f 3) i)) (flag_or i (f 0 || f 1) (f 2))
      ∙ flag_or i (f 0 || f 1 || f 2) (f 3)

  pub lead_flag : (b : ℕ → Bool) (at to : States) → at ≡ flags b i
      → bit_or (bit_or (bit_or (bit_and at.s0 to.s0) (bit_and at.s1 to.s1)) (bit_and at.s2 to.s2)) (bit_and at.s3 to.s3)
      ≡ flag (some 4 (λ s. b s && mem (state_word to s) i)) i
  lead_flag b at to e =
      ap (λ (v : States). bit_or (bit_or (bit_or (bit_and v.s0 to.s0) (bit_and v.s1 to.s1)) (bit_and v.s2 to.s2)) (bit_and v.s3 to.s3)) e
      ∙ ap₂ (λ (u v : ℕ). bit_or (bit_or (bit_or u v) (bit_and (flag (b 2) i) to.s2)) (bit_and (flag (b 3) i) to.s3)) (flag_and i (b 0) to.s0) (flag_and i (b 1) to.s1)
      ∙ ap₂ (λ (u v : ℕ). bit_or (bit_or (bit_or (flag (b 0 && mem to.s0 i) i) (flag (b 1 && mem to.s1 i) i)) u) v) (flag_and i (b 2) to.s2) (flag_and i (b 3) to.s3)
      ∙ or_four (λ s. b s && mem (state_word to s) i)

  pub any_flag : (b : ℕ → Bool) (at : States) → at ≡ flags b i → not (eqb (bit_or (bit_or (bit_or at.s0 at.s1) at.s2) at.s3) 0) ≡ some 4 b
  any_flag b at e =
      ap (λ (v : States). not (eqb (bit_or (bit_or (bit_or v.s0 v.s1) v.s2) v.s3) 0)) e
      ∙ ap (λ (u : ℕ). not (eqb u 0)) (or_four b)
      ∙ flag_test i (some 4 b)

-- ---- a set as the bits of a word

pub bit_flag : (v s : ℕ) → bit v s ≡ flag (mem v s) 0
bit_flag v s = of_bit (λ (u : ℕ). u ≡ flag (eqb u 1) 0) refl refl (bit v s) (bit_lt v s)

-- four digits
module _ (b : ℕ → Bool) where
  abbrev four : ℕ
  four = digit (b 0) + digit (b 1) * 2 + digit (b 2) * 4 + digit (b 3) * 8

  four_bit : (s : ℕ) → bit four s ≡ digit (b s) → mem four s ≡ b s
  four_bit s h = ap (λ (u : ℕ). eqb u 1) h ∙ digit_one (b s)

  four_mem : (s : ℕ) → s < 4 → mem four s ≡ b s
  four_mem zero h = four_bit 0 (omega (arith, div-one four, digit_lt (b 0)))
  four_mem (suc zero) h = four_bit 1 (omega (arith, digit_lt (b 0), digit_lt (b 1)))
  four_mem (suc (suc zero)) h = four_bit 2 (omega (arith, digit_lt (b 0), digit_lt (b 1), digit_lt (b 2)))
  four_mem (suc (suc (suc zero))) h = four_bit 3 (omega (arith, digit_lt (b 0), digit_lt (b 1), digit_lt (b 2), digit_lt (b 3)))
  four_mem (suc (suc (suc (suc s)))) h = absurd (omega arith)

-- a set that stands in column i, as the digits of a word
pub gather_mem : (i : ℕ) (b : ℕ → Bool) (at : States) (d e f g : ℕ) → at ≡ flags b i → d ≡ digit (not (eqb at.s0 0)) → e ≡ digit (not (eqb at.s1 0))
    → f ≡ digit (not (eqb at.s2 0)) → g ≡ digit (not (eqb at.s3 0)) → (s : ℕ) → s < 4 → mem (d + e * 2 + f * 4 + g * 8) s ≡ b s
gather_mem i b at d e f g h p q u v s l =
    let one : (k : ℕ) (w : States → ℕ) → w (flags b i) ≡ flag (b k) i → digit (not (eqb (w at) 0)) ≡ digit (b k) =
    λ k w r. ap (λ (m : States). digit (not (eqb (w m) 0))) h ∙ ap (λ (m : ℕ). digit (not (eqb m 0))) r ∙ ap digit (flag_test i (b k)) in
    ap₂ (λ (m n : ℕ). mem (m + n * 2 + f * 4 + g * 8) s) (p ∙ one 0 (λ v. v.s0) refl) (q ∙ one 1 (λ v. v.s1) refl)
    ∙ ap₂ (λ (m n : ℕ). mem (digit (b 0) + digit (b 1) * 2 + m * 4 + n * 8) s) (u ∙ one 2 (λ v. v.s2) refl) (v ∙ one 3 (λ v. v.s3) refl)
    ∙ four_mem b s l

-- ---- along the columns

-- the sets that a table leads to from b
unfoldable pub reached : Table → (ℕ → Bool) → ℕ → ℕ → Bool
reached table b zero t = b t
reached table b (suc i) t = some 4 (λ s. reached table b i s && mem (state_word (ways_to table t) s) i)

module _ (table : Table) (b : ℕ → Bool) where
  pub reached_sets : (step : ℕ → ℕ → ℕ → ℕ → ℕ) → ((i s t : ℕ) → i < 64 → s < 4 → t < 4 → mem (state_word (ways_to table t) s) i ≡ into step i s t)
      → (i t : ℕ) → i ≤ 64 → t < 4 → reached table b i t ≡ sets step 4 b i t
  unfolding reached sets
  reached_sets step tells zero t hi ht = refl
  reached_sets step tells (suc i) t hi ht =
      some_cong 4 (λ s. reached table b i s && mem (state_word (ways_to table t) s) i) (λ s. sets step 4 b i s && into step i s t)
      (λ s hs. ap₂ (λ (p q : Bool). p && q) (reached_sets step tells i s (le_trans (le-suc i) hi) hs) (tells i s t hi hs ht))

  -- an empty set leads to empty sets
  stays_empty : (i : ℕ) → ((s : ℕ) → s < 4 → reached table b i s ≡ false) → (j s : ℕ) → s < 4 → reached table b (i + j) s ≡ false
  unfolding reached
  stays_empty i none zero s h = ap (λ (k : ℕ). reached table b k s) (add-zero i) ∙ none s h
  stays_empty i none (suc j) s h =
      ap (λ (k : ℕ). reached table b k s) (add-suc i j)
      ∙ some_cong 4 (λ r. reached table b (i + j) r && mem (state_word (ways_to table s) r) (i + j)) (λ r. false)
      (λ r hr. ap (λ (v : Bool). v && mem (state_word (ways_to table s) r) (i + j)) (stays_empty i none j r hr))

  pub emptied : (i n : ℕ) → i ≤ n → some 4 (reached table b i) ≡ false → (s : ℕ) → s < 4 → reached table b n s ≡ false
  emptied i n h e s hs =
      let end : i + (n - i) ≡ n = omega arith in
      ap (λ (k : ℕ). reached table b k s) (sym end) ∙ stays_empty i (λ r hr. none r hr (reached table b i r) refl) (n - i) s hs
    where
      none : (r : ℕ) → r < 4 → (v : Bool) → reached table b i r ≡ v → reached table b i r ≡ false
      none r hr true q = absurd (false≢true (sym e ∙ some_complete 4 (reached table b i) r hr q))
      none r hr false q = q
