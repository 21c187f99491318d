-- The layout of a job record, by computing: how many numbers it has, that the map bits of the fields with a default lie below their number,
-- and the bytes of its numbers. Assumes nothing.
use mathlib.Core.Path.{◌≡◌, refl}
use mathlib.Core.Bool.{Bool, true, false, cond}
use Prim.Native.Nat.{ℕ, ◌≤◌, ◌<◌}
use native.Mathlib.Omega.{arith}
use lib.Dec.{leb}
use lib.ListN.{length, get_or, take}
use borrow.Author.Tests.{leb-true, leb-false}
use Rattle.format.specs.declared.Format.{Format}
use Rattle.format.specs.Format.{word_bits}
use Rattle.numbers.specs.Numbers.{total}
use Rattle.layout.specs.Layout.{sizes}
use Rattle.layout.specs.Fields.{word_bytes, default_fields, number_count, default_numbers, with_default, layout, field_sizes}
use Rattle.layout.proofs.ByMap.{counts, map_bits, all_below, sizes_below, sizes_most}

-- a word has four bytes or eight: what holds of both where they are taken, holds of its bytes
pub by_width : (P : ℕ → Type 0) (F : Format) → (word_bits F ≤ 32 → P 4) → (32 < word_bits F → P 8) → P (word_bytes F)
unfolding word_bytes
by_width P F narrow wide = go (leb (word_bits F) 32) refl
  where
    go : (t : Bool) → leb (word_bits F) 32 ≡ t → P (cond t 4 8)
    go true e = narrow (leb-true (word_bits F) 32 e)
    go false e = wide (leb-false (word_bits F) 32 e)

-- the two widths
pub narrow_bytes : (F : Format) → word_bits F ≤ 32 → word_bytes F ≡ 4
narrow_bytes F h = by_width (λ (k : ℕ). k ≡ 4) F (λ n. refl) (λ w. absurd (omega (arith, h, w)))

pub wide_bytes : (F : Format) → 32 < word_bits F → word_bytes F ≡ 8
wide_bytes F h = by_width (λ (k : ℕ). k ≡ 8) F (λ n. absurd (omega (arith, h, n))) (λ w. refl)

pub layout_length : (word : ℕ) → length (layout word) ≡ number_count
unfolding layout with_default
layout_length word = refl

pub default_length : (word : ℕ) → length (with_default word) ≡ default_numbers
unfolding with_default
default_length word = refl

pub default_take : (word : ℕ) → take default_numbers (layout word) ≡ with_default word
unfolding layout with_default
default_take word = refl

pub default_bits : (word : ℕ) → all_below default_fields (map_bits (with_default word)) ≡ true
unfolding with_default
default_bits word = refl

pub sizes_count : (word m : ℕ) → length (field_sizes word m) ≡ number_count
unfolding layout with_default sizes
sizes_count word m = refl

module _ (F : Format) (m : ℕ) where
  -- a u64 holds each number
  pub size_most : (i : ℕ) → get_or (field_sizes (word_bytes F) m) i 0 < 9
  unfolding layout with_default
  size_most i =
      by_width (λ (k : ℕ). get_or (field_sizes k m) i 0 < 9) F
      (λ n. sizes_below 9 (layout 4) m refl (omega arith) i)
      (λ w. sizes_below 9 (layout 8) m refl (omega arith) i)

  -- after the header the longest record has 134 bytes
  pub total_most : total (field_sizes (word_bytes F) m) ≤ 134
  unfolding layout with_default total
  total_most =
      by_width (λ (k : ℕ). total (field_sizes k m) ≤ 134) F
      (λ n. let most : total (field_sizes 4 m) ≤ total (counts (layout 4)) = sizes_most (layout 4) m in omega (arith, most))
      (λ w. let most : total (field_sizes 8 m) ≤ total (counts (layout 8)) = sizes_most (layout 8) m in omega (arith, most))
