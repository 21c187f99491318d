-- The words that meet a mask with a fixed sign lie between two ends exactly where their other bits, read as a number, are in the range of the
-- sign; and these numbers go from the least that meets the mask to the greatest. Assumes nothing.
use Rattle.std.specs.Prelude.{Some}
use mathlib.Core.Logic.{◌↔◌, ◌⊎◌, inl, inr}
use mathlib.Core.Path.{◌≡◌, sym, ap, ◌∙◌}
use Prim.Native.Nat.{ℕ, zero, suc, ◌+◌, ◌-◌, ◌%◌, ◌^◌, ◌≤◌, ◌<◌}
use native.Mathlib.Decide.{dec_lt}
use native.Mathlib.Nat.{lt_of_lt_of_le, pow-suc, div-eq_of_lt-le}
use native.Mathlib.Omega.{arith}
use lib.Count.{count_leading_zeros, leading_top}
use lib.Pow.{pow_pos, pow_mono}
use Rattle.bits.specs.Bit.{bit}
use Rattle.bits.proofs.Laws.{bit_lt, bit_mod}
use Rattle.format.specs.declared.Format.{Format}
use Rattle.format.specs.Format.{Supported, word_bits}
use Rattle.mask.specs.declared.Mask.{Mask}
use Rattle.mask.specs.Mask.{WellFormed, Meets, low}
use Rattle.mask.proofs.Bitwise.{bit_case}
use Rattle.mask.proofs.ByBits.{meets_bits}
use Rattle.mask.proofs.ByParts.{meets_parts, low_formed}
use Rattle.mask.proofs.Stepping.{value_least}
use Rattle.word.specs.Word.{sign}
use Rattle.word.proofs.Bounds.{place_bits}
use Rattle.bounds.specs.declared.Ends.{Ends}
use Rattle.bounds.specs.Bounds.{unsigned, rank, LiesBetween, ValidEnds}
use Rattle.bounds.proofs.Ranks.{unsigned_lt, rank_positive, rank_negative, between_ranks}
use Rattle.significand.specs.Tail.{complement, greatest}
use Rattle.significand.proofs.Complements.{complement_lt, complement_bit}
use Rattle.significand.proofs.Part.{part_le}
use Rattle.significand.proofs.Range.{meets_range}
use Rattle.narrowing.specs.declared.Standing as relation
use Rattle.narrowing.specs.declared.Standing.TheVariants.{Inside, Outside, Across}
use Rattle.narrowing.specs.Range.{range_of, extent_of, Decided}
use Rattle.narrowing.specs.Narrowing.{Stands}

-- ---- one word

-- a number is in the range of a sign
abbrev WithinRange : Format → Ends → ℕ → ℕ → Type 0
WithinRange F e s m = ((range_of F e s).low ≤ m) × (m < (range_of F e s).past)

range_ranks : (F : Format) (x : ℕ) (e : Ends) (s : ℕ) → s < 2 → sign F x ≡ s
    → ((rank F e.low ≤ rank F x) × (rank F x ≤ rank F e.high)) ↔ WithinRange F e s (unsigned F x)
range_ranks F x e zero h is =
    let r = rank_positive F x is in
    let p = pow_pos (F.w + F.f) in (
      (λ b. let l = b.0 in let u = b.1 in (omega (arith, r, l), omega (arith, r, u, p))),
      λ b. let l = b.0 in let u = b.1 in (omega (arith, r, l), omega (arith, r, u, p)),
    )
range_ranks F x e (suc zero) h is =
    let r = rank_negative F x is in
    let m = unsigned_lt F x in (
      (λ b. let l = b.0 in let u = b.1 in (omega (arith, r, u), omega (arith, r, l, m))),
      λ b. let l = b.0 in let u = b.1 in (omega (arith, r, u, m), omega (arith, r, l)),
    )
range_ranks F x e (suc (suc s)) h is = absurd (omega (arith, h))

-- a word of the sign lies between two ends exactly where its other bits are in the range
pub between_range : (F : Format) (x : ℕ) (e : Ends) → ValidEnds F e → (s : ℕ) → s < 2 → sign F x ≡ s → LiesBetween F x e ↔ WithinRange F e s (unsigned F x)
between_range F x e v s h is =
    let law = range_ranks F x e s h is in (
      (λ b. law.0 (b.above, b.below)),
      λ r. let q = law.1 r in between_ranks F x e v q.0 q.1,
    )

-- ---- the words that meet a mask

module _ (F : Format) (ok : Supported F) (m : Mask) (w : WellFormed (word_bits F) m) where
  abbrev place : ℕ
  place = F.w + F.f

  abbrev below : Mask
  below = low place m

  below_formed : WellFormed place below
  below_formed = low_formed place m w.inside

  -- from the least to the greatest
  pub meets_extent : (x : ℕ) → Meets x m → (below.value ≤ unsigned F x) × (unsigned F x ≤ greatest place below)
  meets_extent x met =
      let part = ((meets_parts place x m).0 met).0 in (
        value_least (unsigned F x) below part,
        part_le (unsigned F x) (greatest place below) ((meets_range place below below_formed (unsigned F x) (unsigned_lt F x)).0 part).1,
      )

  -- the sign is not free
  module _ (fixed : bit m.care place ≡ 0 → ⊥) (e : Ends) (valid : ValidEnds F e) where
    pub meets_between : (x : ℕ) → Meets x m → LiesBetween F x e ↔ WithinRange F e (bit m.value place) (unsigned F x)
    meets_between x met =
        between_range F x e valid (bit m.value place) (bit_lt m.value place)
        ((meets_bits x m w.inside).0 met place (bit_case m.care place (λ z. absurd (fixed z)) (λ o. o)))

    -- the highest bit at which the least and the greatest differ is free
    highest_free : (below.value ≡ greatest place below → ⊥) → (k : ℕ) → k ≡ 63 - count_leading_zeros 64 (greatest place below - below.value)
        → (k < place) × (bit m.care k ≡ 0)
    highest_free ne k is =
        let c : ℕ = complement place below.care in
        let small = complement_lt place below.care in
        let wide = place_bits F ok in
        let pos : 0 < c = omega (arith, ne) in
        let top = leading_top 64 c pos (lt_of_lt_of_le small (pow_mono {i = place} {j = 64} (omega (arith, wide)))) in
        let same : greatest place below - below.value ≡ c = omega arith in
        let at : k ≡ top.0 = omega (arith, is ∙ ap (λ (n : ℕ). 63 - count_leading_zeros 64 n) same, top.1) in
        let lt : top.0 < place = pow_below top.0 place (omega (arith, top.2, small)) in
        let one : bit c top.0 ≡ 1 = one_bit c top.0 top.2 top.3 in
        let none : bit below.care top.0 ≡ 0 = omega (arith, one, complement_bit place below.care top.0 below_formed.below lt) in
        (omega (arith, at, lt), ap (bit m.care) at ∙ sym (bit_mod m.care top.0 place lt) ∙ none)
      where
        one_bit : (c j : ℕ) → 2 ^ j ≤ c → c < 2 ^ suc j → bit c j ≡ 1
        one_bit c j l h =
            let p = pow-suc 2 j in
            ap (λ (n : ℕ). n % 2) (div-eq_of_lt-le {k = 1} (2 ^ j) (omega (arith, l)) (omega (arith, h, p)))

        pow_below : (i j : ℕ) → 2 ^ i < 2 ^ j → i < j
        pow_below i j h = go (dec_lt i j)
          where
            go : Dec (i < j) → i < j
            go (yes l) = l
            go (no n) = let q = pow_mono {i = j} {j = i} (omega (arith, n)) in absurd (omega (arith, q, h))

    -- what is decided of the numbers stands of the words
    pub decided_stands : (r : relation.Standing) → Decided (extent_of F m e) r → Stands F (record { mask = m; bounds = Some e }) r
    decided_stands Inside d = λ x hx met.
        let n = meets_extent x met in
        (meets_between x met).1 (omega (arith, d.0, n.0), omega (arith, d.1, n.1))
    decided_stands Outside d = λ x hx met b.
        let n = meets_extent x met in
        let r = (meets_between x met).0 b in
        none d n r
      where
        none : {low past least most n : ℕ} → (past ≤ low) ⊎ ((past ≤ least) ⊎ (most < low)) → (least ≤ n) × (n ≤ most) → (low ≤ n) × (n < past) → ⊥
        none (inl h) n r = omega (arith, h, r.0, r.1)
        none (inr (inl h)) n r = omega (arith, h, n.0, r.1)
        none (inr (inr h)) n r = omega (arith, h, n.1, r.0)
    decided_stands (Across k v) d =
        let f = highest_free d.1 k d.2 in
        (omega (arith, f.0), f.1, d.0)
