-- The bits that all numbers from l to h share are those above the highest at which l and h differ: without the bits from there on down l and h
-- are equal, and so is what lies between them. Assumes nothing.
use Rattle.std.specs.Prelude.{Ok}
use mathlib.Core.Path.{◌≡◌, sym, ap, ap₂, ◌∙◌, subst}
use Prim.Native.Nat.{ℕ, suc, ◌+◌, ◌-◌, ◌*◌, ◌/◌, ◌%◌, ◌^◌, ◌≤◌, ◌<◌}
use native.Mathlib.Decide.{dec_lt}
use native.Mathlib.Nat.{mod-lt, div-eq_of_lt, le-div_iff_mul-le, lt_of_lt_of_le, pow-suc}
use native.Mathlib.Omega.{arith}
use lib.Arith.{mul_pred}
use lib.Bits.{bit_xor, and_mask, and_le_r, or_add_and, xor_shr, xor_lt}
use lib.Count.{count_leading_zeros, leading_length}
use lib.Pow as pow
use lib.Pow.{pow_pos, pow-add, pow_mono, split, field}
use Rattle.mask.specs.declared.Mask.{Mask}
use Rattle.mask.specs.Mask.{WellFormed, Meets, raised}
use Rattle.mask.specs.Join.{join}
use Rattle.mask.proofs.ByBits.{meets_inside}
use Rattle.mask.proofs.ByParts.{meets_raised}
use Rattle.mask.proofs.Joining.{joined_formed}
use Rattle.mask.proofs.Replies.{join_mask, join_meets}
use Rattle.mask.proofs.Stepping.{xor_zero}
use Rattle.narrowing.specs.Range.{Shares}

module _ (place l h : ℕ) (room : place < 64) (le : l ≤ h) (hh : h < 2 ^ place) (k : ℕ) (is : k ≡ 64 - count_leading_zeros 64 (bit_xor l h)) where
  hl : l < 2 ^ place
  hl = omega (arith, le, hh)

  differ : (k ≤ place) × (bit_xor l h < 2 ^ k)
  differ =
      let small = xor_lt place l h hl hh in
      let top = leading_length 64 (bit_xor l h) (lt_of_lt_of_le small (pow_mono {i = place} {j = 64} (omega (arith, room)))) in
      let at : top.0 ≡ k = omega (arith, is, top.1) in
      (few top.0 at (omega (arith, top.3, small)) (dec_lt place k), subst (λ (n : ℕ). bit_xor l h < 2 ^ n) at top.2)
    where
      few : (m : ℕ) → m ≡ k → 2 ^ m < 2 * 2 ^ place → Dec (place < k) → k ≤ place
      few m e lt (yes p) =
          let q = pow_mono {i = suc place} {j = m} (omega (arith, e, p)) in
          let r = pow-suc 2 place in
          absurd (omega (arith, lt, q, r))
      few m e lt (no n) = omega (arith, n)

  same : l / 2 ^ k ≡ h / 2 ^ k
  same = xor_zero (l / 2 ^ k) (h / 2 ^ k) (sym (xor_shr l h k) ∙ div-eq_of_lt differ.1)

  div_le : (a b : ℕ) → a ≤ b → a / 2 ^ k ≤ b / 2 ^ k
  div_le a b le = (le-div_iff_mul-le (pow_pos k)).1 (let s = split a k in omega (arith, s, le))

  between : (x : ℕ) → l ≤ x → x ≤ h → x / 2 ^ k ≡ l / 2 ^ k
  between x a b = let p = div_le l x a in let q = div_le x h b in omega (arith, p, q, same)

  -- the mask of these bits
  abbrev alike : Mask
  alike = record { care = (2 ^ place - 1) - (2 ^ place - 1) % 2 ^ k; value = l - l % 2 ^ k }

  abbrev above : Mask
  above = record { care = 2 ^ (place - k) - 1; value = l / 2 ^ k }

  cut : (place - k) + k ≡ place
  cut = let d = differ.0 in omega (arith, d)

  alike_raised : alike ≡ raised k above
  alike_raised = ap₂ (λ (c v : ℕ). record { care = c; value = v }) cares values
    where
      ones : 2 ^ place - 1 ≡ (2 ^ (place - k) - 1) * 2 ^ k + (2 ^ k - 1)
      ones =
          ap (λ (n : ℕ). n - 1) (subst (λ (n : ℕ). 2 ^ n ≡ 2 ^ (place - k) * 2 ^ k) cut (pow-add 2 (place - k) k))
          ∙ mul_pred (pow_pos (place - k)) (pow_pos k)

      cares : (2 ^ place - 1) - (2 ^ place - 1) % 2 ^ k ≡ (2 ^ (place - k) - 1) * 2 ^ k
      cares =
          let p = pow_pos k in
          let r : (2 ^ place - 1) % 2 ^ k ≡ 2 ^ k - 1 = ap (λ (n : ℕ). n % 2 ^ k) ones ∙ pow.low (2 ^ (place - k) - 1) k (omega (arith, p)) in
          omega (arith, ones, r)

      values : l - l % 2 ^ k ≡ l / 2 ^ k * 2 ^ k
      values = let s = split l k in omega (arith, s)

  alike_meets : (x : ℕ) → l ≤ x % 2 ^ place → x % 2 ^ place ≤ h → Meets x alike
  alike_meets x a b =
      subst (Meets x) (sym alike_raised)
      (subst (λ (n : ℕ). Meets n (raised k above)) (split x k)
      ((meets_raised k (x / 2 ^ k) (x % 2 ^ k) above (mod-lt x (pow_pos k))).1
      (and_mask (x / 2 ^ k) (place - k)
      ∙ sym (subst (λ (n : ℕ). x % 2 ^ n / 2 ^ k ≡ x / 2 ^ k % 2 ^ (place - k)) cut (field x (place - k) k))
      ∙ between (x % 2 ^ place) a b)))

  alike_formed : (width : ℕ) → place ≤ width → WellFormed width alike
  alike_formed width w =
      let p = pow_mono {i = place} {j = width} w in
      let q = pow_pos place in
      let e = native.Mathlib.Nat.mod-eq_of_lt hl in
      record { below = omega (arith, p, q); inside = meets_inside l alike (alike_meets l (omega (arith, e)) (omega (arith, e, le))) }

  -- joined with a mask
  pub joined_shares : (m r a : Mask) → a.care ≡ alike.care → a.value ≡ alike.value → join m a ≡ Ok r → Shares place m l h r
  joined_shares m r a care value e =
      let a_is : a ≡ alike = ap₂ (λ (c v : ℕ). record { care = c; value = v }) care value in
      let j : join m alike ≡ Ok r = subst (λ (n : Mask). join m n ≡ Ok r) a_is e in
      record {
        formed = λ width w f. subst (WellFormed width) (join_mask m alike r j).mask (joined_formed width m alike f (alike_formed width w));
        more = let e = ap (λ (n : Mask). n.care) (join_mask m alike r j).mask in omega (arith, or_add_and m.care alike.care, and_le_r m.care alike.care, e);
        less = λ x met. ((join_meets m alike r x j).0 met).0;
        kept = λ x met low high. (join_meets m alike r x j).1 (met, alike_meets x low high);
      }
