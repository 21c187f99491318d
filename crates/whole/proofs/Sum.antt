-- Where x, y and the carry in are fixed and nothing else is, one case fits, the sum, and the reply is that case whatever the random words.
-- Assumes nothing.
use Rattle.std.specs.Prelude.{Ok}
use mathlib.Core.Path.{◌≡◌, sym, ap, ap₂, ◌∙◌}
use mathlib.Core.Logic.{inr}
use Prim.Native.Nat.{ℕ, ◌+◌, ◌-◌, ◌*◌, ◌%◌, ◌^◌, ◌≤◌, ◌<◌}
use native.Mathlib.Nat.{div-one, mod-lt, mod-eq_of_lt, add-mul-mod_self_left}
use native.Mathlib.Numerals.{add-one}
use native.Mathlib.Omega.{arith}
use lib.Bits.{bit_and, bit_xor, and_mask}
use lib.Pow.{pow_pos, pow_mono}
use Rattle.bits.specs.Bit.{bit}
use Rattle.format.specs.Limits.{least_length, most_length}
use Rattle.mask.specs.Mask.{WellFormed}
use Rattle.columns.specs.Carry.{carry}
use Rattle.columns.proofs.Carry.{carry_zero, sum_total, carries_bit, carries_lt}
use Rattle.whole.specs.declared.Words.{Words}
use Rattle.whole.specs.declared.Case.{Case}
use Rattle.whole.specs.Fits.{Adds, Fits}
use Rattle.whole.specs.Sum.{all_fixed, addends}
use Rattle.whole.specs.Reply.{Replied}
use Rattle.whole.proofs.Choosing.{same_case}
use Rattle.whole.proofs.Taken.{job_none}

-- the case that a sum makes
abbrev pub sum_case : ℕ → ℕ → ℕ → ℕ → Case
sum_case n x y c = record { x = x; y = y; z = (x + y + c) % 2 ^ n; carries = bit_xor (bit_xor x y) (x + y + c) }

-- a mask that fixes the low k bits
low_fixed : (k v width : ℕ) → v < 2 ^ k → k ≤ width → WellFormed width (all_fixed k v)
low_fixed k v width h l = record {
  below = omega (arith, pow_pos k, pow_mono {i = k} {j = width} l);
  inside = and_mask v k ∙ mod-eq_of_lt h;
}

-- bit 0 is what a mask of one bit leaves
lowest_bit : (d : ℕ) → bit d 0 ≡ bit_and d (2 ^ 1 - 1)
lowest_bit d = ap (λ (u : ℕ). u % 2) (div-one d) ∙ sym (and_mask d 1)

module _ (n x y c : ℕ) (least : least_length ≤ n) (hx : x < 2 ^ n) (hy : y < 2 ^ n) (hc : c < 2) where
  sum_adds : Adds n (sum_case n x y c)
  sum_adds =
      let first : bit (bit_xor (bit_xor x y) (x + y + c)) 0 ≡ c = carries_bit x y c hc 0 ∙ carry_zero x y c in
      record {
        x_lt = hx;
        y_lt = hy;
        z_lt = mod-lt (x + y + c) (pow_pos n);
        carries_lt = rw add-one (carries_lt x y c hc n hx hy);
        row = λ i l. carries_bit x y c hc i ∙ ap (λ (u : ℕ). carry x y u i) (sym first);
        total = ap (λ (u : ℕ). x + y + u) first ∙ sum_total x y c n hx hy ∙ ap (λ (u : ℕ). (x + y + c) % 2 ^ n + 2 ^ n * u) (sym (carries_bit x y c hc n));
      }

  sum_fits : Fits n (addends n x y c) (sum_case n x y c)
  sum_fits = record {
    adds = sum_adds;
    x_meets = and_mask x n ∙ mod-eq_of_lt hx;
    y_meets = and_mask y n ∙ mod-eq_of_lt hy;
    z_meets = and_mask ((x + y + c) % 2 ^ n) 0 ∙ omega arith;
    carries_meets = sym (lowest_bit (bit_xor (bit_xor x y) (x + y + c))) ∙ carries_bit x y c hc 0 ∙ carry_zero x y c;
  }

  -- a fitting case has these numbers
  sum_only : (d : Case) → Fits n (addends n x y c) d → (d.x ≡ x) × (d.y ≡ y) × (d.z ≡ (x + y + c) % 2 ^ n)
  sum_only d f =
      let a = f.adds in
      let ex : d.x ≡ x = sym (mod-eq_of_lt a.x_lt) ∙ sym (and_mask d.x n) ∙ f.x_meets in
      let ey : d.y ≡ y = sym (mod-eq_of_lt a.y_lt) ∙ sym (and_mask d.y n) ∙ f.y_meets in
      let ec : bit d.carries 0 ≡ c = lowest_bit d.carries ∙ f.carries_meets in
      let total : x + y + c ≡ d.z + 2 ^ n * bit d.carries n =
      sym (ap₂ (λ (u v : ℕ). u + v + c) ex ey) ∙ ap (λ (u : ℕ). d.x + d.y + u) (sym ec) ∙ a.total
      in (
        ex,
        ey,
        sym (ap (λ (u : ℕ). u % 2 ^ n) total ∙ add-mul-mod_self_left d.z (2 ^ n) (bit d.carries n) ∙ mod-eq_of_lt a.z_lt),
      )

  pub sum_replied : n ≤ most_length → (w : Words) → w.x < 2 ^ n → w.y < 2 ^ n → w.z < 2 ^ n
      → Replied (record { length = n; masks = addends n x y c; words = w }) (Ok (sum_case n x y c))
  sum_replied most w wx wy wz = (
    (job_none (record { length = n; masks = addends n x y c; words = w })).1 (record {
      least = least;
      most = most;
      formed = record {
        x = low_fixed n x n hx (omega arith);
        y = low_fixed n y n hy (omega arith);
        z = low_fixed 0 0 n (omega arith) (omega arith);
        carries = low_fixed 1 c (n + 1) hc (omega arith);
      };
      words = (wx, wy, wz);
    }),
    record {
      fits = sum_fits;
      least = λ d f. let e = sum_only d f in inr (e.0, inr (e.1, inr (e.2, same_case n (sum_case n x y c) d least sum_adds f.adds e.0 e.1 e.2)));
    },
  )
