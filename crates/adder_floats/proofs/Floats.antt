-- When a pattern is a float's, and when a float's bits may be read: neither is a NaN. Assumes nothing.
use Rattle.std.proofs.Common.{◌≡◌, ℕ, ◌*◌, ◌%◌, Bool, true, false, not, T, ltb, sym, ◌∙◌, subst}
use mathlib.Core.Bool.{false≢true}
use lib.Ieee.{Format, Float, nan, inf, fin, eq, is_nan, hid, ones, top, nan_bits}
use lib.Ieee.Bits.{nan_bits_above}

-- the word x, read as w, was not found above infinity's
pub no_nan : (B : Format) {w x : ℕ} {r : Bool} → w ≡ x → r ≡ ltb (ones B * hid B) (w % top B) → r ≡ false → T (not (nan_bits B x))
no_nan B {w = w} same above left = subst (λ (n : ℕ). T (not (nan_bits B n))) same (subst (λ (b : Bool). T (not b)) (sym (nan_bits_above B w ∙ sym above ∙ left)) tt)

-- a float that equals itself
pub number : (z : Float) → eq z z ≡ true → T (not (is_nan z))
unfolding eq is_nan
number nan e = absurd (false≢true e)
number (inf s) e = tt
number (fin s m d) e = tt
