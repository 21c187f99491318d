-- What 64 bits have room for in every supported format. Beside the limits themselves these three facts are all that a proof knows of the
-- greatest widths, so other limits ask for no other proof where these facts hold of them. Assumes nothing.
use Prim.Native.Nat.{◌+◌, ◌≤◌}
use native.Mathlib.Omega.{arith}
use Rattle.format.specs.declared.Format.{Format}
use Rattle.format.specs.Format.{Supported, word_bits, precision}

module _ (F : Format) (ok : Supported F) where
  -- a word
  pub word_room : word_bits F ≤ 64
  word_room = let w = ok.w_most in let f = ok.f_most in omega arith

  -- a significand, and eleven bits more for what is added below it and for carries above it
  pub significand_room : precision F + 11 ≤ 64
  significand_room = let f = ok.f_most in omega arith

  -- an exponent field, with room for sums of some exponents
  pub exponent_room : F.w ≤ 16
  exponent_room = let w = ok.w_most in omega arith
