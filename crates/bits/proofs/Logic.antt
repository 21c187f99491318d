-- The bits of the bitwise operations. Assumes nothing.
use mathlib.Core.Path.{◌≡◌, ap, ◌∙◌}
use Prim.Native.Nat.{ℕ, ◌/◌, ◌%◌, ◌^◌}
use lib.Bits.{bit_and, bit_or, bit_xor, and_shr, and_mod, or_shr, or_mod, xor_shr, xor_mod}
use Rattle.bits.specs.Bit.{bit}

pub bit_of_and : (x y i : ℕ) → bit (bit_and x y) i ≡ bit_and (bit x i) (bit y i)
bit_of_and x y i = ap (λ (u : ℕ). u % 2) (and_shr x y i) ∙ and_mod (x / 2 ^ i) (y / 2 ^ i) 1

pub bit_of_or : (x y i : ℕ) → bit (bit_or x y) i ≡ bit_or (bit x i) (bit y i)
bit_of_or x y i = ap (λ (u : ℕ). u % 2) (or_shr x y i) ∙ or_mod (x / 2 ^ i) (y / 2 ^ i) 1

pub bit_of_xor : (x y i : ℕ) → bit (bit_xor x y) i ≡ bit_xor (bit x i) (bit y i)
bit_of_xor x y i = ap (λ (u : ℕ). u % 2) (xor_shr x y i) ∙ xor_mod (x / 2 ^ i) (y / 2 ^ i) 1
