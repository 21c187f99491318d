-- The limits of the plain numbers, each in this one place (document 01, "Numbers of a format", "The rounded result", "Masks and choice").
-- Assumes nothing.
use Rattle.std.specs.Prelude.{Bool, ◌&&◌, ℕ, leb}

-- w exponent bits (2 to 11: document 02, W-202)
abbrev pub least_exponent_bits : ℕ
least_exponent_bits = 2

abbrev pub most_exponent_bits : ℕ
most_exponent_bits = 11

-- f fraction bits (2 to 52)
abbrev pub least_fraction_bits : ℕ
least_fraction_bits = 2

abbrev pub most_fraction_bits : ℕ
most_fraction_bits = 52

-- operation 0 adds, 1 subtracts
abbrev pub most_operation : ℕ
most_operation = 1

-- modes 0 to 4 (document 02, W-201)
abbrev pub most_mode : ℕ
most_mode = 4

-- whole numbers: length N from 1 to 32
abbrev pub least_length : ℕ
least_length = 1

abbrev pub most_length : ℕ
most_length = 32

-- g dropped bits (0 to 8: document 02, W-206)
abbrev pub most_dropped : ℕ
most_dropped = 8

-- n lies between two limits, both included
abbrev pub within : ℕ → ℕ → ℕ → Bool
within least most n = leb least n && leb n most
